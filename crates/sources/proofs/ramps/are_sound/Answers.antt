use Rattle.std.proofs.Common.{take, pos, ◌∙◌, rules, tests}
use Rattle.std.proofs.lemmas.Iterator.{YieldsList-from_slice}
use Rattle.std.proofs.lemmas.Iterator.Search.{all_from_yields_List}
use Rattle.sources.specs.Lines.{line_sound}
use Rattle.sources.proofs.Columns.{sized_all}
use Rattle.sources.proofs.ramps.are_sound.Goals as goal

pub returns-then-count-le-MAX_ROWS : goal.returns-then-count-le-MAX_ROWS
returns-then-count-le-MAX_ROWS c =
    let ls = c.args.lines.now in
    all_from_yields_List (line_sound c.args.count) _ _ _ c.all.ensures.ran (YieldsList-from_slice (take c.args.width ls) (cc)) (λ x b q k. search (rules, tests))
    ∙ sized_all ls (record { start = pos 0; step = pos 0 }) c.args.width (search rules) (line_sound c.args.count) c.args.count (search rules) (search rules) (search rules)
