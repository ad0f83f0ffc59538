use Rattle.std.proofs.Common.{ℕ, List, length, sym, ap, ◌∙◌, rules, tests}
use Rattle.std.proofs.lemmas.Iterator.Consumers.{count_from_yields_List}
use Rattle.std.proofs.lemmas.Iterator.Splits.{YieldsList-from_slice_split}
use Rattle.std.proofs.lemmas.Slice.{first_rest}
use Rattle.std.specs.List.{between}
use Rattle.lines.proofs.heading.count_pieces.Goals as goal
use Rattle.lines.specs.Heading.{pieces_in}
use Rattle.lines.specs.Split.{space}

pub returns-in-len1-up : goal.returns-in-len1-up
returns-in-len1-up c =
    count_from_yields_List c.split.result c.count.result c.count.ensures.ran (YieldsList-from_slice_split _ space (between 1 (length c.args.pieces.now) c.args.pieces.now) c.split.ensures.rest c.split.ensures.done c.split.ensures.closure (λ x b q k. search (rules, tests)))
    ∙ sym (ap (λ (bs : List ℕ). length (pieces_in bs)) (first_rest c.args.pieces.now 0 (search rules)))
