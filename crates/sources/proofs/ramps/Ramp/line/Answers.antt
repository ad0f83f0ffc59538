use Rattle.std.proofs.Common.{◌≡◌, ◌<◌, true, IfSome, sym, subst, arith}
use Rattle.std.proofs.lemmas.Grind.{common_steps}
use Rattle.std.proofs.lemmas.Option.{IfSome_then}
use Rattle.sources.specs.Lines.{line, line_sound}
use Rattle.sources.specs.Shapes.{sized_tells}
use Rattle.sources.specs.declared.ramps.Line.{Line}
use Rattle.sources.proofs.ramps.Ramp.line.Goals as goal

pub returns-clause-sound : goal.returns-clause-sound
returns-clause-sound c =
    let r = c.args.self.now in
    let lines = sized_tells r.width r.count (λ j. line_sound r.count (line r.lines j)) r.sound in
    let there : IfSome c.copied.result (λ l. (c.args.column < r.width) × (l ≡ line r.lines c.args.column)) = grind (arith, common_steps) in
    IfSome_then c.copied.result there (λ l h. subst (λ (m : Line). line_sound r.count m ≡ true) (sym h.1) (lines.each_column c.args.column h.0))
