use Rattle.std.proofs.Common.{◌≡◌, List, take, ◌+ℤ◌}
use Rattle.forms.specs.Leaves.{Step}
use Rattle.forms.specs.Route.{steps_of}
use Rattle.trees.specs.Meaning.{total}
use Rattle.evaluation.specs.Addends.{AddsRows, from_leaf}
use Rattle.evaluation.proofs.rows.Pass.add_rows.Given as goal

-- the first i rows are added
abbrev pub invariant-loop-i : goal.invariant-loop-i
invariant-loop-i g l =
    let m = g.S.Source.meaning l.source in
    (way : List Step) → AddsRows l.self.entries.now l.self.addend (steps_of l.self.route.now) m.width m.rows l.total way → l.sum ≡ l.total +ℤ total (from_leaf l.self.entries.now l.self.addend way) (take l.i m.rows)
