use Rattle.std.proofs.Common.{◌≡◌, length}
use Rattle.forms.specs.Limits.{room}
use Rattle.forms.specs.Totals.{RightBelow}
use Rattle.evaluation.specs.Plants.{plant_of}
use Rattle.evaluation.specs.Sums.{sources_of}
use Rattle.evaluation.proofs.asked.Asked.totals.Given as goal

-- the totals so far are right
abbrev pub invariant-loop-at : goal.invariant-loop-at
invariant-loop-at g l = (length l.totals ≡ room) × RightBelow l.self.entries.now l.totals (sources_of (plant_of g.A.Source.meaning g.B.Source.meaning l.self.plant.now)) l.at
