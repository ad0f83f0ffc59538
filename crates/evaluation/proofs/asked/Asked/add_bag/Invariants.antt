use Rattle.std.proofs.Common.{◌≡◌, ◌≤◌, ◌-◌, ◌^◌, length, take}
use Rattle.forms.specs.Leaves.{leaves_total}
use Rattle.forms.specs.Table.{part_at}
use Rattle.evaluation.specs.Addends.{added}
use Rattle.evaluation.specs.Plants.{plant_of}
use Rattle.evaluation.specs.Sums.{sources_of}
use Rattle.evaluation.proofs.Typed.{leaves_of}
use Rattle.evaluation.proofs.asked.Asked.add_bag.Given as goal

-- the leaves before the next one are added; its number stays small, so that the numbers do not end before the leaves
abbrev pub invariant-loop-nth : goal.invariant-loop-nth
invariant-loop-nth g l = (l.total ≡ leaves_total (added l.self.entries.now l.addend) (sources_of (plant_of g.A.Source.meaning g.B.Source.meaning l.self.plant.now)) (take l.nth-iterator.start (leaves_of (part_at l.self.entries.now l.bag)))) × (l.nth-iterator.start ≤ 2 ^ l.bag)

abbrev pub decreases-loop-nth : goal.decreases-loop-nth
decreases-loop-nth g l = length (leaves_of (part_at l.self.entries.now l.bag)) - l.nth-iterator.start
