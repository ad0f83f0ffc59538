use Rattle.std.proofs.Common.{List, drop}
use Rattle.forms.specs.Leaves.{CalmWay, Leads, Step, carried}
use Rattle.forms.specs.Route.{steps_of}
use Rattle.forms.proofs.Routes.{Left}
use Rattle.forms.proofs.bags.carry.Given as goal

-- what is left of the way carries the row as the whole way carries the first row
abbrev pub invariant-loop-at : goal.invariant-loop-at
invariant-loop-at l =
    (way : List Step) → Leads l.entries (steps_of l.route) way → CalmWay way l.row → Left l.entries (drop l.at-index (steps_of l.route)) l.carried (carried way l.row)
