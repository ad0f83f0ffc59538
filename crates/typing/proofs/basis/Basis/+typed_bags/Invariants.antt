-- A bag's parts stand before it; it is drafted before it is noted.
use Rattle.std.proofs.Common.{◌+◌, ◌*◌}
use Rattle.typing.proofs.basis.Basis.+typed_bags.Given as goal

abbrev pub decreases-bag : goal.decreases-bag
decreases-bag l = 2 * l.at + 1

abbrev pub decreases-draft_bag : goal.decreases-draft_bag
decreases-draft_bag l = 2 * l.at
