-- A number's parts stand before it; it is drafted before it is settled.
use Rattle.std.proofs.Common.{◌+◌, ◌*◌, max}
use Rattle.typing.proofs.basis.Basis.+typed_numbers.Given as goal

abbrev pub decreases-draft_number : goal.decreases-draft_number
decreases-draft_number l = 3 * l.at

abbrev pub decreases-number : goal.decreases-number
decreases-number l = 3 * l.at + 1

abbrev pub decreases-two_numbers : goal.decreases-two_numbers
decreases-two_numbers l = 3 * max l.left l.right + 2
