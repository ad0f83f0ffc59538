-- A form's parts stand before it; a form is drafted before it is settled.
use Rattle.std.proofs.Common.{◌+◌, ◌*◌, max}
use Rattle.typing.proofs.terms.TermBasis.+typed_terms.Given as goal

abbrev pub decreases-condition : goal.decreases-condition
decreases-condition l = 3 * l.at + 1

abbrev pub decreases-condition_parts : goal.decreases-condition_parts
decreases-condition_parts l = 3 * l.at

abbrev pub decreases-draft_term : goal.decreases-draft_term
decreases-draft_term l = 3 * l.at

abbrev pub decreases-term : goal.decreases-term
decreases-term l = 3 * l.at + 1

abbrev pub decreases-two_terms : goal.decreases-two_terms
decreases-two_terms l = 3 * max l.left l.right + 2
