use Rattle.std.proofs.Common.{refl}
use Rattle.std.specs.Fmt.{digits}
use Rattle.walkthrough.proofs.query.margin_text.Goals as goal

pub returns : goal.returns
unfolding digits
returns c = refl
