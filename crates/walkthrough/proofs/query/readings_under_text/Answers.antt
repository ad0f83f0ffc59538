use mathlib.Core.Path.{refl}
use Rattle·std.specs.Written.{digits}
use Rattle·walkthrough·proofs.query.readings_under_text.Needs as need

pub returns : need.returns
unfolding digits
returns c = refl
