use Rattle.std.proofs.Common.{refl}
use Rattle.forms.specs.Table.{part_at, parts, parts_from}
use Rattle.walkthrough.proofs.query.readings_under.Goals as goal

pub returns : goal.returns
unfolding part_at parts parts_from
returns c = record { whole = refl; bag = refl }
