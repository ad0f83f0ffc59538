-- What a route holds.
use Rattle.std.specs.Prelude.{ℕ, List, take, ℤ}
use Rattle.forms.specs.declared.route.Route.{Route}

-- the source that the leaf names
abbrev pub from_source : Route → ℤ
from_source r = r.source

-- the positions of the keep and put forms on the way up
abbrev pub steps_of : Route → List ℕ
steps_of r = take r.len r.steps
