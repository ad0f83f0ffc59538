use Rattle.checking.proofs.Queries.{query_holds}
use Rattle.checking.proofs.query.Query.fill.Goals as goal
use Rattle.forms.specs.Held.{held}
use Rattle.trees.specs.Size.{max_depth}
use Rattle.types.specs.Shown.{number_shown}

pub invariant_of-self : goal.invariant_of-self
invariant_of-self c =
    let d = c.in-Ok.ensures in
    record { typed = query_holds (held c.read_typed.new.table) c.args.call.now.catalogue.now d.tree (number_shown max_depth c.in-Ok.typed) d.holds d.typed }
