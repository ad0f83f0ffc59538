use Rattle.std.proofs.Common.{refl, arith}
use Rattle.lines.specs.declared.token.Token.TheVariants.{Opening, Leaf}
use Rattle.reading.proofs.Places.{room_for}
use Rattle.reading.proofs.progress.Progress.step.Goals as goal

pub open-requires-clause-few : goal.open-requires-clause-few
open-requires-clause-few c =
    (room_for c.innermost-innermost.result c.len.result c.args.self.now.forms c.args.last c.args.token (Opening c.in_default-Opening.heading c.in_default-Opening.line) c.placed.result c.placed.ensures c.in_ok-placed.was c.in_default-Opening.is-1 refl).1

pub open-requires-clause-shallow : goal.open-requires-clause-shallow
open-requires-clause-shallow c =
    omega (arith, c.len.ensures, room_for c.innermost-innermost.result c.len.result c.args.self.now.forms c.args.last c.args.token (Opening c.in_default-Opening.heading c.in_default-Opening.line) c.placed.result c.placed.ensures c.in_ok-placed.was c.in_default-Opening.is-1 refl)

pub begin-form-requires-clause-few : goal.begin-form-requires-clause-few
begin-form-requires-clause-few c =
    (room_for c.innermost-innermost.result c.len.result c.args.self.now.forms c.args.last c.args.token (Leaf c.in_default-Leaf.heading c.in_default-Leaf.line) c.placed.result c.placed.ensures c.in_ok-placed.was c.in_default-Leaf.is-1 refl).1
