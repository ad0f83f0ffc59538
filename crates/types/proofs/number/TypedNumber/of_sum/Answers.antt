use Rattle.std.proofs.Common.{◌≡◌, max, true, nat_abs, Ok, ap, ◌∙◌, ap₂, w64, rules}
use lib.Signed.{le_z}
use Rattle.rules.specs.Amounts.{times}
use Rattle.rules.specs.Ranges.{totals}
use Rattle.rules.specs.Typing.{unbound}
use Rattle.std.proofs.lemmas.Int.{to_z-of_z}
use Rattle.stacks.specs.Stack.{stacked}
use Rattle.types.proofs.number.TypedNumber.of_sum.Goals as goal

pub returns : goal.returns
returns c = λ v.
    let bag = c.args.bag.now in
    let low = to_z-of_z w64 c.args.low c.ranges.low in
    let high = to_z-of_z w64 c.args.high c.ranges.high in
    let ordered : le_z c.args.low c.args.high ≡ true = search rules in
    let same =
    c.unbound.ensures v
    ∙ ap₂ (unbound (stacked v))
    (c.totals.ensures ∙ ap₂ (totals bag.shape.limit) low high)
    (c.times.ensures ∙ ap (λ n. times n bag.inputs) (c.max-most.ensures ∙ ap₂ max (c.unsigned_abs.ensures.value ∙ ap nat_abs low) (c.unsigned_abs-2.ensures.value ∙ ap nat_abs high))) in
    rw ordered (ap Ok same)
