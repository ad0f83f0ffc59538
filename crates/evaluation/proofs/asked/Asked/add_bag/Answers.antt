use Rattle.std.proofs.Common.{◌≤◌, ◌∙◌, arith, w64}
use Rattle.std.proofs.Math.Pow.{pow_mono}
use Rattle.std.proofs.lemmas.Int.{to_z-of_z}
use Rattle.forms.proofs.Parts.{bags, reached}
use Rattle.evaluation.proofs.Typed.{bag_added, leaf_added, leaf_adds}
use Rattle.evaluation.proofs.asked.Asked.add_bag.Goals as goal

pub add_leaf-total-requires : goal.add_leaf-total-requires
add_leaf-total-requires g c =
    let h = c.requires in
    let found = c.in-Some-find_route.ensures h.tree h.is in
    (_, leaf_adds h found.0 (rw c.in-Some.ensures.steps.0 c.loop-nth.invariant.0) found.1)

pub loop-nth-preserved : goal.loop-nth-preserved
loop-nth-preserved g c =
    let h = c.requires in
    let found = c.in-Some-find_route.ensures h.tree h.is in (
      rw c.in-Some.ensures.steps.1 (
          to_z-of_z w64 c.add_leaf-total.result (record { sfits = c.add_leaf-total.type_inv })
          ∙ c.add_leaf-total.ensures _ (leaf_adds h found.0 (rw c.in-Some.ensures.steps.0 c.loop-nth.invariant.0) found.1)
          ∙ leaf_added h found.0 (rw c.in-Some.ensures.steps.0 c.loop-nth.invariant.0)),
      omega (arith, c.in-Some.ensures.steps.1, found.2),
    )

-- the numbers do not end before the leaves
pub returns-in-None : goal.returns-in-None
returns-in-None g c b is =
    let below : c.args.bag ≤ 63 = omega (arith, c.args.self.now.few, reached bags (λ _. Unit {0}) c.args.self.now.entries.now c.args.bag (b, is, tt)) in
    absurd (omega (arith, c.in-None.ensures.steps.0, c.loop-nth.invariant.1, pow_mono below))

pub returns-in-None-find_route : goal.returns-in-None-find_route
returns-in-None-find_route g c =
    let h = c.requires in
    bag_added h (omega (arith, c.in-Some.ensures.steps.0, c.in-None-find_route.ensures h.tree h.is)) c.loop-nth.invariant.0
