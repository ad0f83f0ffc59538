use Rattle.std.proofs.Common.{◌∙◌, arith, w64}
use Rattle.std.proofs.lemmas.Int.{to_z-of_z}
use Rattle.evaluation.proofs.Tallies.{not_summed, right_put, right_skip, tally_adds, tally_right}
use Rattle.evaluation.proofs.asked.Asked.totals.Goals as goal
use Rattle.evaluation.proofs.asked.Asked.totals.Goals.{in-Some, in_default}

pub add_bag-requires : goal.add_bag-requires
add_bag-requires g c = tally_adds c.requires c.loop-at-test.true _ c.form_at.ensures.stands c.in-Some.ensures

pub loop-at-preserved : goal.loop-at-preserved
loop-at-preserved g c =
    elim c.match-tally_of.branch [
      | in-Some w ↦
          let bits = to_z-of_z w64 w.add_bag.result (record { sfits = w.add_bag.type_inv }) in
          let right = tally_right c.requires c.loop-at-test.true _ c.form_at.ensures.stands w.in-Some.ensures w.add_bag.ensures in
          rw w.totals-is (right_put _ _ _ _ c.loop-at.invariant (omega (arith, c.loop-at-test.true, c.args.self.now.few)) (λ m at _. bits ∙ right m at))
      | in_default w ↦ rw w.totals-is (right_skip _ _ _ _ c.loop-at.invariant (not_summed _ _ _ c.form_at.ensures.stands w.in_default.ensures))
    ]
