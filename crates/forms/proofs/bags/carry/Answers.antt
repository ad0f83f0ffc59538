use Rattle.std.proofs.Common.{ℕ, List, length, get_or, sym, ap, arith}
use Rattle.forms.proofs.Padding.{unseen}
use Rattle.forms.proofs.Routes.{ahead}
use Rattle.forms.proofs.Spreading.{spread}
use Rattle.forms.proofs.bags.carry.Goals as goal

pub pass-requires : goal.pass-requires
pass-requires c =
    let a = ahead _ _ c.loop-at.at-index _ _ _ (omega (arith, c.loop-at-test.true, ap length c.steps-steps.ensures)) (ap (λ (ps : List ℕ). get_or ps c.loop-at.at-index 0) c.steps-steps.ensures) (c.loop-at.invariant c.requires.0 c.requires.1 c.requires.2) in
    (a.s, a.here, a.calm)

pub loop-at-preserved : goal.loop-at-preserved
loop-at-preserved c = λ way l k.
    let a = ahead _ _ c.loop-at.at-index _ _ _ (omega (arith, c.loop-at-test.true, ap length c.steps-steps.ensures)) (ap (λ (ps : List ℕ). get_or ps c.loop-at.at-index 0) c.steps-steps.ensures) (c.loop-at.invariant way l k) in
    a.goes c.in_ok-carried.carried (sym (c.in_ok-carried.ensures a.s a.here))

pub returns-in_err-carried-clause-spread : goal.returns-in_err-carried-clause-spread
returns-in_err-carried-clause-spread c = spread

pub returns-in_err-carried-clause-unseen : goal.returns-in_err-carried-clause-unseen
returns-in_err-carried-clause-unseen c = unseen

pub returns-clause-spread : goal.returns-clause-spread
returns-clause-spread c = spread

pub returns-clause-unseen : goal.returns-clause-unseen
returns-clause-unseen c = unseen
