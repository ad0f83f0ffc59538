use Rattle.std.proofs.Common.{arith}
use Rattle.std.proofs.lemmas.Result.{err_from_is_err_and}
use Rattle.forms.proofs.Parts.{bags, reached}
use Rattle.forms.proofs.Routes.{pooled, sought_first, sought_second, sought_up, sought_up_none, upward}
use Rattle.forms.proofs.bags.+seek.Goals as goal

pub form_at-requires : goal.form_at-requires
form_at-requires t c = reached bags (λ _. Unit {0}) c.args.entries.now c.args.at (c.requires.is.0, c.requires.is.1, tt)

pub seek-requires-in-Keep : goal.seek-requires-in-Keep
seek-requires-in-Keep t c =
    let u = upward _ _ _ _ _ c.requires.is.1 c.form_at.ensures.stands c.in-Keep.is in
    (omega (arith, u.below, c.decreases), (c.requires.few, (u.x, u.is)))

pub push-requires : goal.push-requires
push-requires t c =
    let u = upward _ _ _ _ _ c.requires.is.1 c.form_at.ensures.stands c.in-Keep.is in
    omega (arith, (c.in_ok-route-in-Keep.ensures u.x u.is).2, u.below, c.requires.few, reached bags (λ _. Unit {0}) c.args.entries.now c.args.at (c.requires.is.0, c.requires.is.1, tt))

pub returns-in_err-route-in-Keep : goal.returns-in_err-route-in-Keep
returns-in_err-route-in-Keep t c = λ b e.
    let u = upward _ _ _ _ _ e c.form_at.ensures.stands c.in-Keep.is in
    let p = err_from_is_err_and c.from_residual.result c.from_residual.ensures.1 in
    rw (p.1, p.2) (sought_up_none u _ (c.in_err-route-in-Keep.ensures u.x u.is))

pub returns-in_ok-route-in-Keep : goal.returns-in_ok-route-in-Keep
returns-in_ok-route-in-Keep t c = λ b e.
    let u = upward _ _ _ _ _ e c.form_at.ensures.stands c.in-Keep.is in
    sought_up u (c.in_ok-route-in-Keep.ensures u.x u.is) c.push.ensures.source c.push.ensures.steps

pub seek-requires : goal.seek-requires
seek-requires t c =
    let i = pooled _ _ _ _ _ c.requires.is.1 c.in-Pool.ensures.stands in
    (omega (arith, i.first.below, c.decreases), (c.requires.few, (i.x, i.first.is)))

pub seek-requires-in-Err : goal.seek-requires-in-Err
seek-requires-in-Err t c =
    let i = pooled _ _ _ _ _ c.requires.is.1 c.in-Pool.ensures.stands in
    (omega (arith, i.second.below, c.decreases), (c.requires.few, (i.y, i.second.is)))

pub returns-in-Ok : goal.returns-in-Ok
returns-in-Ok t c = λ b e. let i = pooled _ _ _ _ b e c.in-Pool.ensures.stands in sought_first i (c.in-Ok.ensures i.x i.first.is)

pub returns-in-Err : goal.returns-in-Err
returns-in-Err t c = λ b e. let i = pooled _ _ _ _ b e c.in-Pool.ensures.stands in sought_second i _ _ (c.in-Err.ensures i.x i.first.is) (c.seek-in-Err.ensures i.y i.second.is)
