use Rattle.std.proofs.Common.{◌+◌, Err, sym, ap, ◌∙◌, arith}
use Rattle.reading.specs.declared.fault.FormFault.{FormFault}
use Rattle.std.proofs.lemmas.Result.{err_from_is_err_and}
use Rattle.forms.specs.Held.{held}
use Rattle.reading.proofs.Balance.{step_balanced}
use Rattle.reading.proofs.Cut.{turn_fault}
use Rattle.reading.proofs.Filling.{refused, some_left, turned}
use Rattle.reading.proofs.text.fill.Goals as goal
use Rattle.reading.specs.Progress.{state}

pub returns-in_err-token : goal.returns-in_err-token
returns-in_err-token c =
    let p = err_from_is_err_and c.from_residual.result c.from_residual.ensures.1 in
    let some = some_left _ _ c.is_empty.ensures c.loop-rest-test.true in
    refused c.args.text.now p.0 c.from_residual.result (held c.loop-rest.table) (sym c.loop-rest.invariant.0 ∙ turn_fault (state c.loop-rest.progress c.loop-rest.table) (c.loop-rest.line + 1) c.loop-rest.rest.now c.in_err-token.field-0.0 some (sym c.in_err-token.ensures.value) ∙ ap (λ (x : FormFault). Err x) (sym p.2)) p.1

pub returns-in_err-step : goal.returns-in_err-step
returns-in_err-step c =
    let p = err_from_is_err_and c.from_residual-in_err-step.result c.from_residual-in_err-step.ensures.1 in
    let some = some_left _ _ c.is_empty.ensures c.loop-rest-test.true in
    let t = turned (state c.loop-rest.progress c.loop-rest.table) _ _ _ _ _ some c.in_ok-token.ensures.value c.is_empty-in-loop-rest.ensures in
    refused c.args.text.now p.0 c.from_residual-in_err-step.result (held c.step.new.table) (sym c.loop-rest.invariant.0 ∙ t.goes _ c.in_err-step.ensures ∙ ap (λ (x : FormFault). Err x) (sym p.2)) p.1

pub loop-rest-smaller : goal.loop-rest-smaller
loop-rest-smaller c =
    let some = some_left _ _ c.is_empty.ensures c.loop-rest-test.true in
    (turned (state c.loop-rest.progress c.loop-rest.table) _ _ _ _ _ some c.in_ok-token.ensures.value c.is_empty-in-loop-rest.ensures).shorter

pub loop-rest-preserved : goal.loop-rest-preserved
loop-rest-preserved c =
    let some = some_left _ _ c.is_empty.ensures c.loop-rest-test.true in
    let t = turned (state c.loop-rest.progress c.loop-rest.table) _ _ _ _ _ some c.in_ok-token.ensures.value c.is_empty-in-loop-rest.ensures in (
      sym (t.goes _ c.in_ok-step.ensures) ∙ c.loop-rest.invariant.0,
      step_balanced (state c.loop-rest.progress c.loop-rest.table) c.is_empty-in-loop-rest.result c.in_ok-token.token (state c.step.new.self c.step.new.table) c.in_ok-step.ensures c.loop-rest.invariant.1,
      omega (arith, t.shorter, c.loop-rest.invariant.2),
    )
