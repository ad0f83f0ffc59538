use Rattle.std.specs.Bool.{then_some}
use Rattle.std.proofs.Common.{◌≡◌, Bool, true, false, Option, Some, None, cond, refl, sym, ap, ◌∙◌, subst, arith, rules}
use Rattle.trees.specs.Meaning.{holds}
use Rattle.forms.specs.Leaves.{CalmStep, stepped}
use Rattle.forms.specs.Leaves.Step.{puts}
use Rattle.forms.specs.Limits.{cells}
use Rattle.forms.proofs.Routes.{keep_step, put_step, step_inside}
use Rattle.forms.proofs.Signs.{put_cell}
use Rattle.forms.proofs.bags.pass.Goals as goal

pub form_at-requires : goal.form_at-requires
form_at-requires c = step_inside c.args.entries.now c.args.at c.requires.0 c.requires.1

pub eval_condition-requires : goal.eval_condition-requires
eval_condition-requires c =
    let k = keep_step _ _ _ _ c.requires.0 c.in-Keep.ensures.stands c.requires.1 in
    record { tree = k.0; is = k.2; calm = subst (λ s. CalmStep s c.args.row) k.1 c.requires.2 }

pub eval_term-value-requires : goal.eval_term-value-requires
eval_term-value-requires c =
    let k = put_step _ _ _ _ _ c.requires.0 c.in-Put.ensures.stands c.requires.1 in
    let calm : CalmStep (puts c.in-Put.column k.0) c.args.row = subst (λ s. CalmStep s c.args.row) k.1 c.requires.2 in
    record { tree = k.0; is = k.2; calm = calm.1 }

some_where : {A : Type 0} (b : Bool) (x : A) → then_some b x ≡ cond b (Some x) None
some_where true x = refl
some_where false x = refl

pub returns-in-Keep : goal.returns-in-Keep
returns-in-Keep c = λ s h.
    let k = keep_step _ _ _ _ s c.in-Keep.ensures.stands h in
    c.then_some.ensures ∙ ap (λ b. then_some b c.args.row) (c.eval_condition.ensures k.0 k.2) ∙ some_where (holds k.0 c.args.row) c.args.row ∙ sym (ap (λ z. stepped z c.args.row) k.1)

pub returns-in-Put : goal.returns-in-Put
returns-in-Put c = λ s h.
    let k = put_step _ _ _ _ _ s c.in-Put.ensures.stands h in
    let j = put_step _ _ _ _ _ c.requires.0 c.in-Put.ensures.stands c.requires.1 in
    let calm : CalmStep (puts c.in-Put.column j.0) c.args.row = subst (λ s. CalmStep s c.args.row) j.1 c.requires.2 in
    ap (λ x. Some x) (put_cell c.args.row cells c.in-Put.column c.eval_term-value.result _ (omega arith) calm.0 (search rules) (c.eval_term-value.ensures k.0 k.2)) ∙ sym (ap (λ z. stepped z c.args.row) k.1)
