use Rattle.forms.proofs.terms.+terms_and_conditions.Given as goal

abbrev pub decreases-eval_condition : goal.decreases-eval_condition
decreases-eval_condition l = l.at

abbrev pub decreases-eval_term : goal.decreases-eval_term
decreases-eval_term l = l.at
