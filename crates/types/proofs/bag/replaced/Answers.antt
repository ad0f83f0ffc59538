use Rattle.std.proofs.Common.{◌≡◌, ℕ, false, cond, eqb, ltb, pos, inl, inr, arith, rules, tests, ◌∙◌}
use Rattle.std.proofs.lemmas.Bool.{cases_lt, cond-false}
use Rattle.std.proofs.lemmas.List.{get_or_past}
use Rattle.sources.specs.Shapes.{column, range}
use Rattle.types.proofs.Columns.{made_at}
use Rattle.types.proofs.bag.replaced.Goals as goal

pub returns-clause-behind : goal.returns-clause-behind
returns-clause-behind c = λ j h.
    let s = c.args.shape.now in
    let made = c.from_fn.result in
    let none = range (pos 0) (pos 0) in
    let cell = λ (k : ℕ). cond (eqb k c.args.at) c.args.range (cond (ltb k s.width) (column s.columns k) none) in
    let other : eqb j c.args.at ≡ false = search (rules, tests) in
    let past_width : ltb j s.width ≡ false = search (rules, tests) in
    elim (cases_lt j 6) [
      | inl below ↦ made_at _ cell _ made 0 6 none c.from_fn.ensures.items.each (λ i y q l m e. search (rules, tests)) j (omega arith) (omega arith) ∙ cond-false (eqb j c.args.at) c.args.range (cond (ltb j s.width) (column s.columns j) none) other ∙ cond-false (ltb j s.width) (column s.columns j) none past_width
      | inr past ↦ get_or_past made j none (omega (arith, c.from_fn.ensures.items.long))
    ]
