use Rattle.std.proofs.Common.{◌≡◌, ℕ, true, cond, ltb, pos, sym, ◌∙◌, ap₂, inl, inr, arith, rules, tests}
use Rattle.std.proofs.lemmas.Bool.{cases_lt, cond-true}
use Rattle.std.proofs.lemmas.List.{get_or_past}
use Rattle.sources.specs.Shapes.{column, range}
use Rattle.sources.specs.Unions.{hull}
use Rattle.types.proofs.Columns.{hulls_listed, made_at}
use Rattle.types.proofs.bag.united_columns.Goals as goal

pub returns-clause-columns : goal.returns-clause-columns
returns-clause-columns c =
    let a = c.args.a.now in
    let b = c.args.b.now in
    let w = c.args.width in
    let made = c.from_fn.result in
    let none = range (pos 0) (pos 0) in
    let joined = λ (k : ℕ). cond (ltb k w) (hull (column a k) (column b k)) none in
    hulls_listed (column a) (column b) (column made) w none
    (λ k h.
    let inside : ltb k w ≡ true = search (rules, tests) in
    elim (cases_lt k 6) [
      | inl below ↦ made_at _ joined _ made 0 6 none c.from_fn.ensures.items.each (λ i y q l m e. search (rules, tests)) k (omega arith) (omega arith) ∙ cond-true (ltb k w) (hull (column a k) (column b k)) none inside
      | inr past ↦ get_or_past made k none (omega (arith, c.from_fn.ensures.items.long)) ∙ sym (ap₂ hull (get_or_past a k none (omega arith)) (get_or_past b k none (omega arith)))
    ])
