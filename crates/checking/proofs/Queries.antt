-- The truth value in a query's type says that it is empty or typed.
use Rattle.std.proofs.Common.{◌≡◌, ℕ, ◌-◌, true, ◌&&◌, eqb, List, [], ◌∷◌, length, Some, None, Ok, Err, Option, Result, sym, refl, ap, ◌∙◌, ap₂, inl, inr, arith}
use Rattle.refusals.specs.declared.Refusal.{Refusal}
use Rattle.sources.specs.declared.shapes.Range.{Range}
use Rattle.std.proofs.lemmas.Bool.{and_from, and_parts, eq-eqb, eqb-true, false≢true}
use Rattle.trees.specs.Size.{size}
use Rattle.forms.proofs.Parts.{same_number}
use Rattle.forms.specs.declared.form.Entry.{Entry}
use Rattle.forms.specs.Table.{NumberTree, as_number, part_at}
use Rattle.reading.specs.Law.{HoldsLined}
use Rattle.rules.proofs.Same.{range_itself, range_tells}
use Rattle.rules.specs.Amounts.{amounts, none}
use Rattle.rules.specs.Ranges.{same_range}
use Rattle.rules.specs.Typing.{NumberType, number_typed}
use Rattle.rules.specs.declared.amounts.Amounts.{Amounts}
use Rattle.rules.specs.declared.catalogue.Catalogue.{Catalogue}
use Rattle.typing.proofs.NumberSteps.{number_some}
use Rattle.checking.proofs.Opening.{lined_says}
use Rattle.checking.specs.Opening.{is_lined}
use Rattle.checking.specs.Typed.{IsQuery, TypedQuery, has_type, is_query, is_typed, same_amounts, tree_of, zero_range}

amounts_tell : (a b : Amounts) → same_amounts a b ≡ true → a ≡ b
amounts_tell a b e =
    let p = and_parts (eqb a.source_0 b.source_0) _ e in
    let q = and_parts (eqb a.source_1 b.source_1) _ p.1 in
    let r = and_parts (eqb a.setting_0 b.setting_0) (eqb a.setting_1 b.setting_1) q.1 in
    ap₂ (λ (w x : ℕ). amounts w x a.setting_0 a.setting_1) (eqb-true a.source_0 b.source_0 p.0) (eqb-true a.source_1 b.source_1 q.0)
    ∙ ap₂ (λ (y z : ℕ). amounts b.source_0 b.source_1 y z) (eqb-true a.setting_0 b.setting_0 r.0) (eqb-true a.setting_1 b.setting_1 r.1)

amounts_same : (a : Amounts) → same_amounts a a ≡ true
amounts_same a =
    let p = eq-eqb a.setting_0 a.setting_0 refl in
    let q = eq-eqb a.setting_1 a.setting_1 refl in
    and_from (eqb a.source_0 a.source_0) (eqb a.source_1 a.source_1 && (eqb a.setting_0 a.setting_0 && eqb a.setting_1 a.setting_1)) (eq-eqb a.source_0 a.source_0 refl)
    (and_from (eqb a.source_1 a.source_1) (eqb a.setting_0 a.setting_0 && eqb a.setting_1 a.setting_1) (eq-eqb a.source_1 a.source_1 refl) (and_from (eqb a.setting_0 a.setting_0) (eqb a.setting_1 a.setting_1) p q))

-- a table that holds a typed number is a query
pub query_holds : (es : List Entry) (c : Catalogue) (t : NumberTree) (x : NumberType) → HoldsLined es t → number_typed 1 c [] t ≡ Ok x → is_query es c x.range x.inputs ≡ true
query_holds [] c t x h e = absurd (omega (arith, h.0.1, number_some t c))
query_holds (y ∷ ys) c t x h e =
    let es = y ∷ ys in
    let typed : has_type (number_typed 1 c [] t) x.range x.inputs ≡ true = ap (λ (r : Result NumberType Refusal). has_type r x.range x.inputs) e ∙ and_from (same_range x.range x.range) (same_amounts x.inputs x.inputs) (range_itself x.range) (amounts_same x.inputs) in
    ap (λ (o : Option NumberTree). is_typed o es c x.range x.inputs) (ap as_number h.0.0)
    ∙ and_from (is_lined es t (length es - 1) 1 0) (eqb (length es) (size t) && has_type (number_typed 1 c [] t) x.range x.inputs) ((lined_says es t).holds (length es - 1) 1 0 h.1) (and_from (eqb (length es) (size t)) (has_type (number_typed 1 c [] t) x.range x.inputs) (eq-eqb (length es) (size t) h.0.1) typed)

typed_tells : (o : Option NumberTree) (es : List Entry) (c : Catalogue) (r : Range) (a : Amounts) → as_number (part_at es (length es - 1)) ≡ o → is_typed o es c r a ≡ true → TypedQuery es c r a
typed_tells None es c r a is e = absurd (false≢true e)
typed_tells (Some t) es c r a is e =
    let p = and_parts (is_lined es t (length es - 1) 1 0) (eqb (length es) (size t) && has_type (number_typed 1 c [] t) r a) e in
    let q = and_parts (eqb (length es) (size t)) (has_type (number_typed 1 c [] t) r a) p.1 in
    go ((same_number (part_at es (length es - 1)) t is, eqb-true (length es) (size t) q.0), (lined_says es t).tells (length es - 1) 1 0 p.0) (number_typed 1 c [] t) refl q.1
  where
    go : HoldsLined es t → (s : Result NumberType Refusal) → number_typed 1 c [] t ≡ s → has_type s r a ≡ true → TypedQuery es c r a
    go h (Ok x) f g =
        let w = and_parts (same_range x.range r) (same_amounts x.inputs a) g in
        record { tree = t; type = x; holds = h; typed = f; range_is = range_tells x.range r w.0; inputs_are = amounts_tell x.inputs a w.1 }
    go h (Err z) f g = absurd (false≢true g)

pub query_tells : (es : List Entry) (c : Catalogue) (r : Range) (a : Amounts) → is_query es c r a ≡ true → IsQuery es c r a
query_tells [] c r a e =
    let p = and_parts (same_range zero_range r) (same_amounts none a) e in
    inl (record { no_entries = refl; range_is = sym (range_tells zero_range r p.0); inputs_are = sym (amounts_tell none a p.1) })
query_tells (y ∷ ys) c r a e = inr (typed_tells (tree_of (y ∷ ys)) (y ∷ ys) c r a refl e)
