-- A plant without a reason to refuse it is one that fits.
use Rattle.std.proofs.Common.{◌≡◌, ℕ, ◌<◌, Bool, true, false, ◌&&◌, eqb, List, pos, is_some, None, Ok, Err, Result, sym, refl, ap, ◌∙◌, subst, arith}
use Rattle.refusals.specs.Rules.{or_else, or_else_none, reason, refusal, unless, unless_none}
use Rattle.refusals.specs.declared.Refusal.{Refusal}
use Rattle.rules.proofs.Same.{range_itself, range_tells}
use Rattle.rules.specs.Catalogue.{setting_range, source_shape}
use Rattle.rules.specs.Ranges.{same_range}
use Rattle.rules.specs.Sound.{Fitting, Plant, ShapedAs}
use Rattle.rules.specs.declared.catalogue.Catalogue.{Catalogue}
use Rattle.sources.specs.Indexed.{each, each_at, each_from, listed_at}
use Rattle.sources.specs.Shapes.{column, columns_of, range, within}
use Rattle.sources.specs.Source.{Lawful, Meaning}
use Rattle.sources.specs.declared.shapes.Range.{Range}
use Rattle.sources.specs.declared.shapes.Shape.{Shape}
use Rattle.std.proofs.lemmas.List.FromFn.{length-map-range_with_len}
use Rattle.std.proofs.lemmas.List.{ext_get_or}
use Rattle.std.proofs.lemmas.Bool.{and_from, and_parts, eq-eqb, eqb-true, true≢false}
use Rattle.evaluation.specs.Fits.{FitsExactly, fit_rule, same_shape}
use Rattle.evaluation.specs.Plants.{plant_refusal}
use Rattle.evaluation.specs.declared.plant.PlantFault.{PlantFault}

module _ (s : Shape) (m : Meaning) (law : Lawful m) where
  shaped_as : same_shape s m ≡ true → ShapedAs s m
  shaped_as e =
      let ranges = λ (j : ℕ). same_range (column m.columns j) (column s.columns j) in
      let one = and_parts (eqb m.width s.width) (eqb m.limit s.limit && each ranges s.width) e in
      let two = and_parts (eqb m.limit s.limit) (each ranges s.width) one.1 in
      let width = eqb-true m.width s.width one.0 in
      let long = length-map-range_with_len (column s.columns) 0 s.width in
      record {
        width = width;
        limit = eqb-true m.limit s.limit two.0;
        columns = ext_get_or (range (pos 0) (pos 0)) m.columns (columns_of s) (law.all_columns ∙ width ∙ sym long) (λ j h.
            let below : j < s.width = omega (arith, law.all_columns) in
            range_tells (column m.columns j) (column s.columns j) (each_at ranges s.width two.1 j below) ∙ sym (listed_at (column s.columns) s.width j (range (pos 0) (pos 0)) below));
      }

  same_shaped : ShapedAs s m → same_shape s m ≡ true
  same_shaped h =
      let ranges = λ (j : ℕ). same_range (column m.columns j) (column s.columns j) in
      and_from (eqb m.width s.width) (eqb m.limit s.limit && each ranges s.width) (eq-eqb m.width s.width h.width) (
      and_from (eqb m.limit s.limit) (each ranges s.width) (eq-eqb m.limit s.limit h.limit) (
      each_from ranges s.width (λ j below.
      let same : column m.columns j ≡ column s.columns j = ap (λ (cs : List Range). column cs j) h.columns ∙ listed_at (column s.columns) s.width j (range (pos 0) (pos 0)) below in
      subst (λ (r : Range). same_range r (column s.columns j) ≡ true) (sym same) (range_itself (column s.columns j)))))

-- no reason in a rule of four tests, and all four
four_none : (a b d e : Bool) (w x y z : Refusal) → is_some (or_else (unless a w) (or_else (unless b x) (or_else (unless d y) (or_else (unless e z) None)))) ≡ false → (a ≡ true) × (b ≡ true) × (d ≡ true) × (e ≡ true)
four_none a b d e w x y z h =
    let one = or_else_none (unless a w) (or_else (unless b x) (or_else (unless d y) (or_else (unless e z) None))) h in
    let two = or_else_none (unless b x) (or_else (unless d y) (or_else (unless e z) None)) one.1 in
    let three = or_else_none (unless d y) (or_else (unless e z) None) two.1 in
    let four = or_else_none (unless e z) None three.1 in
    (unless_none a w one.0, unless_none b x two.0, unless_none d y three.0, unless_none e z four.0)

four_all : (a b d e : Bool) (w x y z : Refusal) → a ≡ true → b ≡ true → d ≡ true → e ≡ true → or_else (unless a w) (or_else (unless b x) (or_else (unless d y) (or_else (unless e z) None))) ≡ None
four_all a b d e w x y z p q r s = simp (p, q, r, s)

accepted : (r : Result (Unit {0}) PlantFault) → reason plant_refusal r ≡ None → r ≡ Ok tt
accepted (Ok u) e = refl
accepted (Err f) e = absurd (true≢false (ap is_some e))

module _ (c : Catalogue) (p : Plant) (first : Lawful p.first) (second : Lawful p.second) where
  fitting : fit_rule c p ≡ None → Fitting c p
  fitting e =
      let (a, b, d, f) = four_none (same_shape (source_shape c 0) p.first) (same_shape (source_shape c 1) p.second) (within (setting_range c 0) p.setting_0) (within (setting_range c 1) p.setting_1) (refusal 24 0 0) (refusal 24 1 0) (refusal 25 0 0) (refusal 25 1 0) (ap is_some e) in
      record {
        first_lawful = first;
        second_lawful = second;
        first_shape = shaped_as (source_shape c 0) p.first first a;
        second_shape = shaped_as (source_shape c 1) p.second second b;
        first_setting = d;
        second_setting = f;
      }

  fitted : Fitting c p → fit_rule c p ≡ None
  fitted f =
      four_all (same_shape (source_shape c 0) p.first) (same_shape (source_shape c 1) p.second) (within (setting_range c 0) p.setting_0) (within (setting_range c 1) p.setting_1) (refusal 24 0 0) (refusal 24 1 0) (refusal 25 0 0) (refusal 25 1 0)
      (same_shaped (source_shape c 0) p.first first f.first_shape)
      (same_shaped (source_shape c 1) p.second second f.second_shape)
      f.first_setting
      f.second_setting

  pub fits_exactly : (r : Result (Unit {0}) PlantFault) → reason plant_refusal r ≡ fit_rule c p → FitsExactly c p r
  fits_exactly r e = (λ ok. fitting (sym e ∙ ap (reason plant_refusal) ok), λ f. accepted r (e ∙ fitted f))
