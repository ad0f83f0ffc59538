use Rattle.std.proofs.Common.{◌≡◌, ℕ, ◌+◌, ltb, ℤ, Bool, true, false, not, cond, List, [], ◌∷◌, length, get_or, pos, Some, None, Option, refl, ap, sym, ◌∙◌, arith, rules, tests}
use Rattle.std.proofs.lemmas.Iterator.{YieldsList-from_slice, YieldsList-from_zip}
use Rattle.std.proofs.lemmas.Iterator.Search.{position_from_yields_List}
use Rattle.std.specs.List.{position, zip}
use Rattle.std.specs.Option.{option_map}
use Rattle.refusals.specs.Rules.{or_else, reason, refusal, unless}
use Rattle.refusals.specs.declared.Refusal.{Refusal}
use Rattle.rules.specs.Catalogue.{setting_range}
use Rattle.sources.specs.Shapes.{range, within}
use Rattle.sources.specs.declared.shapes.Range.{Range}
use Rattle.evaluation.specs.Plants.{plant_refusal}
use Rattle.evaluation.proofs.fitting.check_settings.Goals as goal

abbrev place : ℕ → Refusal
place k = refusal 25 k 0

-- the first of two that fails, and what is told of it
first : (t u : Bool) → option_map place (cond (not t) (Some 0) (cond (not u) (Some 1) None)) ≡ or_else (unless t (place 0)) (or_else (unless u (place 1)) None)
first true true = refl
first true false = refl
first false u = refl

abbrev outside : Range × ℤ → Bool
outside p = not (within p.0 p.1)

of_two : (rs : List Range) (zs : List ℤ) → length rs ≡ 2 → length zs ≡ 2 → position outside (zip rs zs) ≡ cond (outside (get_or rs 0 (range (pos 0) (pos 0)), get_or zs 0 (pos 0))) (Some 0) (cond (outside (get_or rs 1 (range (pos 0) (pos 0)), get_or zs 1 (pos 0))) (Some 1) None)
of_two (r ∷ s ∷ []) (x ∷ y ∷ []) e f = go (outside (r, x)) (outside (s, y))
  where
    go : (t u : Bool) → cond (ltb (cond (not t) (1 + cond (not u) (1 + 0) 0) 0) 2) (Some (cond (not t) (1 + cond (not u) (1 + 0) 0) 0)) None ≡ cond t (Some 0) (cond u (Some 1) None)
    go true u = refl
    go false true = refl
    go false false = refl
of_two [] zs e f = absurd (omega arith)
of_two (r ∷ []) zs e f = absurd (omega arith)
of_two (r ∷ s ∷ t ∷ rs) zs e f = absurd (omega arith)
of_two (r ∷ s ∷ []) [] e f = absurd (omega arith)
of_two (r ∷ s ∷ []) (x ∷ []) e f = absurd (omega arith)
of_two (r ∷ s ∷ []) (x ∷ y ∷ z ∷ zs) e f = absurd (omega arith)

pub returns : goal.returns
returns c =
    let ranges = c.args.catalogue.now.settings in
    let values = c.args.settings.now in
    let found : c.position-outside.result ≡ position outside (zip ranges values) = position_from_yields_List outside c.position-outside.new.self _ c.position-outside.result c.position-outside.ensures.ran (YieldsList-from_zip (YieldsList-from_slice ranges (search rules)) (YieldsList-from_slice values (search rules))) (λ x b q k. search (rules, tests)) in
    let told : reason plant_refusal c.map_or.result ≡ option_map place c.position-outside.result = search (rules, tests) in
    told ∙ ap (option_map place) (found ∙ of_two ranges values (search rules) (search rules)) ∙ first (within (setting_range c.args.catalogue.now 0) (get_or values 0 (pos 0))) (within (setting_range c.args.catalogue.now 1) (get_or values 1 (pos 0)))
