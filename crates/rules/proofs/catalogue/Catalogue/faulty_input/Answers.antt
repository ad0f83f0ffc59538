use Rattle.std.proofs.Common.{◌≡◌, ℕ, ◌+◌, Bool, true, false, not, cond, List, [], ◌∷◌, length, get_or, pos, Some, None, refl, ap, ◌∙◌, ap₂, arith, rules, tests}
use Rattle.std.proofs.lemmas.Iterator.{YieldsList-from_slice}
use Rattle.std.proofs.lemmas.Iterator.Search.{position_from_yields_List}
use Rattle.std.specs.List.{position}
use Rattle.std.specs.Option.{option_map, option_or}
use Rattle.refusals.specs.Rules.{or_else, unless}
use Rattle.sources.specs.Shapes.{range}
use Rattle.rules.specs.Catalogue.{no_shape, setting_range, setting_sound, source_shape, source_sound}
use Rattle.rules.proofs.catalogue.Catalogue.faulty_input.Goals as goal

position_of_two : {X : Type 0} (p : X → Bool) (d : X) (xs : List X) → length xs ≡ 2 → position p xs ≡ cond (p (get_or xs 0 d)) (Some 0) (cond (p (get_or xs 1 d)) (Some 1) None)
position_of_two p d [] e = absurd (omega arith)
position_of_two p d (x ∷ []) e = absurd (omega arith)
position_of_two p d (x ∷ y ∷ []) e = go (p x) (p y)
  where
    go : (t u : Bool) → cond (Rattle.std.proofs.Common.ltb (cond (not t) (1 + cond (not u) (1 + 0) 0) 0) 2) (Some (cond (not t) (1 + cond (not u) (1 + 0) 0) 0)) None ≡ cond t (Some 0) (cond u (Some 1) None)
    go true u = refl
    go false true = refl
    go false false = refl
position_of_two p d (x ∷ y ∷ z ∷ xs) e = absurd (omega arith)

in_order : (t u v w : Bool) → option_or (cond (not t) (Some 0) (cond (not u) (Some 1) None)) (option_map (λ k. 2 + k) (cond (not v) (Some 0) (cond (not w) (Some 1) None))) ≡ or_else (unless t 0) (or_else (unless u 1) (or_else (unless v 2) (or_else (unless w 3) None)))
in_order false u v w = refl
in_order true false v w = refl
in_order true true false w = refl
in_order true true true false = refl
in_order true true true true = refl

pub returns : goal.returns
returns c =
    let shapes = c.args.self.now.sources in
    let ranges = c.args.self.now.settings in
    let source : c.position-source.result ≡ position (λ x. not (source_sound x)) shapes = position_from_yields_List (λ x. not (source_sound x)) _ _ c.position-source.result c.position-source.ensures.ran (YieldsList-from_slice shapes (cc)) (λ x b q k. search (rules, tests)) in
    let setting : c.position-setting.result ≡ position (λ r. not (setting_sound r)) ranges = position_from_yields_List (λ r. not (setting_sound r)) _ _ c.position-setting.result c.position-setting.ensures.ran (YieldsList-from_slice ranges (cc)) (λ x b q k. search (rules, tests)) in
    let moved : c.map.result ≡ option_map (λ k. 2 + k) c.position-setting.result = search rules in
    c.or.ensures
    ∙ ap₂ option_or (source ∙ position_of_two (λ x. not (source_sound x)) no_shape shapes (search rules)) (moved ∙ ap (option_map (λ k. 2 + k)) (setting ∙ position_of_two (λ r. not (setting_sound r)) (range (pos 0) (pos 0)) ranges (search rules)))
    ∙ in_order (source_sound (source_shape c.args.self.now 0)) (source_sound (source_shape c.args.self.now 1)) (setting_sound (setting_range c.args.self.now 0)) (setting_sound (setting_range c.args.self.now 1))
