-- One stage behind another: two of them go on as one that gives both.
use Rattle.std.proofs.Common.{◌≡◌, Ok, Err, Option, Result, sym, ap}
use Rattle.refusals.specs.declared.Refusal.{Refusal}
use Rattle.rules.specs.Typing.{after_two, settle}

module _ {X Y Z : Type 0} where
  pub pair_stopped : (a : Result X Refusal) (b : Result Y Refusal) (f : X → Y → Result Z Refusal) (r : Refusal) → after_two {Z = X × Y} a b (λ x y. Ok (x, y)) ≡ Err r → after_two a b f ≡ Err r
  pair_stopped (Ok x) (Ok y) f r e = cc
  pair_stopped (Ok x) (Err s) f r e = cc
  pair_stopped (Err s) b f r e = cc

  pub pair_went : (a : Result X Refusal) (b : Result Y Refusal) (f : X → Y → Result Z Refusal) (p : X × Y) → after_two {Z = X × Y} a b (λ x y. Ok (x, y)) ≡ Ok p → after_two a b f ≡ f p.0 p.1
  pair_went (Ok x) (Ok y) f p e = let same : (x, y) ≡ p = cc in ap (λ (q : X × Y). f q.0 q.1) same
  pair_went (Ok x) (Err s) f p e = cc
  pair_went (Err s) b f p e = cc

-- a type is held to its rule, by whatever equation it is known
pub settled : {X : Type 0} (rule : X → Option Refusal) {x y : X} → y ≡ x → settle (rule x) x ≡ settle (rule y) y
settled rule e = ap (λ z. settle (rule z) z) (sym e)
