-- What it tells that a rule refused nothing.
use Rattle.std.proofs.Common.{◌≡◌, ℕ, ◌+◌, ◌<◌, Bool, true, false, ℤ, pos, negsuc, is_some, Some, None, Ok, Err, Option, Result, refl, arith}
use Rattle.refusals.specs.Rules.{or_else, or_else_none, unless, unless_none}
use Rattle.refusals.specs.declared.Refusal.{Refusal}
use Rattle.std.proofs.lemmas.Bool.{false≢true, leb-true}
use Rattle.forms.specs.Calm.{PlaceBelow}
use Rattle.rules.specs.Typing.{after, after_two, index, place, settle}

pub after_ok : {X Y : Type 0} (m : Result X Refusal) (f : X → Result Y Refusal) (y : Y) → after m f ≡ Ok y → (x : X) × (m ≡ Ok x) × (f x ≡ Ok y)
after_ok (Ok x) f y e = (x, refl, e)
after_ok (Err r) f y e = absurd (cc)

pub after_two_ok : {X Y Z : Type 0} (a : Result X Refusal) (b : Result Y Refusal) (f : X → Y → Result Z Refusal) (z : Z) → after_two a b f ≡ Ok z → (x : X) × (y : Y) × (a ≡ Ok x) × (b ≡ Ok y) × (f x y ≡ Ok z)
after_two_ok (Ok x) (Ok y) f z e = (x, y, refl, refl, e)
after_two_ok (Ok x) (Err r) f z e = absurd (cc)
after_two_ok (Err r) b f z e = absurd (cc)

pub settle_ok : {X : Type 0} (o : Option Refusal) (x y : X) → settle o x ≡ Ok y → (is_some o ≡ false) × (x ≡ y)
settle_ok None x y e = (refl, cc)
settle_ok (Some r) x y e = absurd (cc)

-- both rules of two
pub both_none : (a b : Bool) (r s : Refusal) → is_some (or_else (unless a r) (unless b s)) ≡ false → (a ≡ true) × (b ≡ true)
both_none a b r s e =
    let p = or_else_none (unless a r) (unless b s) e in
    (unless_none a r p.0, unless_none b s p.1)

pub place_below : (n : ℕ) (z : ℤ) → place n z ≡ true → PlaceBelow n z
place_below n (pos i) e = (i, refl, omega (arith, leb-true (i + 1) n e))
place_below n (negsuc i) e = absurd (false≢true e)

pub index_below : (n : ℕ) (z : ℤ) → place n z ≡ true → index z < n
index_below n (pos i) e = omega (arith, leb-true (i + 1) n e)
index_below n (negsuc i) e = absurd (false≢true e)
