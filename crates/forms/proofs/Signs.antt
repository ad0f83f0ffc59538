-- Signed operations whose result is known to lie within a bound.
use Rattle.std.proofs.Common.{◌≡◌, ℕ, ◌^◌, ◌<◌, ◌≤◌, ◌&&◌, eqb, set, ℤ, pos, nat_abs, sym, refl, ap, ◌∙◌, subst, ap₂, arith, w64, SFits, to_z, of_z}
use lib.Signed.{le_z, mag}
use Rattle.std.proofs.lemmas.Int.{ints, to_z-of_z}
use Rattle.trees.specs.Meaning.{Row, clipped, with_cell}
use Rattle.forms.specs.Calm.{Within, PlaceBelow}

-- what lies within 10^12 fits 64 bits
pub fits : (n : ℕ) (z : ℤ) → n ≤ 10 ^ 12 → Within n z → SFits w64 z
fits n z h k = omega (arith, ints)

-- and so does what is below 2^63
pub small : (z : ℤ) → mag z < 2 ^ 63 → SFits w64 z
small z h = omega (arith, ints)

-- the bits of x are those of v
pub back : (x v : ℤ) → SFits w64 x → x ≡ v → to_z w64 (of_z w64 x) ≡ v
back x v f e = to_z-of_z w64 x f ∙ e

-- an operation on x and y, which are v and w
pub op_fits : (op : ℤ → ℤ → ℤ) (n : ℕ) (x y v w : ℤ) → n ≤ 10 ^ 12 → SFits w64 x → SFits w64 y → x ≡ v → y ≡ w → Within n (op v w) → SFits w64 (op (to_z w64 (of_z w64 x)) (to_z w64 (of_z w64 y)))
op_fits op n x y v w small f g e h k = subst (SFits w64) (sym (ap₂ op (back x v f e) (back y w g h))) (fits n (op v w) small k)

pub op_is : (op : ℤ → ℤ → ℤ) (n : ℕ) (x y v w : ℤ) → n ≤ 10 ^ 12 → SFits w64 x → SFits w64 y → x ≡ v → y ≡ w → Within n (op v w) → to_z w64 (of_z w64 (op (to_z w64 (of_z w64 x)) (to_z w64 (of_z w64 y)))) ≡ op v w
op_is op n x y v w small f g e h k = to_z-of_z w64 (op (to_z w64 (of_z w64 x)) (to_z w64 (of_z w64 y))) (op_fits op n x y v w small f g e h k) ∙ ap₂ op (back x v f e) (back y w g h)

-- a place is cast with nothing lost
pub place_is : (n : ℕ) (z : ℤ) → n ≤ 10 ^ 12 → (k : PlaceBelow n z) → to_z w64 (of_z w64 z) ≡ pos k.0
place_is n z small k = back z (pos k.0) (subst (SFits w64) (sym k.1) (fits n (pos k.0) small (omega (arith, k.2)))) k.1

-- equal bits are equal numbers
pub same_bits : (x y : ℤ) → SFits w64 x → SFits w64 y → eqb (of_z w64 x) (of_z w64 y) ≡ (le_z x y && le_z y x)
same_bits x y f g = grind (arith, ints)

-- the bits of the limits and of x, which is v
pub clip_is : (lo hi x v : ℤ) → SFits w64 lo → SFits w64 hi → SFits w64 x → x ≡ v → clipped (to_z w64 (of_z w64 lo)) (to_z w64 (of_z w64 hi)) (to_z w64 (of_z w64 x)) ≡ clipped lo hi v
clip_is lo hi x v f g h e =
    ap (λ y. clipped y (to_z w64 (of_z w64 hi)) (to_z w64 (of_z w64 x))) (back lo lo f refl) ∙ ap₂ (clipped lo) (back hi hi g refl) (back x v h e)

-- a cell is put at a place with nothing lost
pub put_cell : (row : Row) (n : ℕ) (j x v : ℤ) → n ≤ 10 ^ 12 → PlaceBelow n j → SFits w64 x → x ≡ v → set row (nat_abs (to_z w64 (of_z w64 j))) (to_z w64 (of_z w64 x)) ≡ with_cell row j v
put_cell row n j x v small k f e = ap₂ (set row) (ap nat_abs (place_is n j small k)) (back x v f e) ∙ sym (ap (λ z. with_cell row z v) k.1)
