-- How far an operation moves, from how far its parts do.
use Rattle.std.proofs.Common.{◌≡◌, ℕ, suc, ◌+◌, ◌-◌, ◌*◌, ◌≤◌, max, true, ℤ, pos, negsuc, ◌+ℤ◌, ◌-ℤ◌, ◌*ℤ◌, nat_abs, ap, ⊎_elim, arith}
use borrow.Author.Differences.{down, le-true, product_is, up}
use lib.Signed.{le_z}
use Rattle.std.proofs.lemmas.Bool.{cases_lt}
use Rattle.std.proofs.lemmas.Int.{clamps, ints}
use Rattle.std.specs.Int.{int_max, int_min}
use Rattle.trees.specs.Meaning.{clipped}
use Rattle.stability.specs.Stable.{apart}

module _ (x y u v : ℤ) where
  pub add_moves : apart (x +ℤ u) (y +ℤ v) ≤ apart x y + apart u v
  add_moves = omega (arith, ints)

  pub sub_moves : apart (x -ℤ u) (y -ℤ v) ≤ apart x y + apart u v
  sub_moves = omega (arith, ints)

  pub least_moves : apart (int_min x u) (int_min y v) ≤ apart x y + apart u v
  least_moves = omega (arith, ints, clamps)

  pub most_moves : apart (int_max x u) (int_max y v) ≤ apart x y + apart u v
  most_moves = omega (arith, ints, clamps)

pub clip_moves : (lo hi x y : ℤ) → apart (clipped lo hi x) (clipped lo hi y) ≤ apart x y
clip_moves lo hi x y = omega (arith, ints, clamps)

-- a multiple of a positive difference
scaled_gap : (k a b : ℕ) → k * ((a - b) + (b - a)) ≡ (k * a - k * b) + (k * b - k * a)
scaled_gap k a b =
    ⊎_elim
    (λ h.
    let up_to : a + ((a - b) + (b - a)) ≡ b = omega arith in
    let whole : k * (a + ((a - b) + (b - a))) ≡ k * b = ap (λ m. k * m) up_to in
    omega (arith, whole))
    (λ h.
    let up_to : b + ((a - b) + (b - a)) ≡ a = omega arith in
    let whole : k * (b + ((a - b) + (b - a))) ≡ k * a = ap (λ m. k * m) up_to in
    omega (arith, whole))
    (cases_lt a b)

apart_is : (x y : ℤ) → apart x y ≡ ((up x + down y) - (up y + down x)) + ((up y + down x) - (up x + down y))
apart_is x y = omega (arith, ints)

pub scale_moves : (n x y : ℤ) → apart (n *ℤ x) (n *ℤ y) ≤ nat_abs n * apart x y
scale_moves (pos k) x y =
    let a = up x + down y in
    let b = up y + down x in
    let far = ap (λ m. k * m) (apart_is x y) in
    omega (arith, far, apart_is (pos k *ℤ x) (pos k *ℤ y), scaled_gap k a b, product_is (pos k) x, product_is (pos k) y)
scale_moves (negsuc k) x y =
    let a = up x + down y in
    let b = up y + down x in
    let far = ap (λ m. suc k * m) (apart_is x y) in
    omega (arith, far, apart_is (negsuc k *ℤ x) (negsuc k *ℤ y), scaled_gap (suc k) a b, product_is (negsuc k) x, product_is (negsuc k) y)

-- a clipped value is no further from 0 than the further of its bounds
pub clip_size : (lo hi x : ℤ) → le_z lo hi ≡ true → nat_abs (clipped lo hi x) ≤ max (nat_abs lo) (nat_abs hi)
clip_size lo hi x e = omega (arith, ints, clamps, le-true lo hi e)
