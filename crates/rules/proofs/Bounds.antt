-- What an operation gives lies within what the rules make of the ranges of its parts.
use Rattle.std.proofs.Common.{◌≡◌, ℕ, zero, suc, ◌≤◌, true, leb, List, [], ◌∷◌, length, ℤ, pos, negsuc, ◌+ℤ◌, ◌-ℤ◌, ◌*ℤ◌, nat_abs, ◌≤ℤ◌, sym, suc-mul, mul-le-mul_left, mul-add, arith}
use borrow.Author.Differences.{at_most_in, down, le_out, le-true, product_is, true_is_le, up}
use lib.IntN.{*ℤ_comm}
use lib.Signed.{le_z}
use Rattle.sources.specs.Shapes.{within}
use Rattle.sources.specs.Unions.{hull}
use Rattle.sources.specs.declared.shapes.Range.{Range}
use Rattle.std.proofs.lemmas.Int.{ints, clamps}
use Rattle.std.proofs.lemmas.Bool.{and_from, and_parts, leb-true}
use Rattle.std.specs.Int.{int_max, int_min}
use Rattle.trees.specs.Meaning.{Row, clipped, total}
use Rattle.rules.specs.Ranges.{bounded, clips, differences, greater, lesser, products, scaled, sums, totals}

-- a value within a range, as two orders
abbrev pub In : Range → ℤ → Type 0
In r z = (r.low ≤ℤ z) × (z ≤ℤ r.high)

pub in_within : (r : Range) (z : ℤ) → In r z → within r z ≡ true
in_within r z h = and_from (le_z r.low z) (le_z z r.high) (sym (true_is_le r.low z (le_out r.low z h.0))) (sym (true_is_le z r.high (le_out z r.high h.1)))

pub within_in : (r : Range) (z : ℤ) → within r z ≡ true → In r z
within_in r z e =
    let p = and_parts (le_z r.low z) (le_z z r.high) e in
    (at_most_in r.low z (le-true r.low z p.0), at_most_in z r.high (le-true z r.high p.1))

-- a value within a bounded range is within the bound
pub in_bound : (n : ℕ) (r : Range) (z : ℤ) → bounded n r ≡ true → In r z → nat_abs z ≤ n
in_bound n r z e h =
    let p = and_parts (leb (nat_abs r.low) n) (leb (nat_abs r.high) n) e in
    omega (arith, ints, leb-true (nat_abs r.low) n p.0, leb-true (nat_abs r.high) n p.1, h.0, h.1)

module _ (a b : Range) (x y : ℤ) (p : In a x) (q : In b y) where
  pub in_sums : In (sums a b) (x +ℤ y)
  in_sums = (omega (arith, ints, p.0, q.0), omega (arith, ints, p.1, q.1))

  pub in_differences : In (differences a b) (x -ℤ y)
  in_differences = (omega (arith, ints, p.0, q.1), omega (arith, ints, p.1, q.0))

  pub in_lesser : In (lesser a b) (int_min x y)
  in_lesser = (omega (arith, ints, clamps, p.0, q.0), omega (arith, ints, clamps, p.1, q.1))

  pub in_greater : In (greater a b) (int_max x y)
  in_greater = (omega (arith, ints, clamps, p.0, q.0), omega (arith, ints, clamps, p.1, q.1))

pub in_hull_left : (a b : Range) (x : ℤ) → In a x → In (hull a b) x
in_hull_left a b x p = (omega (arith, ints, clamps, p.0), omega (arith, ints, clamps, p.1))

pub in_hull_right : (a b : Range) (x : ℤ) → In b x → In (hull a b) x
in_hull_right a b x p = (omega (arith, ints, clamps, p.0), omega (arith, ints, clamps, p.1))

pub in_clips : (lo hi : ℤ) (a : Range) (x : ℤ) → In a x → In (clips lo hi a) (clipped lo hi x)
in_clips lo hi a x p = (omega (arith, ints, clamps, p.0), omega (arith, ints, clamps, p.1))

-- a product rises with its second factor where the first is not negative, and falls where it is
rises : (n : ℕ) (x y : ℤ) → x ≤ℤ y → (pos n *ℤ x) ≤ℤ (pos n *ℤ y)
rises n x y h =
    at_most_in (pos n *ℤ x) (pos n *ℤ y)
    (omega (arith, product_is (pos n) x, product_is (pos n) y, mul-le-mul_left n (le_out x y h), mul-add n (up x) (down y), mul-add n (up y) (down x)))

falls : (n : ℕ) (x y : ℤ) → x ≤ℤ y → (negsuc n *ℤ y) ≤ℤ (negsuc n *ℤ x)
falls n x y h =
    at_most_in (negsuc n *ℤ y) (negsuc n *ℤ x)
    (omega (arith, product_is (negsuc n) x, product_is (negsuc n) y, mul-le-mul_left (suc n) (le_out x y h), mul-add (suc n) (up x) (down y), mul-add (suc n) (up y) (down x)))

-- between two values, whichever is the lesser
up_between : (l h z : ℤ) → l ≤ℤ z → z ≤ℤ h → (int_min l h ≤ℤ z) × (z ≤ℤ int_max l h)
up_between l h z p q = (omega (arith, ints, clamps), omega (arith, ints, clamps))

down_between : (l h z : ℤ) → h ≤ℤ z → z ≤ℤ l → (int_min l h ≤ℤ z) × (z ≤ℤ int_max l h)
down_between l h z p q = (omega (arith, ints, clamps), omega (arith, ints, clamps))

pub in_scaled : (v : ℤ) (a : Range) (x : ℤ) → In a x → In (scaled v a) (v *ℤ x)
in_scaled (pos n) a x p = up_between (pos n *ℤ a.low) (pos n *ℤ a.high) (pos n *ℤ x) (rises n a.low x p.0) (rises n x a.high p.1)
in_scaled (negsuc n) a x p = down_between (negsuc n *ℤ a.low) (negsuc n *ℤ a.high) (negsuc n *ℤ x) (falls n x a.high p.1) (falls n a.low x p.0)

-- within two ends that are themselves between others
widened : (l h ll lh hl hh z : ℤ) → (int_min l h ≤ℤ z) × (z ≤ℤ int_max l h) → (int_min ll lh ≤ℤ l) × (l ≤ℤ int_max ll lh) → (int_min hl hh ≤ℤ h) × (h ≤ℤ int_max hl hh) → (int_min (int_min ll lh) (int_min hl hh) ≤ℤ z) × (z ≤ℤ int_max (int_max ll lh) (int_max hl hh))
widened l h ll lh hl hh z p q r = (omega (arith, ints, clamps, p.0, q.0, r.0), omega (arith, ints, clamps, p.1, q.1, r.1))

pub in_products : (a b : Range) (x y : ℤ) → In a x → In b y → In (products a b) (x *ℤ y)
in_products a b x y p q =
    let turned = in_scaled y a x p in
    let z = rw (*ℤ_comm y x, *ℤ_comm y a.low, *ℤ_comm y a.high) at turned in
    widened (a.low *ℤ y) (a.high *ℤ y) (a.low *ℤ b.low) (a.low *ℤ b.high) (a.high *ℤ b.low) (a.high *ℤ b.high) (x *ℤ y) z (in_scaled a.low b y q) (in_scaled a.high b y q)

-- a clipped value lies between its bounds
pub in_clip : (lo hi x : ℤ) → le_z lo hi ≡ true → (lo ≤ℤ clipped lo hi x) × (clipped lo hi x ≤ℤ hi)
in_clip lo hi x e = (omega (arith, ints, clamps), omega (arith, ints, clamps, le-true lo hi e))

-- one row more: a value from lo to hi, and a sum of at most m others
low_row : (m : ℕ) (lo x s : ℤ) → lo ≤ℤ x → int_min (pos 0) (pos m *ℤ lo) ≤ℤ s → int_min (pos 0) (pos (suc m) *ℤ lo) ≤ℤ (x +ℤ s)
low_row m (pos a) x s p q = omega (arith, ints, clamps)
low_row m (negsuc a) x s p q = omega (arith, ints, clamps, suc-mul m (suc a))

high_row : (m : ℕ) (hi x s : ℤ) → x ≤ℤ hi → s ≤ℤ int_max (pos 0) (pos m *ℤ hi) → (x +ℤ s) ≤ℤ int_max (pos 0) (pos (suc m) *ℤ hi)
high_row m (pos a) x s p q = omega (arith, ints, clamps, suc-mul m a)
high_row m (negsuc a) x s p q = omega (arith, ints, clamps)

-- a sum of at most n values from lo to hi
pub in_totals : (f : Row → ℤ) (lo hi : ℤ) → ((r : Row) → (lo ≤ℤ f r) × (f r ≤ℤ hi)) → (rs : List Row) (n : ℕ) → length rs ≤ n → In (totals n lo hi) (total f rs)
in_totals f lo hi each [] n h = (omega (arith, ints, clamps), omega (arith, ints, clamps))
in_totals f lo hi each (r ∷ rs) zero h = absurd (omega arith)
in_totals f lo hi each (r ∷ rs) (suc m) h =
    let rest = in_totals f lo hi each rs m (omega arith) in
    (low_row m lo (f r) (total f rs) (each r).0 rest.0, high_row m hi (f r) (total f rs) (each r).1 rest.1)
