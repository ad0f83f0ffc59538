-- What the distance of bags keeps to, and what it bounds.
use Rattle.std.specs.Prelude.{◌≡◌, ℕ, ◌+◌, ◌*◌, ◌≤◌, Bool, List, [], ◌∷◌, ◌++◌, map, length, ℤ, pos, ◌+ℤ◌, ◌-ℤ◌, filter, unsigned_abs}
use Rattle.std.specs.List.Sorted.{IsPermutation}
use Rattle.sources.specs.Source.{Row}
use Rattle.bags.specs.Distance.{distance, gap, missing}

-- a distance that no order of the rows changes, and that keeping rows, mapping them and joining bags do not widen
pub record Steady (d : List Row → List Row → ℕ) : Type 0 where
  pub itself : (xs : List Row) → d xs xs ≡ 0
  pub triangle : (xs ys zs : List Row) → d xs zs ≤ d xs ys + d ys zs
  pub reordered : (xs ys us vs : List Row) → IsPermutation xs us → IsPermutation ys vs → d us vs ≡ d xs ys
  pub kept : (p : Row → Bool) (xs ys : List Row) → d (filter p xs) (filter p ys) ≤ d xs ys
  pub mapped : (f : Row → Row) (xs ys : List Row) → d (map f xs) (map f ys) ≤ d xs ys
  pub joined : (xs ys us vs : List Row) → d (xs ++ us) (ys ++ vs) ≤ d xs ys + d us vs

-- the sum of f over the rows
abbrev pub total : (Row → ℤ) → List Row → ℤ
total f [] = pos 0
total f (r ∷ rs) = f r +ℤ total f rs

-- a distance of at most the rows of both bags, that bounds how far the numbers of rows are apart, and the sums of a bounded function over them
pub record Bounding (d : List Row → List Row → ℕ) : Type 0 where
  pub most : (xs ys : List Row) → d xs ys ≤ length xs + length ys
  pub lengths : (xs ys : List Row) → gap (length xs) (length ys) ≤ d xs ys
  pub sums : (f : Row → ℤ) (m : ℕ) → ((r : Row) → unsigned_abs (f r) ≤ m) → (xs ys : List Row) → unsigned_abs (total f xs -ℤ total f ys) ≤ m * d xs ys

-- the distance is what the first bag has more, and what the second has more
abbrev pub TwoSided : Type 0
TwoSided = (xs ys : List Row) → distance xs ys ≡ missing xs ys + missing ys xs
