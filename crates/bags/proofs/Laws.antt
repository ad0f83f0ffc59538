-- The laws of the distance: first of what is missing, in one direction, and then of both directions together.
use Rattle.std.proofs.Common.{◌≡◌, ℕ, suc, ◌+◌, ◌-◌, ◌*◌, ◌≤◌, Bool, true, false, cond, List, [], ◌∷◌, ◌++◌, map, length, get_or, ℤ, pos, negsuc, ◌-ℤ◌, nat_abs, sum_by, filter, sym, refl, ap, subst, mul_comm, mul-add, arith, length-append}
use lib.ListN.{length-map}
use Rattle.std.proofs.lemmas.Int.{ints}
use Rattle.std.proofs.lemmas.List.Sums.{sum_by-cons, sum_by-le}
use Rattle.std.specs.List.Sorted.{IsPermutation}
use Rattle.sources.specs.Source.{Row}
use Rattle.bags.specs.Distance.{distance, missing, same, times}
use Rattle.bags.specs.Laws.{Bounding, Steady, total}
use Rattle.bags.proofs.Counts.{sum_by_one, times_append, times_kept, times_map, times_shuffled}
use Rattle.bags.proofs.Lost.{distance_is, lost, missing_is, missing_least, sum_lost, times_lost}

-- ---- what is missing

missing_itself : (xs : List Row) → missing xs xs ≡ 0
missing_itself xs = omega (arith, missing_least [] xs xs (λ z. omega arith))

missing_triangle : (xs ys zs : List Row) → missing xs zs ≤ missing xs ys + missing ys zs
missing_triangle xs ys zs =
    let l = lost xs ys in
    let m = lost ys zs in
    omega (arith, missing_is xs ys, missing_is ys zs, length-append l m, missing_least (l ++ m) xs zs (λ z. omega (arith, times_append z l m, times_lost z xs ys, times_lost z ys zs)))

-- bags with no more of any row, beyond what the others have, miss no more
pub missing_alike : (xs ys us vs : List Row) → ((z : Row) → times z us - times z vs ≤ times z xs - times z ys) → missing us vs ≤ missing xs ys
missing_alike xs ys us vs h = omega (arith, missing_is xs ys, missing_least (lost xs ys) us vs (λ z. omega (arith, h z, times_lost z xs ys)))

missing_reordered : (xs ys us vs : List Row) → IsPermutation xs us → IsPermutation ys vs → missing us vs ≡ missing xs ys
missing_reordered xs ys us vs p q =
    let few = missing_alike xs ys us vs (λ z. omega (arith, times_shuffled z xs us p, times_shuffled z ys vs q)) in
    let many = missing_alike us vs xs ys (λ z. omega (arith, times_shuffled z xs us p, times_shuffled z ys vs q)) in
    omega arith

missing_kept : (p : Row → Bool) (xs ys : List Row) → missing (filter p xs) (filter p ys) ≤ missing xs ys
missing_kept p xs ys = missing_alike xs ys (filter p xs) (filter p ys) (λ z. rw (times_kept p z xs, times_kept p z ys) (go (p z) (times z xs) (times z ys)))
  where
    go : (b : Bool) (m n : ℕ) → cond b m 0 - cond b n 0 ≤ m - n
    go true m n = omega arith
    go false m n = omega arith

missing_mapped : (f : Row → Row) (xs ys : List Row) → missing (map f xs) (map f ys) ≤ missing xs ys
missing_mapped f xs ys =
    let l = lost xs ys in
    omega (arith, missing_is xs ys, length-map l f, missing_least (map f l) (map f xs) (map f ys) (λ z. omega (arith, times_map f z xs, times_map f z ys, times_map f z l, sum_lost (λ x. cond (same z (f x)) 1 0) xs ys)))

missing_joined : (xs ys us vs : List Row) → missing (xs ++ us) (ys ++ vs) ≤ missing xs ys + missing us vs
missing_joined xs ys us vs =
    let l = lost xs ys in
    let m = lost us vs in
    omega (arith, missing_is xs ys, missing_is us vs, length-append l m, missing_least (l ++ m) (xs ++ us) (ys ++ vs) (λ z. omega (arith, times_append z l m, times_append z xs us, times_append z ys vs, times_lost z xs ys, times_lost z us vs)))

missing_most : (xs ys : List Row) → missing xs ys ≤ length xs
missing_most xs ys = missing_least xs xs ys (λ z. omega arith)

-- a sum grows by no more than the greatest value for each row that is missing
missing_sum : (g : Row → ℕ) (m : ℕ) → ((r : Row) → g r ≤ m) → (xs ys : List Row) → sum_by g xs ≤ sum_by g ys + m * missing xs ys
missing_sum g m h xs ys = omega (arith, sum_lost g xs ys, sum_by-le g m (lost xs ys) (λ i d _. h (get_or (lost xs ys) i d)), ap (λ n. n * m) (missing_is xs ys), mul_comm m (missing xs ys))

pub missing_steady : Steady missing
missing_steady = record { itself = missing_itself; triangle = missing_triangle; reordered = missing_reordered; kept = missing_kept; mapped = missing_mapped; joined = missing_joined }

-- ---- both directions

both_ways : (d : List Row → List Row → ℕ) → Steady d → Steady (λ xs ys. d xs ys + d ys xs)
both_ways d s =
    record {
      itself = λ xs. omega (arith, s.itself xs);
      triangle = λ xs ys zs. omega (arith, s.triangle xs ys zs, s.triangle zs ys xs);
      reordered = λ xs ys us vs p q. omega (arith, s.reordered xs ys us vs p q, s.reordered ys xs vs us q p);
      kept = λ p xs ys. omega (arith, s.kept p xs ys, s.kept p ys xs);
      mapped = λ f xs ys. omega (arith, s.mapped f xs ys, s.mapped f ys xs);
      joined = λ xs ys us vs. omega (arith, s.joined xs ys us vs, s.joined ys xs vs us);
    }

pub distance_steady : Steady distance
distance_steady = subst Steady (λ i xs ys. sym (distance_is xs ys) i) (both_ways missing missing_steady)

-- ---- sums of signed numbers: those above 0 and those below

above : ℤ → ℕ
above (pos n) = n
above (negsuc n) = 0

below : ℤ → ℕ
below (pos n) = 0
below (negsuc n) = suc n

parts : (z : ℤ) → (pos (above z) -ℤ pos (below z) ≡ z) × (above z + below z ≡ nat_abs z)
unfolding above below
parts (pos n) = (omega (arith, ints), omega arith)
parts (negsuc n) = (omega (arith, ints), omega arith)

module _ (f : Row → ℤ) where
  total_is : (xs : List Row) → total f xs ≡ pos (sum_by (λ r. above (f r)) xs) -ℤ pos (sum_by (λ r. below (f r)) xs)
  total_is [] = refl
  total_is (r ∷ rs) = omega (arith, ints, total_is rs, (parts (f r)).0, sum_by-cons (λ r. above (f r)) r rs, sum_by-cons (λ r. below (f r)) r rs)

  module _ (m : ℕ) (within : (r : Row) → nat_abs (f r) ≤ m) where
    up : (xs ys : List Row) → sum_by (λ r. above (f r)) xs ≤ sum_by (λ r. above (f r)) ys + m * missing xs ys
    up = missing_sum (λ r. above (f r)) m (λ r. omega (arith, within r, (parts (f r)).1))

    down : (xs ys : List Row) → sum_by (λ r. below (f r)) xs ≤ sum_by (λ r. below (f r)) ys + m * missing xs ys
    down = missing_sum (λ r. below (f r)) m (λ r. omega (arith, within r, (parts (f r)).1))

    sums_bounded : (xs ys : List Row) → nat_abs (total f xs -ℤ total f ys) ≤ m * distance xs ys
    sums_bounded xs ys = omega (arith, ints, total_is xs, total_is ys, up xs ys, up ys xs, down xs ys, down ys xs, ap (λ n. m * n) (distance_is xs ys), mul-add m (missing xs ys) (missing ys xs))

pub distance_bounding : Bounding distance
distance_bounding =
    record {
      most = λ xs ys. omega (arith, distance_is xs ys, missing_most xs ys, missing_most ys xs);
      lengths = λ xs ys. omega (arith, distance_is xs ys, missing_sum (λ _. 1) 1 (λ _. omega arith) xs ys, missing_sum (λ _. 1) 1 (λ _. omega arith) ys xs, sum_by_one xs, sum_by_one ys);
      sums = sums_bounded;
    }
