-- What two bags share: each bag is what it shares and what the other lacks of it.
use Rattle.std.proofs.Common.{◌≡◌, ℕ, ◌+◌, ◌-◌, ◌≤◌, min, Bool, true, false, List, [], ◌∷◌, ◌++◌, map, length, sum_by, sym, refl, ap, ◌∙◌, arith}
use lib.ListN.{length-map}
use Rattle.std.proofs.lemmas.List.Sorted.{length_permutation}
use Rattle.std.specs.List.{AllByRecursion}
use Rattle.std.specs.List.Sorted.{IsPermutation}
use Rattle.sources.specs.Source.{Row}
use Rattle.bags.specs.Distance.{Pairs, different, missing, same, shared, times}
use Rattle.bags.proofs.Counts.{counted, same_is, sum_by_plus, times_cons, times_other}
use Rattle.bags.proofs.Laws.{missing_alike, missing_steady}
use Rattle.bags.proofs.Lost.{distance_is, first_once, missing_is, missing_over, second_once}

-- what one bag has more of each row, and what both have of it, is what the one has
parted : (f g h : Row → ℕ) (u : List Row) → ((z : Row) → f z + g z ≡ h z) → sum_by f u + sum_by g u ≡ sum_by h u
parted f g h u e = sym (sum_by_plus f g u) ∙ (λ i. sum_by (λ z. e z i) u)

module _ (xs ys : List Row) where
  pub first_shared : missing xs ys + shared xs ys ≡ length xs
  unfolding missing shared
  first_shared =
      let u = different (xs ++ ys) in
      parted (λ z. times z xs - times z ys) (λ z. min (times z xs) (times z ys)) (λ z. times z xs) u (λ z. omega arith) ∙ counted u xs (first_once xs ys)

  pub second_shared : missing ys xs + shared xs ys ≡ length ys
  unfolding shared
  second_shared =
      let u = different (xs ++ ys) in
      ap (λ n. n + shared xs ys) (missing_is ys xs ∙ sym (missing_over u ys xs (second_once xs ys)))
      ∙ parted (λ z. times z ys - times z xs) (λ z. min (times z xs) (times z ys)) (λ z. times z ys) u (λ z. omega arith)
      ∙ counted u ys (second_once xs ys)

pub shared_pairs : (xs ys : List Row) (n : ℕ) → n ≡ shared xs ys → Pairs n xs ys
shared_pairs xs ys n e =
    let first = first_shared xs ys in
    let second = second_shared xs ys in
    record { of_first = omega arith; of_second = omega arith; left = omega (arith, distance_is xs ys) }

pub shared_flip : (xs ys : List Row) → shared xs ys ≡ shared ys xs
shared_flip xs ys = omega (arith, first_shared xs ys, second_shared ys xs)

pub shared_same : (xs ys us vs : List Row) → IsPermutation xs us → IsPermutation ys vs → shared us vs ≡ shared xs ys
shared_same xs ys us vs p q = omega (arith, first_shared xs ys, first_shared us vs, length_permutation xs us p, missing_steady.reordered xs ys us vs p q)

-- ---- one row more

pub shared_none : (ys : List Row) → shared [] ys ≡ 0
shared_none ys = omega (arith, first_shared [] ys)

-- a row that the other bag has not
pub shared_other : (x : Row) (xs ys : List Row) → times x ys ≡ 0 → shared (x ∷ xs) ys ≡ shared xs ys
shared_other x xs ys e =
    let few = missing_alike ys xs ys (x ∷ xs) (λ z. (step z (same z x) refl).0) in
    let many = missing_alike ys (x ∷ xs) ys xs (λ z. (step z (same z x) refl).1) in
    omega (arith, second_shared (x ∷ xs) ys, second_shared xs ys)
  where
    step : (z : Row) (b : Bool) → same z x ≡ b → (times z ys - times z (x ∷ xs) ≤ times z ys - times z xs) × (times z ys - times z xs ≤ times z ys - times z (x ∷ xs))
    step z true s = let none : times z ys ≡ 0 = ap (λ r. times r ys) (same_is z x s) ∙ e in (omega arith, omega arith)
    step z false s = (omega (arith, times_other z x xs s), omega (arith, times_other z x xs s))

-- a row that both have
pub shared_both : (x : Row) (xs ys : List Row) → shared (x ∷ xs) (x ∷ ys) ≡ 1 + shared xs ys
shared_both x xs ys =
    let few = missing_alike xs ys (x ∷ xs) (x ∷ ys) (λ z. omega (arith, times_cons z x xs, times_cons z x ys)) in
    let many = missing_alike (x ∷ xs) (x ∷ ys) xs ys (λ z. omega (arith, times_cons z x xs, times_cons z x ys)) in
    omega (arith, first_shared (x ∷ xs) (x ∷ ys), first_shared xs ys)

pub shared_absent : (xs ys : List Row) → AllByRecursion (λ x. times x ys ≡ 0) xs → shared xs ys ≡ 0
shared_absent [] ys h = shared_none ys
shared_absent (x ∷ xs) ys h = shared_other x xs ys h.0 ∙ shared_absent xs ys h.1

-- ---- rows mapped by a function that another undoes

back : (f g : Row → Row) (xs : List Row) → AllByRecursion (λ x. g (f x) ≡ x) xs → map g (map f xs) ≡ xs
back f g [] h = refl
back f g (x ∷ xs) h = λ i. h.0 i ∷ back f g xs h.1 i

pub shared_mapped : (f g : Row → Row) (xs ys : List Row) → AllByRecursion (λ x. g (f x) ≡ x) xs → AllByRecursion (λ y. g (f y) ≡ y) ys → shared (map f xs) (map f ys) ≡ shared xs ys
shared_mapped f g xs ys p q =
    let few = missing_steady.mapped f xs ys in
    let many : missing xs ys ≤ missing (map f xs) (map f ys) = rw (back f g xs p, back f g ys q) at (missing_steady.mapped g (map f xs) (map f ys)) in
    omega (arith, first_shared xs ys, first_shared (map f xs) (map f ys), length-map xs f)
