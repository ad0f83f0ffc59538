-- Two sorted bags, walked together: what the first rows of both tell of what they share.
use Rattle.std.proofs.Common.{◌≡◌, ℕ, suc, ◌+◌, ◌-◌, ◌<◌, ◌≤◌, Bool, true, false, ◌⊎◌, ⊎_elim, List, [], ◌∷◌, length, get_or, take, drop, Ordering, Less, Equal, Greater, sym, refl, ap, ◌∙◌, arith}
use Rattle.std.proofs.ByRecursion.{All-from_get_or}
use Rattle.std.proofs.lemmas.Cmp.{int_cmp_total, lists_total, tied_itself}
use Rattle.std.proofs.lemmas.List.{take_all}
use Rattle.std.proofs.lemmas.List.Sorted.{searchable_from_sorted}
use Rattle.std.specs.Cmp.Lexicographic.{lists_ties, slice_cmp}
use Rattle.std.specs.List.Sorted.{IsSorted}
use Rattle.std.specs.Ordering.{int_cmp, is_eq, ordering_index, ordering_reverse}
use Rattle.sources.specs.Source.{Row}
use Rattle.bags.specs.Distance.{same, shared, times}
use Rattle.bags.proofs.Counts.{same_is, times_absent}
use Rattle.bags.proofs.Shares.{shared_both, shared_flip, shared_none, shared_other}

abbrev ranked : Row → Row → Ordering
ranked = slice_cmp int_cmp

ranked_flip : (x y : Row) → ranked x y ≡ ordering_reverse (ranked y x)
ranked_flip = (lists_total int_cmp_total).antisymm

-- rows that the order does not tell apart are one row
ranked_equal : (x y : Row) → ranked x y ≡ Equal → x ≡ y
ranked_equal x y e = same_is x y (lists_ties int_cmp (λ a b. refl) x y ∙ ap is_eq e)

sorted_rest : (x : Row) (xs : List Row) → IsSorted ranked (x ∷ xs) → IsSorted ranked xs
sorted_rest x xs sorted k d low high = let e : suc k + 1 ≡ suc (k + 1) = omega arith in rw e at (sorted (suc k) d (omega arith) (omega arith))

-- a row before the first of a sorted bag stands nowhere in it
absent : (x y : Row) (ys : List Row) → IsSorted ranked (y ∷ ys) → ranked x y ≡ Less → times x (y ∷ ys) ≡ 0
absent x y ys sorted less = times_absent x (y ∷ ys) (All-from_get_or (λ z. same x z ≡ false) (y ∷ ys) [] (λ k h. other k h (same x (get_or (y ∷ ys) k [])) refl))
  where
    other : (k : ℕ) → k < length (y ∷ ys) → (b : Bool) → same x (get_or (y ∷ ys) k []) ≡ b → b ≡ false
    other k h false e = refl
    other k h true e =
        let here : x ≡ get_or (y ∷ ys) k [] = same_is x (get_or (y ∷ ys) k []) e in
        let up = searchable_from_sorted (lists_total int_cmp_total) (λ r. r) (y ∷ ys) x sorted 0 k [] (omega arith) h in
        let low : ordering_index (ranked y x) ≡ 2 = ap ordering_index (ranked_flip y x ∙ ap ordering_reverse less) in
        let high : ordering_index (ranked (get_or (y ∷ ys) k []) x) ≡ 1 = ap ordering_index (ap (λ r. ranked r x) (sym here) ∙ tied_itself (lists_total int_cmp_total) x) in
        absurd (omega arith)

less : (x y : Row) (xs ys : List Row) → IsSorted ranked (y ∷ ys) → Less ≡ ranked x y → shared (x ∷ xs) (y ∷ ys) ≡ shared xs (y ∷ ys)
less x y xs ys sorted e = shared_other x xs (y ∷ ys) (absent x y ys sorted (sym e))

greater : (x y : Row) (xs ys : List Row) → IsSorted ranked (x ∷ xs) → Greater ≡ ranked x y → shared (x ∷ xs) (y ∷ ys) ≡ shared (x ∷ xs) ys
greater x y xs ys sorted e = shared_flip (x ∷ xs) (y ∷ ys) ∙ less y x ys xs sorted (sym (ranked_flip y x ∙ ap ordering_reverse (sym e))) ∙ shared_flip ys (x ∷ xs)

equals : (x y : Row) (xs ys : List Row) → Equal ≡ ranked x y → shared (x ∷ xs) (y ∷ ys) ≡ shared xs ys + 1
equals x y xs ys e = ap (λ z. shared (x ∷ xs) (z ∷ ys)) (sym (ranked_equal x y (sym e))) ∙ shared_both x xs ys ∙ omega arith

-- what is left of two sorted bags, and how many rows were counted: with those that what is left shares, they are all that the bags share
pub record Left (first second : List Row) (count : ℕ) (xs ys : List Row) : Type 0 where
  pub first_sorted : IsSorted ranked xs
  pub second_sorted : IsSorted ranked ys
  pub few : count + length xs ≤ length first
  pub all : count + shared xs ys ≡ shared first second

-- what the pattern `[x, rest @ ..]` leaves
abbrev rest : List Row → List Row
rest xs = take (length xs - 1) (drop 1 xs)

rest_is : (x : Row) (xs : List Row) → rest (x ∷ xs) ≡ xs
rest_is x xs = take_all (suc (length xs) - 1) xs (omega arith)

module _ {first second : List Row} {count : ℕ} where
  pub less_walked : (xs ys : List Row) → Left first second count xs ys → 1 ≤ length xs → 1 ≤ length ys → Less ≡ ranked (get_or xs 0 []) (get_or ys 0 []) → Left first second count (rest xs) ys
  less_walked [] ys left h k e = absurd (omega arith)
  less_walked (x ∷ xs) [] left h k e = absurd (omega arith)
  less_walked (x ∷ xs) (y ∷ ys) left h k e =
      let p = left.few in
      rw (rest_is x xs) (record { first_sorted = sorted_rest x xs left.first_sorted; second_sorted = left.second_sorted; few = omega arith; all = omega (arith, left.all, less x y xs ys left.second_sorted e) })

  pub greater_walked : (xs ys : List Row) → Left first second count xs ys → 1 ≤ length xs → 1 ≤ length ys → Greater ≡ ranked (get_or xs 0 []) (get_or ys 0 []) → Left first second count xs (rest ys)
  greater_walked [] ys left h k e = absurd (omega arith)
  greater_walked (x ∷ xs) [] left h k e = absurd (omega arith)
  greater_walked (x ∷ xs) (y ∷ ys) left h k e =
      rw (rest_is y ys) (record { first_sorted = left.first_sorted; second_sorted = sorted_rest y ys left.second_sorted; few = left.few; all = omega (arith, left.all, greater x y xs ys left.first_sorted e) })

  pub equal_walked : (xs ys : List Row) → Left first second count xs ys → 1 ≤ length xs → 1 ≤ length ys → Equal ≡ ranked (get_or xs 0 []) (get_or ys 0 []) → Left first second (count + 1) (rest xs) (rest ys)
  equal_walked [] ys left h k e = absurd (omega arith)
  equal_walked (x ∷ xs) [] left h k e = absurd (omega arith)
  equal_walked (x ∷ xs) (y ∷ ys) left h k e =
      let p = left.few in
      rw (rest_is x xs, rest_is y ys) (record { first_sorted = sorted_rest x xs left.first_sorted; second_sorted = sorted_rest y ys left.second_sorted; few = omega arith; all = omega (arith, left.all, equals x y xs ys e) })

  -- where one of them is used up, all are counted
  pub used_up : (xs ys : List Row) → Left first second count xs ys → (length xs < 1) ⊎ (length ys < 1) → count ≡ shared first second
  used_up [] ys left h = omega (arith, left.all, shared_none ys)
  used_up (x ∷ xs) [] left h = omega (arith, left.all, shared_flip (x ∷ xs) [], shared_none (x ∷ xs))
  used_up (x ∷ xs) (y ∷ ys) left h = absurd (⊎_elim (λ k. omega arith) (λ k. omega arith) h)
