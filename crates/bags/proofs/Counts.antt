-- How often a row stands in a bag, and sums over the rows by their counts.
use Rattle.std.proofs.Common.{◌≡◌, ℕ, ◌+◌, ◌*◌, ◌≤◌, min, Bool, true, false, cond, not, List, [], ◌∷◌, ◌++◌, map, length, sum_by, filter, sym, refl, ap, ◌∙◌, mul-le-mul_right, mul-one, add-mul, one-mul, zero-mul, arith}
use Rattle.std.proofs.lemmas.List.Sorted.{sum_by-IsPermutation}
use Rattle.std.proofs.lemmas.List.Sums.{sum_by-append, sum_by-cons, sum_by-le-sum_by}
use Rattle.std.proofs.lemmas.Bool.{both_ways}
use Rattle.std.proofs.lemmas.Bool.Decides.{Decides-int_eq}
use Rattle.std.proofs.lemmas.Cmp.{int_eq_equiv, lists_equiv}
use Rattle.std.specs.Cmp.Lexicographic.{pointwise_decides}
use Rattle.std.specs.List.{AllByRecursion}
use Rattle.std.specs.List.Sorted.{IsPermutation}
use Rattle.sources.specs.Source.{Row}
use Rattle.bags.specs.Distance.{different, same, times}

pub same_is : (x y : Row) → same x y ≡ true → x ≡ y
same_is x y = (pointwise_decides Decides-int_eq x y).0

pub same_itself : (x : Row) → same x x ≡ true
same_itself = (lists_equiv int_eq_equiv).refl

same_flip : (x y : Row) → same x y ≡ same y x
same_flip = (lists_equiv int_eq_equiv).symm

-- ---- sums

sum_by_none : (u : List Row) → sum_by (λ _. 0) u ≡ 0
sum_by_none [] = refl
sum_by_none (z ∷ u) = sum_by-cons (λ _. 0) z u ∙ omega (arith, sum_by_none u)

pub sum_by_plus : (f g : Row → ℕ) (u : List Row) → sum_by (λ z. f z + g z) u ≡ sum_by f u + sum_by g u
sum_by_plus f g [] = refl
sum_by_plus f g (z ∷ u) = sum_by-cons (λ z. f z + g z) z u ∙ omega (arith, sum_by_plus f g u, sum_by-cons f z u, sum_by-cons g z u)

pub sum_by_one : (u : List Row) → sum_by (λ _. 1) u ≡ length u
sum_by_one [] = refl
sum_by_one (z ∷ u) = sum_by-cons (λ _. 1) z u ∙ omega (arith, sum_by_one u)

-- ---- counts

pub times_none : (z : Row) → times z [] ≡ 0
unfolding times
times_none z = refl

pub times_cons : (z x : Row) (xs : List Row) → times z (x ∷ xs) ≡ cond (same z x) 1 0 + times z xs
unfolding times
times_cons z x xs = sum_by-cons (λ y. cond (same z y) 1 0) x xs

pub times_append : (z : Row) (xs ys : List Row) → times z (xs ++ ys) ≡ times z xs + times z ys
unfolding times
times_append z xs ys = sum_by-append (λ y. cond (same z y) 1 0) xs ys

pub times_shuffled : (z : Row) (xs ys : List Row) → IsPermutation xs ys → times z ys ≡ times z xs
unfolding times
times_shuffled z xs ys h = sum_by-IsPermutation (λ y. cond (same z y) 1 0) xs ys h

pub times_map : (f : Row → Row) (y : Row) (xs : List Row) → times y (map f xs) ≡ sum_by (λ x. cond (same y (f x)) 1 0) xs
times_map f y [] = times_none y
times_map f y (x ∷ xs) = times_cons y (f x) (map f xs) ∙ omega (arith, times_map f y xs, sum_by-cons (λ x. cond (same y (f x)) 1 0) x xs)

pub times_same : (z x : Row) (xs : List Row) → same z x ≡ true → times z (x ∷ xs) ≡ 1 + times z xs
times_same z x xs e = times_cons z x xs ∙ ap (λ b. cond b 1 0 + times z xs) e

pub times_other : (z x : Row) (xs : List Row) → same z x ≡ false → times z (x ∷ xs) ≡ times z xs
times_other z x xs e = times_cons z x xs ∙ ap (λ b. cond b 1 0 + times z xs) e ∙ omega arith

pub times_absent : (x : Row) (xs : List Row) → AllByRecursion (λ y. same x y ≡ false) xs → times x xs ≡ 0
times_absent x [] h = times_none x
times_absent x (y ∷ ys) h = times_other x y ys h.0 ∙ times_absent x ys h.1

pub times_kept : (p : Row → Bool) (z : Row) (xs : List Row) → times z (filter p xs) ≡ cond (p z) (times z xs) 0
times_kept p z [] = times_none z ∙ go (p z)
  where
    go : (b : Bool) → 0 ≡ cond b (times z []) 0
    go true = sym (times_none z)
    go false = refl
times_kept p z (x ∷ xs) = go (p x) (p z) (same z x) refl refl refl (times_kept p z xs)
  where
    alike : same z x ≡ true → p z ≡ p x
    alike e = ap p (same_is z x e)

    go : (a b s : Bool) → p x ≡ a → p z ≡ b → same z x ≡ s → times z (filter p xs) ≡ cond b (times z xs) 0 → times z (cond a (x ∷ filter p xs) (filter p xs)) ≡ cond b (times z (x ∷ xs)) 0
    go true true s d e f h = omega (arith, h, times_cons z x xs, times_cons z x (filter p xs))
    go true false true d e f h = absurd (both_ways (p z) e (alike f ∙ d))
    go true false false d e f h = times_other z x (filter p xs) f ∙ h
    go false true true d e f h = absurd (both_ways (p x) d (sym (alike f) ∙ e))
    go false true false d e f h = h ∙ sym (times_other z x xs f)
    go false false s d e f h = h

-- each row of a bag stands once among its different rows
pub times_different : (z : Row) (xs : List Row) → times z (different xs) ≡ min 1 (times z xs)
unfolding different
times_different z [] = times_none z ∙ ap (min 1) (sym (times_none z))
times_different z (x ∷ xs) = go (same z x) refl (times_different z xs)
  where
    others : Row → Bool
    others y = not (same x y)

    go : (b : Bool) → same z x ≡ b → times z (different xs) ≡ min 1 (times z xs) → times z (x ∷ filter others (different xs)) ≡ min 1 (times z (x ∷ xs))
    go true e h =
        let gone : times z (filter others (different xs)) ≡ 0 = times_kept others z (different xs) ∙ ap (λ b. cond (not b) (times z (different xs)) 0) (same_flip x z ∙ e) in
        omega (arith, gone, times_same z x xs e, times_same z x (filter others (different xs)) e)
    go false e h =
        times_other z x (filter others (different xs)) e
        ∙ times_kept others z (different xs)
        ∙ ap (λ b. cond (not b) (times z (different xs)) 0) (same_flip x z ∙ e)
        ∙ h
        ∙ ap (min 1) (sym (times_other z x xs e))

-- u has each row of l once
abbrev pub Once : List Row → List Row → Type 0
Once u l = (z : Row) → 1 ≤ times z l → times z u ≡ 1

one_of : (x : Row) (k : ℕ) (u : List Row) → sum_by (λ z. cond (same z x) k 0) u ≡ times x u * k
one_of x k [] = sym (ap (λ n. n * k) (times_none x) ∙ zero-mul k)
one_of x k (z ∷ u) = sum_by-cons (λ z. cond (same z x) k 0) z u ∙ ap (λ n. cond (same z x) k 0 + n) (one_of x k u) ∙ go (same z x) refl
  where
    go : (b : Bool) → same z x ≡ b → cond b k 0 + times x u * k ≡ times x (z ∷ u) * k
    go true e = sym (ap (λ n. n * k) (times_same x z u (same_flip x z ∙ e)) ∙ add-mul 1 (times x u) k ∙ ap (λ n. n + times x u * k) (one-mul k))
    go false e = omega arith ∙ sym (ap (λ n. n * k) (times_other x z u (same_flip x z ∙ e)))

-- a sum over a bag, by the counts of its rows
pub weighted : (g : Row → ℕ) (u l : List Row) → Once u l → sum_by (λ z. times z l * g z) u ≡ sum_by g l
weighted g u [] once = (λ i. sum_by (λ z. (ap (λ n. n * g z) (times_none z) ∙ zero-mul (g z)) i) u) ∙ sum_by_none u
weighted g u (x ∷ l) once =
    (λ i. sum_by (λ z. step z i) u)
    ∙ sum_by_plus (λ z. cond (same z x) (g x) 0) (λ z. times z l * g z) u
    ∙ ap (λ n. n + sum_by (λ z. times z l * g z) u) (one_of x (g x) u ∙ ap (λ n. n * g x) (once x (rw (times_same x x l (same_itself x)) (omega arith))) ∙ one-mul (g x))
    ∙ ap (λ n. g x + n) (weighted g u l (λ z h. once z (rw times_cons (omega arith))))
    ∙ sym (sum_by-cons g x l)
  where
    step : (z : Row) → times z (x ∷ l) * g z ≡ cond (same z x) (g x) 0 + times z l * g z
    step z = ap (λ n. n * g z) (times_cons z x l) ∙ add-mul (cond (same z x) 1 0) (times z l) (g z) ∙ ap (λ n. n + times z l * g z) (one (same z x) refl)
      where
        one : (b : Bool) → same z x ≡ b → cond b 1 0 * g z ≡ cond b (g x) 0
        one true e = one-mul (g z) ∙ ap g (same_is z x e)
        one false e = zero-mul (g z)

-- the counts of a bag's rows make up its length, where each of them stands once
pub counted : (u l : List Row) → Once u l → sum_by (λ z. times z l) u ≡ length l
counted u l once = (λ i. sum_by (λ z. sym (mul-one (times z l)) i) u) ∙ weighted (λ _. 1) u l once ∙ sum_by_one l

-- a bag that has more of every row has the greater sum
pub sum_grows : (g : Row → ℕ) (a b : List Row) → ((z : Row) → times z a ≤ times z b) → sum_by g a ≤ sum_by g b
sum_grows g a b h =
    let u = different (a ++ b) in
    let once_a : Once u a = λ z k. once z (omega (arith, times_append z a b)) in
    let once_b : Once u b = λ z k. once z (omega (arith, times_append z a b)) in
    omega (arith, weighted g u a once_a, weighted g u b once_b, sum_by-le-sum_by (λ z. times z a * g z) (λ z. times z b * g z) u (λ z. mul-le-mul_right (g z) (h z)))
  where
    once : Once (different (a ++ b)) (a ++ b)
    once z k = times_different z (a ++ b) ∙ omega (arith, k)
