-- The rows that one bag has more than another: as many as are missing, and no bag that makes up for what is missing has fewer.
use Rattle.std.proofs.Common.{◌≡◌, ℕ, ◌+◌, ◌-◌, ◌≤◌, Bool, true, false, cond, leb, List, [], ◌∷◌, ◌++◌, length, sum_by, sym, refl, ◌∙◌, subst, arith}
use Rattle.std.proofs.lemmas.List.Sums.{sum_by-append}
use Rattle.std.proofs.lemmas.Bool.{leb-false, leb-true}
use Rattle.sources.specs.Source.{Row}
use Rattle.bags.specs.Distance.{different, distance, missing, same, times}
use Rattle.bags.proofs.Counts.{Once, counted, same_is, sum_grows, sum_by_one, sum_by_plus, times_append, times_different, times_none, times_other, times_same}

-- of each row those that xs has more than ys
unfoldable pub lost : List Row → List Row → List Row
lost [] ys = []
lost (x ∷ xs) ys = cond (leb (times x ys) (times x xs)) (x ∷ lost xs ys) (lost xs ys)

pub times_lost : (z : Row) (xs ys : List Row) → times z (lost xs ys) ≡ times z xs - times z ys
unfolding lost
times_lost z [] ys = times_none z ∙ omega (arith, times_none z)
times_lost z (x ∷ xs) ys = go (leb (times x ys) (times x xs)) (same z x) refl refl (times_lost z xs ys)
  where
    at : (P : Row → Type 0) → same z x ≡ true → P x → P z
    at P e h = subst P (sym (same_is z x e)) h

    go : (a b : Bool) → leb (times x ys) (times x xs) ≡ a → same z x ≡ b → times z (lost xs ys) ≡ times z xs - times z ys → times z (cond a (x ∷ lost xs ys) (lost xs ys)) ≡ times z (x ∷ xs) - times z ys
    go true true d e ih =
        let more : times z ys ≤ times z xs = at (λ r. times r ys ≤ times r xs) e (leb-true (times x ys) (times x xs) d) in
        omega (arith, ih, times_same z x (lost xs ys) e, times_same z x xs e)
    go true false d e ih = omega (arith, ih, times_other z x (lost xs ys) e, times_other z x xs e)
    go false true d e ih =
        let fewer : times z xs + 1 ≤ times z ys = at (λ r. times r xs + 1 ≤ times r ys) e (omega (arith, leb-false (times x ys) (times x xs) d)) in
        omega (arith, ih, times_same z x xs e)
    go false false d e ih = omega (arith, ih, times_other z x xs e)

-- the sum over the different rows is the same wherever each row stands once
pub missing_over : (u xs ys : List Row) → Once u xs → sum_by (λ z. times z xs - times z ys) u ≡ length (lost xs ys)
missing_over u xs ys once =
    (λ i. sum_by (λ z. sym (times_lost z xs ys) i) u) ∙ counted u (lost xs ys) (λ z h. once z (omega (arith, times_lost z xs ys)))

once_each : (xs ys : List Row) → Once (different (xs ++ ys)) (xs ++ ys)
once_each xs ys z h = times_different z (xs ++ ys) ∙ omega (arith, h)

-- the different rows of two bags have each row of either once
module _ (xs ys : List Row) where
  pub first_once : Once (different (xs ++ ys)) xs
  first_once z h = once_each xs ys z (omega (arith, times_append z xs ys))

  pub second_once : Once (different (xs ++ ys)) ys
  second_once z h = once_each xs ys z (omega (arith, times_append z xs ys))

  pub missing_is : missing xs ys ≡ length (lost xs ys)
  unfolding missing
  missing_is = missing_over (different (xs ++ ys)) xs ys first_once

-- what the first bag has more, and what the second has more
pub distance_is : (xs ys : List Row) → distance xs ys ≡ missing xs ys + missing ys xs
unfolding distance
distance_is xs ys =
    let u = different (xs ++ ys) in
    sum_by_plus (λ z. times z xs - times z ys) (λ z. times z ys - times z xs) u
    ∙ omega (arith, missing_over u xs ys (first_once xs ys), missing_over u ys xs (second_once xs ys), missing_is xs ys, missing_is ys xs)

-- a sum grows by no more than the sum over the rows that are lost
pub sum_lost : (g : Row → ℕ) (xs ys : List Row) → sum_by g xs ≤ sum_by g ys + sum_by g (lost xs ys)
sum_lost g xs ys = omega (arith, sum_by-append g ys (lost xs ys), sum_grows g xs (ys ++ lost xs ys) (λ z. omega (arith, times_append z ys (lost xs ys), times_lost z xs ys)))

-- ys and l together have each row as often as xs, or more
abbrev pub MakesUp : (l xs ys : List Row) → Type 0
MakesUp l xs ys = (z : Row) → times z xs ≤ times z ys + times z l

-- no bag that makes up for what is missing is shorter than what is lost
pub missing_least : (l xs ys : List Row) → MakesUp l xs ys → missing xs ys ≤ length l
missing_least l xs ys h = omega (arith, missing_is xs ys, sum_by_one l, sum_by_one (lost xs ys), sum_grows (λ _. 1) (lost xs ys) l (λ z. omega (arith, times_lost z xs ys, h z)))
