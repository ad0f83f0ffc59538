-- Lists of sensitivities from a place on: their bounds, sums and multiples, none, and 1 at a place.
use Rattle.std.proofs.Common.{◌≡◌, ℕ, zero, suc, ◌+◌, ◌-◌, ◌*◌, ◌<◌, ◌≤◌, true, cond, eqb, leb, List, [], ◌∷◌, length, get_or, drop, set, replicate, sym, refl, ap, ◌∙◌, subst, ap₂, ⊎_elim, one-mul, zero-add, arith}
use Rattle.rules.specs.Amounts.{all_added, all_at_most, all_times}
use Rattle.sources.specs.Indexed.{listed}
use Rattle.std.proofs.lemmas.List.FromFn.{fill_by_all}
use Rattle.std.proofs.lemmas.List.{drop-replicate, drop-set-add, get_or-drop, get_or-replicate, get_or-set_other, get_or-set_same, length-drop, length-replicate, length-set}
use Rattle.std.proofs.lemmas.List.Sums.{AllPass-from_list_all}
use Rattle.std.proofs.lemmas.Bool.{and_from, cases_eq, cond-false, cond-true, eq-eqb, le-leb, leb-true, ne_eqb}

pub at_most_from : (n : ℕ) (xs : List ℕ) (first i : ℕ) → all_at_most n (drop first xs) ≡ true → first ≤ i → i < length xs → get_or xs i 0 ≤ n
at_most_from n xs first i e low high =
    let same : first + (i - first) ≡ i = omega arith in
    subst (λ k. get_or xs k 0 ≤ n) same (rw get_or-drop at (leb-true _ n (AllPass-from_list_all (λ x. leb x n) (drop first xs) e (i - first) 0 (rw length-drop (omega arith)))))

-- what is at each place the first number and n times the second
pub sums_from : (n : ℕ) (ws xs ys : List ℕ) → length ws ≡ length xs → length ys ≡ length xs → ((i : ℕ) → i < length xs → get_or ws i 0 ≡ get_or xs i 0 + n * get_or ys i 0) → ws ≡ all_added xs (all_times n ys)
sums_from n [] [] ys e f each = refl
sums_from n [] (x ∷ xs) ys e f each = absurd (omega arith)
sums_from n (w ∷ ws) [] ys e f each = absurd (omega arith)
sums_from n (w ∷ ws) (x ∷ xs) [] e f each = absurd (omega arith)
sums_from n (w ∷ ws) (x ∷ xs) (y ∷ ys) e f each = ap₂ ◌∷◌ (each 0 (omega arith)) (sums_from n ws xs ys (omega arith) (omega arith) (λ i h. each (suc i) (omega arith)))

pub times_one : (xs : List ℕ) → all_times 1 xs ≡ xs
times_one [] = refl
times_one (x ∷ xs) = ap₂ ◌∷◌ (one-mul x) (times_one xs)

pub zeros_at_most : (n k : ℕ) → all_at_most n (replicate k 0) ≡ true
zeros_at_most n zero = refl
zeros_at_most n (suc k) = and_from (leb 0 n) _ (le-leb 0 n (omega arith)) (zeros_at_most n k)

pub zeros_added : (n : ℕ) (xs : List ℕ) → length xs ≡ n → all_added (replicate n 0) xs ≡ xs
zeros_added zero [] e = refl
zeros_added zero (x ∷ xs) e = absurd (omega arith)
zeros_added (suc n) [] e = absurd (omega arith)
zeros_added (suc n) (x ∷ xs) e = ap₂ ◌∷◌ (zero-add x) (zeros_added n xs (omega arith))

-- 1 at index i of n
module _ (n i : ℕ) (h : i < n) where
  abbrev bit : ℕ → ℕ
  bit v = cond (eqb v i) 1 0

  abbrev zeros : List ℕ
  zeros = replicate n 0

  one_at : (k : ℕ) → k < n → get_or (set zeros i 1) k 0 ≡ bit k
  one_at k l =
      ⊎_elim
      (λ same. subst (λ j. get_or (set zeros i 1) j 0 ≡ bit j) (sym same) (get_or-set_same zeros i 1 0 (rw length-replicate h) ∙ sym (cond-true (eqb i i) 1 0 (eq-eqb i i refl))))
      (λ other. get_or-set_other zeros i k 1 0 other ∙ get_or-replicate n k 0 0 l ∙ sym (cond-false (eqb k i) 1 0 (ne_eqb k i other)))
      (cases_eq k i)

  one_listed : set zeros i 1 ≡ listed bit n
  one_listed = fill_by_all bit (set zeros i 1) n 0 (length-set zeros i 1 ∙ length-replicate n 0) one_at

-- and in a list of k, from a place on
pub drop_one : (k first i : ℕ) → i < k - first → drop first (set {A = ℕ} (replicate k 0) (first + i) 1) ≡ listed (λ v. cond (eqb v i) 1 0) (k - first)
drop_one k first i h = drop-set-add first (replicate k 0) i 1 ∙ ap (λ (zs : List ℕ). set zs i 1) (drop-replicate first k 0) ∙ one_listed (k - first) i h
