-- How weighted distances add up.
use Rattle.std.proofs.Common.{◌≡◌, ℕ, zero, suc, ◌+◌, ◌-◌, ◌*◌, ◌<◌, ◌≤◌, cond, eqb, List, [], ◌∷◌, map, length, get_or, replicate, refl, ap, ⊎_elim, arith}
use Rattle.rules.specs.Amounts.{all_added, all_times}
use Rattle.std.proofs.lemmas.Bool.{cases_eq, eq-eqb}
use Rattle.std.specs.List.{range_with_len}

-- weighted distances for the variables in scope: sensitivities us, and how far the values are apart
abbrev pub dot : List ℕ → List ℕ → ℕ
dot [] es = 0
dot (u ∷ us) [] = 0
dot (u ∷ us) (e ∷ es) = u * e + dot us es

pub dot_added : (us vs es : List ℕ) → length us ≡ length vs → dot (all_added us vs) es ≡ dot us es + dot vs es
dot_added [] [] es h = refl
dot_added [] (v ∷ vs) es h = absurd (omega arith)
dot_added (u ∷ us) [] es h = absurd (omega arith)
dot_added (u ∷ us) (v ∷ vs) [] h = refl
dot_added (u ∷ us) (v ∷ vs) (e ∷ es) h = omega (arith, dot_added us vs es (omega arith))

pub dot_times : (n : ℕ) (us es : List ℕ) → dot (all_times n us) es ≡ n * dot us es
dot_times n [] es = omega arith
dot_times n (u ∷ us) [] = omega arith
dot_times n (u ∷ us) (e ∷ es) = omega (arith, dot_times n us es)

pub length_added : (us vs : List ℕ) → length us ≡ length vs → length (all_added us vs) ≡ length us
length_added [] vs h = refl
length_added (u ∷ us) [] h = absurd (omega arith)
length_added (u ∷ us) (v ∷ vs) h = omega (arith, length_added us vs (omega arith))

-- 1 at the variable k of those counted from a on
abbrev one : ℕ → ℕ → ℕ
one k v = cond (eqb v k) 1 0

pub dot_one : (k a n : ℕ) (es : List ℕ) → a ≤ k → k < a + n → n ≤ length es → get_or es (k - a) 0 ≤ dot (map (one k) (range_with_len a n)) es
dot_one k a zero es low high few = absurd (omega arith)
dot_one k a (suc n) [] low high few = absurd (omega arith)
dot_one k a (suc n) (e ∷ es) low high few =
    ⊎_elim
    (λ same.
    let first : k - a ≡ 0 = omega arith in
    let here : get_or (e ∷ es) (k - a) 0 ≡ e = ap (λ m. get_or (e ∷ es) m 0) first in
    let taken : one k a * e ≡ 1 * e = ap (λ b. cond b 1 0 * e) (eq-eqb a k same) in
    omega (arith, here, taken))
    (λ other.
    let behind : k - a ≡ suc (k - (a + 1)) = omega arith in
    let later : get_or (e ∷ es) (k - a) 0 ≡ get_or es (k - (a + 1)) 0 = ap (λ m. get_or (e ∷ es) m 0) behind in
    omega (arith, later, dot_one k (a + 1) n es (omega arith) (omega arith) (omega arith)))
    (cases_eq a k)

pub dot_none : (n : ℕ) (es : List ℕ) → dot (replicate n 0) es ≡ 0
dot_none zero es = refl
dot_none (suc n) [] = refl
dot_none (suc n) (e ∷ es) = omega (arith, dot_none n es)

pub dot_nothing : (us : List ℕ) → dot us [] ≡ 0
dot_nothing [] = refl
dot_nothing (u ∷ us) = refl
