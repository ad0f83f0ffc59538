-- Bytes spell a number exactly when they are that number in decimal.
use Rattle.std.proofs.Common.{inl, inr, ◌≡◌, ℕ, zero, suc, ◌+◌, ◌-◌, ◌*◌, ◌^◌, ◌<◌, ◌≤◌, Bool, true, false, cond, ◌&&◌, eqb, leb, List, [], ◌∷◌, length, get_or, ℤ, pos, negsuc, nat_abs, Some, None, decimal, Option, sym, refl, ap, ◌∙◌, subst, arith, rules}
use Rattle.std.proofs.lemmas.Fmt.{decimal-digits_value, digits_decimal, digits_value-decimal, decimal_nonempty, decimal_digit, first_decimal}
use Rattle.std.proofs.lemmas.Str.Parse.{IsNumeralModel, numerals_by_fold}
use Rattle.std.proofs.lemmas.Option.{none-some}
use Rattle.std.proofs.lemmas.Bool.{cases_eq, eq-eqb, and_parts, leb-true, le-leb, ne_eqb, eqb-true, cond-true, cond-false}
use Rattle.std.specs.Str.{all_ascii_digits}
use Rattle.std.specs.Char.{is_ascii_digit}
use Rattle.std.specs.Fmt.{signed_decimal}
use Rattle.trees.specs.Size.{literal_bound}
use Rattle.lines.specs.Number.{value_from, numeral, positive, negative, number_spelled, Spells}

-- digits behind a number n
abbrev read_on : ℕ → List ℕ → ℕ
read_on n [] = n
read_on n (c ∷ cs) = read_on (10 * n + (c - 48)) cs

own : IsNumeralModel (λ ds. all_ascii_digits ds ≡ true) (read_on 0)
own = numerals_by_fold _ (search rules) read_on (search rules)

value_tells : (n : ℕ) (ds : List ℕ) (m : ℕ) → n ≤ literal_bound → value_from n ds ≡ Some m → (all_ascii_digits ds ≡ true) × (read_on n ds ≡ m) × (m ≤ literal_bound)
value_tells n [] m h e = let same : n ≡ m = cc in (refl, same, omega arith)
value_tells n (c ∷ cs) m h e = go (is_ascii_digit c) (leb (10 * n + (c - 48)) literal_bound) refl (value_tells (10 * n + (c - 48)) cs m) e
  where
    go : (d t : Bool) → leb (10 * n + (c - 48)) literal_bound ≡ t → (10 * n + (c - 48) ≤ literal_bound → value_from (10 * n + (c - 48)) cs ≡ Some m → (all_ascii_digits cs ≡ true) × (read_on (10 * n + (c - 48)) cs ≡ m) × (m ≤ literal_bound)) → cond d (cond t (value_from (10 * n + (c - 48)) cs) None) None ≡ Some m → ((d && all_ascii_digits cs) ≡ true) × (read_on (10 * n + (c - 48)) cs ≡ m) × (m ≤ literal_bound)
    go true true l ih f = ih (leb-true (10 * n + (c - 48)) literal_bound l) f
    go true false l ih f = absurd (none-some m f)
    go false t l ih f = absurd (none-some m f)

read_on_ge : (n : ℕ) (ds : List ℕ) → n ≤ read_on n ds
read_on_ge n [] = omega arith
read_on_ge n (c ∷ cs) = omega (arith, read_on_ge (10 * n + (c - 48)) cs)

value_of : (n : ℕ) (ds : List ℕ) → all_ascii_digits ds ≡ true → read_on n ds ≤ literal_bound → value_from n ds ≡ Some (read_on n ds)
value_of n [] d h = refl
value_of n (c ∷ cs) d h =
    let (here, later) = and_parts (is_ascii_digit c) (all_ascii_digits cs) d in
    let small : 10 * n + (c - 48) ≤ literal_bound = omega (arith, read_on_ge (10 * n + (c - 48)) cs) in
    cond-true (is_ascii_digit c) (cond (leb (10 * n + (c - 48)) literal_bound) (value_from (10 * n + (c - 48)) cs) None) None here
    ∙ cond-true (leb (10 * n + (c - 48)) literal_bound) (value_from (10 * n + (c - 48)) cs) None (le-leb (10 * n + (c - 48)) literal_bound small)
    ∙ value_of (10 * n + (c - 48)) cs later h

-- a numeral has digits, and 0 in front only alone
numeral_tells : (ds : List ℕ) (n : ℕ) → numeral ds ≡ Some n → (value_from 0 ds ≡ Some n) × (0 < length ds) × (get_or ds 0 0 ≡ 48 → length ds ≡ 1)
numeral_tells [] n e = absurd (none-some n e)
numeral_tells (c ∷ []) n e = (e, omega arith, λ z. refl)
numeral_tells (c ∷ d ∷ cs) n e = elim (cases_eq c 48) [ inl z ↦ absurd (none-some n (sym (cond-true (eqb c 48) None (value_from 0 (c ∷ d ∷ cs)) (eq-eqb c 48 z)) ∙ e)) | inr z ↦ (sym (cond-false (eqb c 48) None (value_from 0 (c ∷ d ∷ cs)) (ne_eqb c 48 z)) ∙ e, omega arith, λ w. absurd (z w)) ]

numeral_of : (ds : List ℕ) → 0 < length ds → (get_or ds 0 0 ≡ 48 → length ds ≡ 1) → numeral ds ≡ value_from 0 ds
numeral_of [] h z = absurd (omega arith)
numeral_of (c ∷ []) h z = refl
numeral_of (c ∷ d ∷ cs) h z = cond-false (eqb c 48) None (value_from 0 (c ∷ d ∷ cs)) (ne_eqb c 48 (λ e. omega (arith, z e)))

decimal_from_numeral : (ds : List ℕ) (n : ℕ) → numeral ds ≡ Some n → (ds ≡ decimal n) × (n ≤ literal_bound)
decimal_from_numeral ds n e =
    let (value, some, zeros) = numeral_tells ds n e in
    let (digits, reads, small) = value_tells 0 ds n (omega arith) value in
    (sym (sym (ap decimal reads) ∙ decimal-digits_value own ds digits some zeros (omega arith)), small)

numeral_from_decimal : (n : ℕ) → n ≤ literal_bound → numeral (decimal n) ≡ Some n
numeral_from_decimal n h =
    let small : n < 2 ^ 64 = omega arith in
    let back : read_on 0 (decimal n) ≡ n = digits_value-decimal own n small in
    numeral_of (decimal n) (decimal_nonempty n small) (zeros n small)
    ∙ value_of 0 (decimal n) (digits_decimal own n small) (omega arith)
    ∙ ap (λ m. Some m) back
  where
    zeros : (n : ℕ) → n < 2 ^ 64 → get_or (decimal n) 0 0 ≡ 48 → length (decimal n) ≡ 1
    zeros zero s e = ap length (decimal_digit 0 (omega arith))
    zeros (suc m) s e = absurd (omega (arith, first_decimal (suc m) (omega arith) s))

-- a numeral does not begin with a minus
no_minus : (ds : List ℕ) (n : ℕ) → numeral ds ≡ Some n → number_spelled ds ≡ Some (pos n)
no_minus [] n e = absurd (none-some n e)
no_minus (c ∷ cs) n e =
    let (value, some, zeros) = numeral_tells (c ∷ cs) n e in
    let (digits, reads, small) = value_tells 0 (c ∷ cs) n (omega arith) value in
    let digit : is_ascii_digit c ≡ true = (and_parts (is_ascii_digit c) (all_ascii_digits cs) digits).0 in
    let low : 48 ≤ c = leb-true 48 c (and_parts (leb 48 c) (leb c 57) digit).0 in
    cond-false (eqb c 45) (negative (numeral cs)) (positive (numeral (c ∷ cs))) (ne_eqb c 45 (λ z. omega arith)) ∙ ap positive e

positive_tells : (ds : List ℕ) (o : Option ℕ) (z : ℤ) → numeral ds ≡ o → positive o ≡ Some z → (ds ≡ signed_decimal z) × (nat_abs z ≤ literal_bound)
positive_tells ds None z e f = absurd (none-some z f)
positive_tells ds (Some n) z e f =
    let same : pos n ≡ z = cc in
    subst (λ (y : ℤ). (ds ≡ signed_decimal y) × (nat_abs y ≤ literal_bound)) same (decimal_from_numeral ds n e)

negative_suc : (m : ℕ) → negative (Some (suc m)) ≡ Some (negsuc m)
negative_suc m = cond-false (eqb (suc m) 0) None (Some (negsuc m)) (ne_eqb (suc m) 0 (λ e. omega arith))

negative_tells : (ds : List ℕ) (o : Option ℕ) (z : ℤ) → numeral ds ≡ o → negative o ≡ Some z → (45 ∷ ds ≡ signed_decimal z) × (nat_abs z ≤ literal_bound)
negative_tells ds None z e f = absurd (none-some z f)
negative_tells ds (Some zero) z e f = absurd (none-some z f)
negative_tells ds (Some (suc m)) z e f =
    let same : negsuc m ≡ z = cc (negative_suc m) in
    let d = decimal_from_numeral ds (suc m) e in
    subst (λ (y : ℤ). (45 ∷ ds ≡ signed_decimal y) × (nat_abs y ≤ literal_bound)) same (ap (λ (xs : List ℕ). 45 ∷ xs) d.0, d.1)

pub spelled_tells : (bs : List ℕ) (z : ℤ) → number_spelled bs ≡ Some z → (bs ≡ signed_decimal z) × (nat_abs z ≤ literal_bound)
spelled_tells [] z e = absurd (none-some z e)
spelled_tells (c ∷ cs) z e = go (eqb c 45) refl e
  where
    go : (t : Bool) → eqb c 45 ≡ t → cond t (negative (numeral cs)) (positive (numeral (c ∷ cs))) ≡ Some z → (c ∷ cs ≡ signed_decimal z) × (nat_abs z ≤ literal_bound)
    go true t f = let r = negative_tells cs (numeral cs) z refl f in (ap (λ x. x ∷ cs) (eqb-true c 45 t) ∙ r.0, r.1)
    go false t f = positive_tells (c ∷ cs) (numeral (c ∷ cs)) z refl f

pub spelled_of : (z : ℤ) → nat_abs z ≤ literal_bound → number_spelled (signed_decimal z) ≡ Some z
spelled_of (pos n) h = no_minus (decimal n) n (numeral_from_decimal n h)
spelled_of (negsuc n) h = ap negative (numeral_from_decimal (suc n) h) ∙ negative_suc n

pub spells : (bs : List ℕ) (r : Option ℤ) → r ≡ number_spelled bs → Spells bs r
spells bs r f z = (λ e. spelled_tells bs z (sym f ∙ e), λ e h. f ∙ ap number_spelled e ∙ spelled_of z h)
