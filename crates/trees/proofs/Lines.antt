-- The bytes of a list of lines tell the lines.
use Rattle.std.proofs.Common.{◌≡◌, ℕ, suc, ◌+◌, ◌-◌, ◌%◌, ◌^◌, ◌<◌, ◌≤◌, ◌⊎◌, List, [], ◌∷◌, ◌++◌, length, ℤ, pos, negsuc, nat_abs, codes, decimal, sym, refl, ap, ◌∙◌, subst, ap₂, inl, inr, append_assoc, arith}
use mathlib.Core.List.{head-eq_of_cons-eq, tail-eq_of_cons-eq}
use lib.Signed.{mag}
use Rattle.std.proofs.lemmas.Fmt.{decimal_by_steps, signed_decimal_injective}
use Rattle.std.proofs.ByRecursion.{All-push}
use Rattle.std.specs.List.{flat_map, AllByRecursion}
use Rattle.std.specs.Int.{IsInRange}
use Rattle.std.specs.Fmt.{signed_decimal}
use Rattle.trees.proofs.Spelling.{letters, spelled_apart}
use Rattle.trees.specs.declared.words.Word.{Word}
use Rattle.trees.specs.Words.{entry}
use Rattle.trees.specs.Written.{Line, heading, line_bytes, line_numbers}
use Rattle.trees.specs.Written.Line.{opening, leaf, closing}

-- no byte of P comes first
abbrev Stops : (ℕ → Type 0) → List ℕ → Type 0
Stops P [] = Unit {0}
Stops P (x ∷ xs) = P x → ⊥

stops_weaker : (P Q : ℕ → Type 0) → ((x : ℕ) → P x → Q x) → (xs : List ℕ) → Stops Q xs → Stops P xs
stops_weaker P Q weaker [] s = tt
stops_weaker P Q weaker (x ∷ xs) s = λ p. s (weaker x p)

-- two texts that begin with bytes of P part where these end
run_apart : (P : ℕ → Type 0) (xs ys zs us : List ℕ) → AllByRecursion P xs → AllByRecursion P ys → Stops P zs → Stops P us → xs ++ zs ≡ ys ++ us → (xs ≡ ys) × (zs ≡ us)
run_apart P [] [] zs us p q s t e = (refl, e)
run_apart P [] (y ∷ ys) zs us p q s t e = absurd (subst (Stops P) e s q.0)
run_apart P (x ∷ xs) [] zs us p q s t e = absurd (subst (Stops P) (sym e) t p.0)
run_apart P (x ∷ xs) (y ∷ ys) zs us p q s t e =
    let r = run_apart P xs ys zs us p.1 q.1 s t (tail-eq_of_cons-eq e) in
    (ap₂ (λ (c : ℕ) (cs : List ℕ). c ∷ cs) (head-eq_of_cons-eq e) r.0, r.1)

-- a digit or a minus
abbrev Figure : ℕ → Type 0
Figure c = IsInRange 45 57 c

figures_decimal : (n : ℕ) → n < 2 ^ 64 → AllByRecursion Figure (decimal n)
figures_decimal = decimal_by_steps (λ m ds. AllByRecursion Figure ds) (λ m l. ((omega arith, omega arith), tt)) (λ m ds l h. All-push Figure ds (48 + m % 10) h (omega arith, omega arith))

-- a number of 64 bits
abbrev pub Fits : ℤ → Type 0
Fits z = nat_abs z ≤ 2 ^ 63 - 1

figures_signed : (z : ℤ) → Fits z → AllByRecursion Figure (signed_decimal z)
figures_signed (pos n) f = figures_decimal n (omega arith)
figures_signed (negsuc n) f = ((omega arith, omega arith), figures_decimal (suc n) (omega arith))

mag_fits : (z : ℤ) → Fits z → mag z < 2 ^ 63
mag_fits (pos n) f = omega arith
mag_fits (negsuc n) f = omega arith

abbrev spaced : List ℤ → List ℕ
spaced ns = flat_map (λ n. 32 ∷ signed_decimal n) ns

-- a byte that may stand in a word, a number or between them
abbrev Inner : ℕ → Type 0
Inner c = (c ≡ 32) ⊎ (45 ≤ c)

stops_spaced : (P : ℕ → Type 0) → (P 32 → ⊥) → (ns : List ℤ) (xs : List ℕ) → Stops P xs → Stops P (spaced ns ++ xs)
stops_spaced P none [] xs s = s
stops_spaced P none (n ∷ ns) xs s = none

numbers_apart : (ns ms : List ℤ) (xs ys : List ℕ) → AllByRecursion Fits ns → AllByRecursion Fits ms → Stops Inner xs → Stops Inner ys → spaced ns ++ xs ≡ spaced ms ++ ys → (ns ≡ ms) × (xs ≡ ys)
numbers_apart [] [] xs ys f g s t e = (refl, e)
numbers_apart [] (m ∷ ms) xs ys f g s t e = absurd (subst (Stops Inner) e s (inl refl))
numbers_apart (n ∷ ns) [] xs ys f g s t e = absurd (subst (Stops Inner) (sym e) t (inl refl))
numbers_apart (n ∷ ns) (m ∷ ms) xs ys f g s t e =
    let stops : (ks : List ℤ) (zs : List ℕ) → Stops Inner zs → Stops Figure (spaced ks ++ zs) = λ ks zs u. stops_spaced Figure (λ i. omega arith) ks zs (stops_weaker Figure Inner (λ c i. inr i.0) zs u) in
    let tails = sym (append_assoc (signed_decimal n) (spaced ns) xs) ∙ tail-eq_of_cons-eq e ∙ append_assoc (signed_decimal m) (spaced ms) ys in
    let r = run_apart Figure (signed_decimal n) (signed_decimal m) (spaced ns ++ xs) (spaced ms ++ ys) (figures_signed n f.0) (figures_signed m g.0) (stops ns xs s) (stops ms ys t) tails in
    let rest = numbers_apart ns ms xs ys f.1 g.1 s t r.1 in
    (ap₂ (λ (k : ℤ) (ks : List ℤ). k ∷ ks) (signed_decimal_injective n m (mag_fits n f.0) (mag_fits m g.0) r.0) rest.0, rest.1)

head_apart : (w v : Word) (ns ms : List ℤ) (xs ys : List ℕ) → AllByRecursion Fits ns → AllByRecursion Fits ms → Stops Inner xs → Stops Inner ys → heading w ns ++ xs ≡ heading v ms ++ ys → (w ≡ v) × (ns ≡ ms) × (xs ≡ ys)
head_apart w v ns ms xs ys f g s t e =
    let stops : (ks : List ℤ) (zs : List ℕ) → Stops Inner zs → Stops (IsInRange 97 122) (spaced ks ++ zs) = λ ks zs u. stops_spaced (IsInRange 97 122) (λ i. omega arith) ks zs (stops_weaker (IsInRange 97 122) Inner (λ c i. inr (omega arith)) zs u) in
    let parts = sym (append_assoc (entry w).spelling (spaced ns) xs) ∙ e ∙ append_assoc (entry v).spelling (spaced ms) ys in
    let r = run_apart (IsInRange 97 122) (entry w).spelling (entry v).spelling (spaced ns ++ xs) (spaced ms ++ ys) (letters w) (letters v) (stops ns xs s) (stops ms ys t) parts in
    let rest = numbers_apart ns ms xs ys f g s t r.1 in
    (spelled_apart w v r.0, rest.0, rest.1)

-- the same of a form's line, up to what ends it
form_apart : (w v : Word) (ns ms : List ℤ) (zs us xs ys : List ℕ) → AllByRecursion Fits ns → AllByRecursion Fits ms → Stops Inner (zs ++ xs) → Stops Inner (us ++ ys) → (codes "(" ++ (heading w ns ++ zs)) ++ xs ≡ (codes "(" ++ (heading v ms ++ us)) ++ ys → (w ≡ v) × (ns ≡ ms) × (zs ++ xs ≡ us ++ ys)
form_apart w v ns ms zs us xs ys f g s t e =
    head_apart w v ns ms (zs ++ xs) (us ++ ys) f g s t (sym (append_assoc (heading w ns) zs xs) ∙ tail-eq_of_cons-eq e ∙ append_assoc (heading v ms) us ys)

-- a line is told by its bytes, whatever follows
pub line_apart : (l m : Line) (xs ys : List ℕ) → AllByRecursion Fits (line_numbers l) → AllByRecursion Fits (line_numbers m) → line_bytes l ++ xs ≡ line_bytes m ++ ys → (l ≡ m) × (xs ≡ ys)
line_apart (opening w ns) (opening v ms) xs ys f g e =
    let (p, q, r) = form_apart w v ns ms (10 ∷ []) (10 ∷ []) xs ys f g (λ i. omega arith) (λ i. omega arith) e in
    (ap₂ opening p q, tail-eq_of_cons-eq r)
line_apart (opening w ns) (leaf v ms) xs ys f g e =
    let (p, q, r) = form_apart w v ns ms (10 ∷ []) (41 ∷ 10 ∷ []) xs ys f g (λ i. omega arith) (λ i. omega arith) e in
    absurd (omega (arith, head-eq_of_cons-eq r))
line_apart (opening w ns) closing xs ys f g e = absurd (omega (arith, head-eq_of_cons-eq e))
line_apart (leaf w ns) (opening v ms) xs ys f g e =
    let (p, q, r) = form_apart w v ns ms (41 ∷ 10 ∷ []) (10 ∷ []) xs ys f g (λ i. omega arith) (λ i. omega arith) e in
    absurd (omega (arith, head-eq_of_cons-eq r))
line_apart (leaf w ns) (leaf v ms) xs ys f g e =
    let (p, q, r) = form_apart w v ns ms (41 ∷ 10 ∷ []) (41 ∷ 10 ∷ []) xs ys f g (λ i. omega arith) (λ i. omega arith) e in
    (ap₂ leaf p q, tail-eq_of_cons-eq (tail-eq_of_cons-eq r))
line_apart (leaf w ns) closing xs ys f g e = absurd (omega (arith, head-eq_of_cons-eq e))
line_apart closing (opening v ms) xs ys f g e = absurd (omega (arith, head-eq_of_cons-eq e))
line_apart closing (leaf v ms) xs ys f g e = absurd (omega (arith, head-eq_of_cons-eq e))
line_apart closing closing xs ys f g e = (refl, tail-eq_of_cons-eq (tail-eq_of_cons-eq e))

not_empty : (l : Line) (xs : List ℕ) → [] ≡ line_bytes l ++ xs → ⊥
not_empty (opening w ns) xs e = omega (arith, ap length e)
not_empty (leaf w ns) xs e = omega (arith, ap length e)
not_empty closing xs e = omega (arith, ap length e)

pub same_from_bytes : (ls ms : List Line) → AllByRecursion (λ l. AllByRecursion Fits (line_numbers l)) ls → AllByRecursion (λ l. AllByRecursion Fits (line_numbers l)) ms → flat_map line_bytes ls ≡ flat_map line_bytes ms → ls ≡ ms
same_from_bytes [] [] f g e = refl
same_from_bytes [] (m ∷ ms) f g e = absurd (not_empty m (flat_map line_bytes ms) e)
same_from_bytes (l ∷ ls) [] f g e = absurd (not_empty l (flat_map line_bytes ls) (sym e))
same_from_bytes (l ∷ ls) (m ∷ ms) f g e =
    let r = line_apart l m (flat_map line_bytes ls) (flat_map line_bytes ms) f.0 g.0 e in
    ap₂ (λ (k : Line) (ks : List Line). k ∷ ks) r.0 (same_from_bytes ls ms f.1 g.1 r.1)
