-- Rules: what a call refuses, as the first of several reasons. No reason is `None`.
use Rattle.std.specs.Prelude.{◌≡◌, ℕ, zero, suc, ◌+◌, ◌-◌, ◌<◌, ◌≤◌, Bool, true, false, cond, is_some, Some, None, Ok, Err, Option, Result, refl}
use Rattle.std.proofs.Common.{⊎_elim, ◌∙◌, ap, subst, arith}
use Rattle.std.proofs.lemmas.Bool.{true≢false, cases_eq}
use Rattle.refusals.specs.declared.Refusal.{Refusal}

abbrev pub refusal : ℕ → ℕ → ℕ → Refusal
refusal n i j = record { number = n; first = i; second = j }

-- the first reason, else the second
abbrev pub or_else : {X : Type 0} → Option X → Option X → Option X
or_else (Some x) o = Some x
or_else None o = o

-- x is the reason where the test fails
abbrev pub unless : {X : Type 0} → Bool → X → Option X
unless ok x = cond ok None (Some x)

-- the first reason among those at the n indices from i on
abbrev pub first_of : {X : Type 0} → (ℕ → Option X) → (i n : ℕ) → Option X
first_of f i zero = None
first_of f i (suc n) = or_else (f i) (first_of f (i + 1) n)

-- why a call said no, by what each fault tells; nothing where it said yes
abbrev pub reason : {T E : Type 0} → (E → Refusal) → Result T E → Option Refusal
reason told (Ok x) = None
reason told (Err e) = Some (told e)

-- What it tells that there is no reason, and how a search through indices goes on.
pub or_else_none : {X : Type 0} (a b : Option X) → is_some (or_else a b) ≡ false → (is_some a ≡ false) × (is_some b ≡ false)
or_else_none None b e = (refl, e)
or_else_none (Some x) b e = absurd (true≢false e)

pub unless_none : {X : Type 0} (ok : Bool) (x : X) → is_some (unless ok x) ≡ false → ok ≡ true
unless_none true x e = refl
unless_none false x e = absurd (true≢false e)

pub first_of_none : {X : Type 0} (f : ℕ → Option X) (a n : ℕ) → is_some (first_of f a n) ≡ false → (k : ℕ) → a ≤ k → k < a + n → is_some (f k) ≡ false
first_of_none f a zero e k low high = absurd (omega arith)
first_of_none {X} f a (suc n) e k low high =
    let both = or_else_none (f a) (first_of f (a + 1) n) e in
    ⊎_elim (λ same. subst (λ i. is_some (f i) ≡ false) same both.0) (λ other. first_of_none f (a + 1) n both.1 k (omega arith) (omega arith)) (cases_eq a k)

-- A loop that has come to index i of n: what is left gives the answer v, so the reason at i is the answer,
-- and where there is none at i, what is left behind i gives it.
module _ {X : Type 0} (f : ℕ → Option X) (n i : ℕ) (h : i < n) {v : Option X} (left : first_of f i (n - i) ≡ v) where
  split : or_else (f i) (first_of f (i + 1) (n - (i + 1))) ≡ v
  split =
      let more : suc (n - (i + 1)) ≡ n - i = omega arith in
      ap (first_of f i) more ∙ left

  pub first_of_found : (x : X) → Some x ≡ f i → Some x ≡ v
  first_of_found x e = ap (λ o. or_else o (first_of f (i + 1) (n - (i + 1)))) e ∙ split

  pub first_of_next : None ≡ f i → first_of f (i + 1) (n - (i + 1)) ≡ v
  first_of_next e = ap (λ o. or_else o (first_of f (i + 1) (n - (i + 1)))) e ∙ split
