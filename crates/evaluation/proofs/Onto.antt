-- Where each of n numbers has a place of its own below n, each place below n has a number.
use Rattle.std.proofs.Common.{◌≡◌, ℕ, zero, suc, ◌<◌, ◌⊎◌, sym, refl, ◌∙◌, subst, inl, inr, arith}
use Rattle.std.proofs.lemmas.Bool.{cases_eq}

-- each number below n has a place below n, and no place has two numbers
abbrev Placed : (ℕ → ℕ → Type 0) → ℕ → Type 0
Placed R n = ((j : ℕ) → j < n → (q : ℕ) × (q < n) × R j q) × ((i j q : ℕ) → R i q → R j q → i ≡ j)

-- the numbers below n, where v, which number n leaves free, is the place of the one that had place n
abbrev Moved : (ℕ → ℕ → Type 0) → (n v : ℕ) → ℕ → ℕ → Type 0
Moved R n v j q = (j < n) × (R j q ⊎ ((q ≡ v) × R j n))

module _ (n : ℕ) (R : ℕ → ℕ → Type 0) (h : Placed R (suc n)) (v : ℕ) (v_below : v < suc n) (at_v : R n v) where
  v_inside : (n ≡ v → ⊥) → v < n
  v_inside other = omega (arith, other)

  moved : Placed (Moved R n v) n
  moved = (placed, own)
    where
      placed : (j : ℕ) → j < n → (q : ℕ) × (q < n) × Moved R n v j q
      placed j below =
          let (q, k, r) = h.0 j (omega arith) in
          elim (cases_eq q n) [
            | inl e ↦ let at_n : R j n = subst (R j) e r in (v, v_inside (λ s. absurd (omega (arith, h.1 j n n at_n (subst (R n) (sym s) at_v)))), (below, inr (refl, at_n)))
            | inr other ↦ (q, omega (arith, other), (below, inl r))
          ]

      own : (i j q : ℕ) → Moved R n v i q → Moved R n v j q → i ≡ j
      own i j q (a, inl r) (b, inl s) = h.1 i j q r s
      own i j q (a, inl r) (b, inr (e, s)) = absurd (omega (arith, h.1 i n v (subst (R i) e r) at_v))
      own i j q (a, inr (e, r)) (b, inl s) = absurd (omega (arith, h.1 j n v (subst (R j) e s) at_v))
      own i j q (a, inr (e, r)) (b, inr (f, s)) = h.1 i j n r s

  module _ (inner : (q : ℕ) → q < n → (j : ℕ) × Moved R n v j q) where
    at_last : (n ≡ v → ⊥) → (j : ℕ) × R j n
    at_last other =
        let (j, (below, way)) = inner v (v_inside other) in
        elim way [ inl r ↦ absurd (omega (arith, h.1 j n v r at_v)) | inr s ↦ (j, s.1) ]

    all : (q : ℕ) → q < suc n → (j : ℕ) × R j q
    all q below = elim (cases_eq q n) [
      | inl e ↦ elim (cases_eq n v) [
        | inl same ↦ (n, subst (R n) (sym same ∙ sym e) at_v)
        | inr other ↦ let (j, r) = at_last other in (j, subst (R j) (sym e) r)
      ]
      | inr other ↦
          let (j, (k, way)) = inner q (omega (arith, other)) in
          elim way [ inl r ↦ (j, r) | inr s ↦ (n, subst (R n) (sym s.0) at_v) ]
    ]

pub onto : (n : ℕ) (R : ℕ → ℕ → Type 0) → Placed R n → (q : ℕ) → q < n → (j : ℕ) × R j q
onto zero R h q below = absurd (omega arith)
onto (suc n) R h q below =
    let (v, inside, at_v) = h.0 n (omega arith) in
    all n R h v inside at_v (onto n (Moved R n v) (moved n R h v inside at_v)) q below
