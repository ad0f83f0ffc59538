-- Tests and lists over the indices below a number, and what they tell.
use Rattle.std.specs.Prelude.{◌≡◌, ℕ, zero, suc, ◌+◌, ◌<◌, ◌≤◌, Bool, true, false, ◌&&◌, List, map, Decides, slice_index_or, refl}
use Rattle.std.proofs.Common.{add-one, arith}
use Rattle.std.proofs.lemmas.List.FromFn.{length-map-range_with_len, get_or-map-range_with_len}
use Rattle.std.proofs.lemmas.List.{get_or_past}
use Rattle.std.proofs.lemmas.Bool.{both_ways}
use Rattle.std.proofs.lemmas.Bool.Decides.{Decides-below_and}
use Rattle.std.specs.List.{range_with_len, AllByRecursion}

-- p holds of each index below n
abbrev pub each : (ℕ → Bool) → ℕ → Bool
each p zero = true
each p (suc n) = p n && each p n

-- f 0, f 1, .. of which there are n
abbrev pub listed : {X : Type 0} → (ℕ → X) → ℕ → List X
listed f n = map f (range_with_len 0 n)

module _ (p : ℕ → Bool) (n : ℕ) where
  pub each_more : each p (n + 1) ≡ (p n && each p n)
  each_more = rw add-one

  each_decides : Decides (each p n) ((k : ℕ) → k < n → p k ≡ true)
  each_decides = Decides-below_and p (λ k. p k ≡ true) (each p) (λ k. (λ h. h, λ h. h)) refl (λ _. refl) n

  pub each_at : each p n ≡ true → (k : ℕ) → k < n → p k ≡ true
  each_at = each_decides.0

  pub each_from : ((k : ℕ) → k < n → p k ≡ true) → each p n ≡ true
  each_from = each_decides.1

  pub each_not : (k : ℕ) → k < n → p k ≡ false → each p n ≡ false
  each_not k h e = go (each p n) refl
    where
      go : (b : Bool) → each p n ≡ b → each p n ≡ false
      go true t = absurd (both_ways (p k) e (each_at t k h))
      go false t = t

module _ {X : Type 0} (f : ℕ → X) (n k : ℕ) (d : X) where
  pub listed_at : k < n → slice_index_or (listed f n) k d ≡ f k
  listed_at h = get_or-map-range_with_len f 0 n k k d h (omega arith)

  pub listed_past : n ≤ k → slice_index_or (listed f n) k d ≡ d
  listed_past h = get_or_past (listed f n) k d (simp length-map-range_with_len h)

-- what holds of f at each of the n indices from a on holds of each element
pub all_listed : {X : Type 0} (P : X → Type 0) (f : ℕ → X) (a n : ℕ) → ((k : ℕ) → a ≤ k → k < a + n → P (f k)) → AllByRecursion P (map f (range_with_len a n))
all_listed P f a zero h = tt
all_listed P f a (suc n) h = (h a (omega arith) (omega arith), all_listed P f (a + 1) n (λ k low high. h k (omega arith) (omega arith)))
