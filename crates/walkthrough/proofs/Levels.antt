-- The depth of brackets, one byte on and at the end.
use Rattle.std.proofs.Common.{◌≡◌, ℕ, ◌+◌, ◌-◌, ◌<◌, ◌≤◌, max, cond, eqb, List, [], ◌∷◌, length, get_or, drop, ap, arith}
use Rattle.std.proofs.lemmas.List.{drop_all, drop_more}
use Rattle.std.proofs.lemmas.Bool.{cond_both}
use Rattle.walkthrough.specs.Nesting.{nesting, opened}

above : (n : ℕ) (cs : List ℕ) → n ≤ nesting n cs
above n [] = omega arith
above n (c ∷ cs) = omega arith

pub level_rises : (n c : ℕ) → opened n c ≤ n + 1
level_rises n c = cond_both (eqb c 40) (n + 1) (cond (eqb c 41) (n - 1) n) (λ m. m ≤ n + 1) (λ _. omega arith) (λ _. cond_both (eqb c 41) (n - 1) n (λ m. m ≤ n + 1) (λ _. omega arith) (λ _. omega arith))

-- i bytes are read, n brackets are open, d is the deepest so far, and v the depth of the whole
module _ (text : List ℕ) (i n d v : ℕ) (e : max d (nesting n (drop i text)) ≡ v) where
  pub one_on : i < length text → n ≤ d → (m f : ℕ) → m ≡ opened n (get_or text i 0) → f ≡ max d m → max f (nesting m (drop (i + 1) text)) ≡ v
  one_on h low m f same deep =
      let more = ap (nesting n) (drop_more text i 0 h) in
      let reach = above m (drop (i + 1) text) in
      let step = ap (λ k. nesting k (drop (i + 1) text)) same in
      omega (arith, e, more, reach, step, deep)

  pub all_read : length text ≤ i → n ≤ d → d ≡ v
  all_read h low = let none = ap (nesting n) (drop_all i text h) in omega (arith, e, none)
