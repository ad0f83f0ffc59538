-- What holds of each part of a form and its position: the last part first, as an open form has their positions.
use Rattle.std.proofs.Common.{ℕ, ◌<◌, List, [], ◌∷◌, length, arith}
use Rattle.trees.specs.Tree.{AnyTree}

-- what is said of a position, the part there and the parts before it
abbrev pub Saying : Type 1
Saying = ℕ → AnyTree → List AnyTree → Type 0

abbrev pub Each : Saying → List ℕ → List AnyTree → Type 0
Each P qs [] = Unit {0}
Each P [] (t ∷ ts) = ⊥
Each P (q ∷ qs) (t ∷ ts) = P q t ts × Each P qs ts

pub each_weaker : (P Q : Saying) → ((q : ℕ) (t : AnyTree) (ts : List AnyTree) → P q t ts → Q q t ts) → (qs : List ℕ) (ts : List AnyTree) → Each P qs ts → Each Q qs ts
each_weaker P Q f qs [] h = tt
each_weaker P Q f [] (t ∷ ts) h = h
each_weaker P Q f (q ∷ qs) (t ∷ ts) h = (f q t ts h.0, each_weaker P Q f qs ts h.1)

-- one part more, of at most three
pub each_shift : (P : Saying) (p a b c : ℕ) (t : AnyTree) (ts : List AnyTree) → length ts < 3 → P p t ts → Each P (a ∷ b ∷ c ∷ []) ts → Each P (p ∷ a ∷ b ∷ []) (t ∷ ts)
each_shift P p a b c t [] l s h = (s, tt)
each_shift P p a b c t (u ∷ []) l s h = (s, (h.0, tt))
each_shift P p a b c t (u ∷ v ∷ []) l s h = (s, (h.0, (h.1.0, tt)))
each_shift P p a b c t (u ∷ v ∷ w ∷ ts) l s h = absurd (omega arith)
