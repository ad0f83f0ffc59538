-- A form whose parts are of the kinds that its word wants: its tree, and how the table builds it.
use Rattle.std.proofs.Common.{◌≡◌, ℕ, List, [], ◌∷◌, map, reverse, take, ℤ, sym, refl, ap, ◌∙◌, subst, ap₂}
use mathlib.Core.List.{head-eq_of_cons-eq, tail-eq_of_cons-eq}
use Rattle.trees.proofs.Induction.{make, Made}
use Rattle.trees.specs.declared.Kind.{Kind}
use Rattle.trees.specs.declared.Kind.TheVariants.{Term, Condition, Bag, Number}
use Rattle.trees.specs.declared.words.Word.{Word}
use Rattle.trees.specs.declared.words.Word.TheVariants.{Keep, Put, Pool, Col, Lit, Plus, Times, Pick, Less, Equal, Either, Not, Num, Setting, Var, Count, Sum, Add, Sub, Least, Most, Scale, Clip, Let}
use Rattle.trees.specs.Tree.{Tree, AnyTree, any}
use Rattle.trees.specs.Words.{entry}
use Rattle.forms.specs.Table.{Part, nth, build}
use Rattle.forms.specs.Table.Part.{a_term, a_condition, a_bag, a_number}
use Rattle.reading.proofs.Parts.{Each}
use Rattle.reading.specs.Frame.{form_with}

-- a tree as the table has it
abbrev part : (k : Kind) → Tree k → Part
part Term t = a_term t
part Condition t = a_condition t
part Bag t = a_bag t
part Number t = a_number t

abbrev pub part_of : AnyTree → Part
part_of p = part p.0 p.1

abbrev pub kind_of : AnyTree → Kind
kind_of p = p.0

-- trees of given kinds
abbrev pub Trees : List Kind → Type 0
Trees [] = Unit {0}
Trees (k ∷ ks) = Tree k × Trees ks

abbrev pub anys : (ks : List Kind) → Trees ks → List AnyTree
anys [] ts = []
anys (k ∷ ks) ts = any ts.0 ∷ anys ks ts.1

pub of_kind : (p : AnyTree) (k : Kind) → kind_of p ≡ k → (t : Tree k) × (p ≡ any t)
of_kind p k e = subst (λ (j : Kind). (t : Tree j) × (p ≡ any t)) e (p.1, refl)

pub typed : (ks : List Kind) (ps : List AnyTree) → map kind_of ps ≡ ks → (ts : Trees ks) × (ps ≡ anys ks ts)
typed [] [] e = (tt, refl)
typed [] (p ∷ ps) e = absurd (cc)
typed (k ∷ ks) [] e = absurd (cc)
typed (k ∷ ks) (p ∷ ps) e =
    let first = of_kind p k (head-eq_of_cons-eq e) in
    let others = typed ks ps (tail-eq_of_cons-eq e) in
    ((first.0, others.0), ap₂ (λ (q : AnyTree) (qs : List AnyTree). q ∷ qs) first.1 others.1)

-- these positions hold these trees
abbrev pub Placed : List Part → List ℕ → List AnyTree → Type 0
Placed ps = Each (λ q t before. nth ps q ≡ part_of t)

-- as many of two numbers as the word has
abbrev pub own_numbers : Word → ℤ → ℤ → List ℤ
own_numbers w x y = take (entry w).numbers (x ∷ y ∷ [])

made_of : (w : Word) (x y : ℤ) (ts : Trees (entry w).parts) → Made w (own_numbers w x y) (anys (entry w).parts ts)
made_of Word.Bag x y ts = record { kind = refl; numbers = refl; parts = refl; folded = λ f. refl }
made_of Keep x y ts = record { kind = refl; numbers = refl; parts = refl; folded = λ f. refl }
made_of Put x y ts = record { kind = refl; numbers = refl; parts = refl; folded = λ f. refl }
made_of Pool x y ts = record { kind = refl; numbers = refl; parts = refl; folded = λ f. refl }
made_of Col x y ts = record { kind = refl; numbers = refl; parts = refl; folded = λ f. refl }
made_of Lit x y ts = record { kind = refl; numbers = refl; parts = refl; folded = λ f. refl }
made_of Plus x y ts = record { kind = refl; numbers = refl; parts = refl; folded = λ f. refl }
made_of Times x y ts = record { kind = refl; numbers = refl; parts = refl; folded = λ f. refl }
made_of Pick x y ts = record { kind = refl; numbers = refl; parts = refl; folded = λ f. refl }
made_of Less x y ts = record { kind = refl; numbers = refl; parts = refl; folded = λ f. refl }
made_of Equal x y ts = record { kind = refl; numbers = refl; parts = refl; folded = λ f. refl }
made_of Either x y ts = record { kind = refl; numbers = refl; parts = refl; folded = λ f. refl }
made_of Not x y ts = record { kind = refl; numbers = refl; parts = refl; folded = λ f. refl }
made_of Num x y ts = record { kind = refl; numbers = refl; parts = refl; folded = λ f. refl }
made_of Setting x y ts = record { kind = refl; numbers = refl; parts = refl; folded = λ f. refl }
made_of Var x y ts = record { kind = refl; numbers = refl; parts = refl; folded = λ f. refl }
made_of Count x y ts = record { kind = refl; numbers = refl; parts = refl; folded = λ f. refl }
made_of Sum x y ts = record { kind = refl; numbers = refl; parts = refl; folded = λ f. refl }
made_of Add x y ts = record { kind = refl; numbers = refl; parts = refl; folded = λ f. refl }
made_of Sub x y ts = record { kind = refl; numbers = refl; parts = refl; folded = λ f. refl }
made_of Least x y ts = record { kind = refl; numbers = refl; parts = refl; folded = λ f. refl }
made_of Most x y ts = record { kind = refl; numbers = refl; parts = refl; folded = λ f. refl }
made_of Scale x y ts = record { kind = refl; numbers = refl; parts = refl; folded = λ f. refl }
made_of Clip x y ts = record { kind = refl; numbers = refl; parts = refl; folded = λ f. refl }
made_of Let x y ts = record { kind = refl; numbers = refl; parts = refl; folded = λ f. refl }

built_of : (w : Word) (x y : ℤ) (ps : List Part) (a b c : ℕ) (ts : Trees (entry w).parts) → Placed ps (c ∷ b ∷ a ∷ []) (reverse (anys (entry w).parts ts)) → build ps (form_with w x y a b c) ≡ part_of (make w (own_numbers w x y) (anys (entry w).parts ts))
built_of Word.Bag x y ps a b c ts h = refl
built_of Keep x y ps a b c ts h = rw (h.1.0, h.0)
built_of Put x y ps a b c ts h = rw (h.1.0, h.0)
built_of Pool x y ps a b c ts h = rw (h.1.0, h.0)
built_of Col x y ps a b c ts h = refl
built_of Lit x y ps a b c ts h = refl
built_of Plus x y ps a b c ts h = rw (h.1.0, h.0)
built_of Times x y ps a b c ts h = rw (h.1.0, h.0)
built_of Pick x y ps a b c ts h = rw (h.1.1.0, h.1.0, h.0)
built_of Less x y ps a b c ts h = rw (h.1.0, h.0)
built_of Equal x y ps a b c ts h = rw (h.1.0, h.0)
built_of Either x y ps a b c ts h = rw (h.1.0, h.0)
built_of Not x y ps a b c ts h = rw h.0
built_of Num x y ps a b c ts h = refl
built_of Setting x y ps a b c ts h = refl
built_of Var x y ps a b c ts h = refl
built_of Count x y ps a b c ts h = rw h.0
built_of Sum x y ps a b c ts h = rw (h.1.0, h.0)
built_of Add x y ps a b c ts h = rw (h.1.0, h.0)
built_of Sub x y ps a b c ts h = rw (h.1.0, h.0)
built_of Least x y ps a b c ts h = rw (h.1.0, h.0)
built_of Most x y ps a b c ts h = rw (h.1.0, h.0)
built_of Scale x y ps a b c ts h = rw h.0
built_of Clip x y ps a b c ts h = rw h.0
built_of Let x y ps a b c ts h = rw (h.1.0, h.0)

module _ (w : Word) (x y : ℤ) (ds : List AnyTree) (kinds : map kind_of ds ≡ (entry w).parts) where
  pub made : Made w (own_numbers w x y) ds
  made = let t = typed (entry w).parts ds kinds in subst (Made w (own_numbers w x y)) (sym t.1) (made_of w x y t.0)

  pub built : (ps : List Part) (a b c : ℕ) → Placed ps (c ∷ b ∷ a ∷ []) (reverse ds) → build ps (form_with w x y a b c) ≡ part_of (make w (own_numbers w x y) ds)
  built ps a b c h =
      let t = typed (entry w).parts ds kinds in
      built_of w x y ps a b c t.0 (subst (λ (es : List AnyTree). Placed ps (c ∷ b ∷ a ∷ []) (reverse es)) t.1 h) ∙ ap (λ (es : List AnyTree). part_of (make w (own_numbers w x y) es)) (sym t.1)
