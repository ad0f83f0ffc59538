-- Induction on trees, once for all words: a tree is made of a word, numbers and parts as the table has them.
use Rattle.std.proofs.Common.{◌≡◌, ℕ, List, [], ◌∷◌, map, length, get_or, ℤ, pos, refl}
use Rattle.std.specs.List.{AllByRecursion}
use Rattle.trees.specs.declared.Kind.{Kind}
use Rattle.trees.specs.declared.Kind.TheVariants.{Term, Condition, Bag, Number}
use Rattle.trees.specs.declared.words.Word.{Word}
use Rattle.trees.specs.declared.words.Word.TheVariants.{Keep, Put, Pool, Col, Lit, Plus, Times, Pick, Less, Equal, Either, Not, Num, Setting, Var, Count, Sum, Add, Sub, Least, Most, Scale, Clip, Let}
use Rattle.trees.specs.Fold.{fold}
use Rattle.trees.specs.Tree.{Tree, AnyTree, any}
use Rattle.trees.specs.Tree.Tree.{bag, keep, put, pool, col, lit, plus, times, pick, less, equal, either, not, num, setting, var, count, sum, add, sub, least, most, scale, clip, let_in}
use Rattle.trees.specs.Words.{entry}

-- what stands where a list is too short or a part is of another kind
abbrev filler : (k : Kind) → Tree k
filler Term = lit (pos 0)
filler Condition = equal (lit (pos 0)) (lit (pos 0))
filler Bag = bag (pos 0)
filler Number = num (pos 0)

abbrev cast : (k l : Kind) → Tree l → Tree k
cast Term Term t = t
cast Term Condition t = filler Term
cast Term Bag t = filler Term
cast Term Number t = filler Term
cast Condition Term t = filler Condition
cast Condition Condition t = t
cast Condition Bag t = filler Condition
cast Condition Number t = filler Condition
cast Bag Term t = filler Bag
cast Bag Condition t = filler Bag
cast Bag Bag t = t
cast Bag Number t = filler Bag
cast Number Term t = filler Number
cast Number Condition t = filler Number
cast Number Bag t = filler Number
cast Number Number t = t

abbrev number : List ℤ → ℕ → ℤ
number ns i = get_or ns i (pos 0)

abbrev tree : (k : Kind) → List AnyTree → ℕ → Tree k
tree k ps i = let p : AnyTree = get_or ps i (any (filler k)) in cast k p.0 p.1

-- the tree of a form, from its numbers and its parts
abbrev pub make : Word → List ℤ → List AnyTree → AnyTree
make Word.Bag ns ps = any (bag (number ns 0))
make Keep ns ps = any (keep (tree Bag ps 0) (tree Condition ps 1))
make Put ns ps = any (put (number ns 0) (tree Bag ps 0) (tree Term ps 1))
make Pool ns ps = any (pool (tree Bag ps 0) (tree Bag ps 1))
make Col ns ps = any (col (number ns 0))
make Lit ns ps = any (lit (number ns 0))
make Plus ns ps = any (plus (tree Term ps 0) (tree Term ps 1))
make Times ns ps = any (times (tree Term ps 0) (tree Term ps 1))
make Pick ns ps = any (pick (tree Condition ps 0) (tree Term ps 1) (tree Term ps 2))
make Less ns ps = any (less (tree Term ps 0) (tree Term ps 1))
make Equal ns ps = any (equal (tree Term ps 0) (tree Term ps 1))
make Either ns ps = any (either (tree Condition ps 0) (tree Condition ps 1))
make Not ns ps = any (not (tree Condition ps 0))
make Num ns ps = any (num (number ns 0))
make Setting ns ps = any (setting (number ns 0))
make Var ns ps = any (var (number ns 0))
make Count ns ps = any (count (tree Bag ps 0))
make Sum ns ps = any (sum (number ns 0) (number ns 1) (tree Bag ps 0) (tree Term ps 1))
make Add ns ps = any (add (tree Number ps 0) (tree Number ps 1))
make Sub ns ps = any (sub (tree Number ps 0) (tree Number ps 1))
make Least ns ps = any (least (tree Number ps 0) (tree Number ps 1))
make Most ns ps = any (most (tree Number ps 0) (tree Number ps 1))
make Scale ns ps = any (scale (number ns 0) (tree Number ps 0))
make Clip ns ps = any (clip (number ns 0) (number ns 1) (tree Number ps 0))
make Let ns ps = any (let_in (tree Number ps 0) (tree Number ps 1))

-- what a fold makes of each of these trees
abbrev pub folds : {X : Type 0} → (Word → List ℤ → List X → X) → List AnyTree → List X
folds f ps = map (λ p. fold f p.1) ps

-- the numbers and parts are such as the table has for the word, and a fold goes by them
pub record Made (w : Word) (ns : List ℤ) (ps : List AnyTree) : Type 1 where
  pub kind : (make w ns ps).0 ≡ (entry w).kind
  pub numbers : length ns ≡ (entry w).numbers
  pub parts : map (λ p. p.0) ps ≡ (entry w).parts
  pub folded : {X : Type 0} (f : Word → List ℤ → List X → X) → fold f (make w ns ps).1 ≡ f w ns (folds f ps)

pub induct : (P : AnyTree → Type 0) → ((w : Word) (ns : List ℤ) (ps : List AnyTree) → Made w ns ps → AllByRecursion P ps → P (make w ns ps)) → {k : Kind} (t : Tree k) → P (any t)
induct P step (bag k) = step Word.Bag (k ∷ []) [] (record { kind = refl; numbers = refl; parts = refl; folded = λ f. refl }) tt
induct P step (keep b c) = step Keep [] (any b ∷ any c ∷ []) (record { kind = refl; numbers = refl; parts = refl; folded = λ f. refl }) (induct P step b, (induct P step c, tt))
induct P step (put j b t) = step Put (j ∷ []) (any b ∷ any t ∷ []) (record { kind = refl; numbers = refl; parts = refl; folded = λ f. refl }) (induct P step b, (induct P step t, tt))
induct P step (pool a b) = step Pool [] (any a ∷ any b ∷ []) (record { kind = refl; numbers = refl; parts = refl; folded = λ f. refl }) (induct P step a, (induct P step b, tt))
induct P step (col j) = step Col (j ∷ []) [] (record { kind = refl; numbers = refl; parts = refl; folded = λ f. refl }) tt
induct P step (lit n) = step Lit (n ∷ []) [] (record { kind = refl; numbers = refl; parts = refl; folded = λ f. refl }) tt
induct P step (plus a b) = step Plus [] (any a ∷ any b ∷ []) (record { kind = refl; numbers = refl; parts = refl; folded = λ f. refl }) (induct P step a, (induct P step b, tt))
induct P step (times a b) = step Times [] (any a ∷ any b ∷ []) (record { kind = refl; numbers = refl; parts = refl; folded = λ f. refl }) (induct P step a, (induct P step b, tt))
induct P step (pick c a b) = step Pick [] (any c ∷ any a ∷ any b ∷ []) (record { kind = refl; numbers = refl; parts = refl; folded = λ f. refl }) (induct P step c, (induct P step a, (induct P step b, tt)))
induct P step (less a b) = step Less [] (any a ∷ any b ∷ []) (record { kind = refl; numbers = refl; parts = refl; folded = λ f. refl }) (induct P step a, (induct P step b, tt))
induct P step (equal a b) = step Equal [] (any a ∷ any b ∷ []) (record { kind = refl; numbers = refl; parts = refl; folded = λ f. refl }) (induct P step a, (induct P step b, tt))
induct P step (either c d) = step Either [] (any c ∷ any d ∷ []) (record { kind = refl; numbers = refl; parts = refl; folded = λ f. refl }) (induct P step c, (induct P step d, tt))
induct P step (not c) = step Not [] (any c ∷ []) (record { kind = refl; numbers = refl; parts = refl; folded = λ f. refl }) (induct P step c, tt)
induct P step (num n) = step Num (n ∷ []) [] (record { kind = refl; numbers = refl; parts = refl; folded = λ f. refl }) tt
induct P step (setting k) = step Setting (k ∷ []) [] (record { kind = refl; numbers = refl; parts = refl; folded = λ f. refl }) tt
induct P step (var i) = step Var (i ∷ []) [] (record { kind = refl; numbers = refl; parts = refl; folded = λ f. refl }) tt
induct P step (count b) = step Count [] (any b ∷ []) (record { kind = refl; numbers = refl; parts = refl; folded = λ f. refl }) (induct P step b, tt)
induct P step (sum lo hi b t) = step Sum (lo ∷ hi ∷ []) (any b ∷ any t ∷ []) (record { kind = refl; numbers = refl; parts = refl; folded = λ f. refl }) (induct P step b, (induct P step t, tt))
induct P step (add a b) = step Add [] (any a ∷ any b ∷ []) (record { kind = refl; numbers = refl; parts = refl; folded = λ f. refl }) (induct P step a, (induct P step b, tt))
induct P step (sub a b) = step Sub [] (any a ∷ any b ∷ []) (record { kind = refl; numbers = refl; parts = refl; folded = λ f. refl }) (induct P step a, (induct P step b, tt))
induct P step (least a b) = step Least [] (any a ∷ any b ∷ []) (record { kind = refl; numbers = refl; parts = refl; folded = λ f. refl }) (induct P step a, (induct P step b, tt))
induct P step (most a b) = step Most [] (any a ∷ any b ∷ []) (record { kind = refl; numbers = refl; parts = refl; folded = λ f. refl }) (induct P step a, (induct P step b, tt))
induct P step (scale n a) = step Scale (n ∷ []) (any a ∷ []) (record { kind = refl; numbers = refl; parts = refl; folded = λ f. refl }) (induct P step a, tt)
induct P step (clip lo hi a) = step Clip (lo ∷ hi ∷ []) (any a ∷ []) (record { kind = refl; numbers = refl; parts = refl; folded = λ f. refl }) (induct P step a, tt)
induct P step (let_in a b) = step Let [] (any a ∷ any b ∷ []) (record { kind = refl; numbers = refl; parts = refl; folded = λ f. refl }) (induct P step a, (induct P step b, tt))
