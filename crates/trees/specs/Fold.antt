-- Recursion on a tree: what comes of a form, from its word, its numbers and what came of its parts.
use Rattle.std.specs.Prelude.{◌≡◌, List, [], ◌∷◌, map, length, ℤ}
use Rattle.trees.specs.declared.Kind.{Kind}
use Rattle.trees.specs.declared.words.Word.{Word}
use Rattle.trees.specs.declared.words.Word.TheVariants.{Bag, Keep, Put, Pool, Col, Lit, Plus, Times, Pick, Less, Equal, Either, Not, Num, Setting, Var, Count, Sum, Add, Sub, Least, Most, Scale, Clip, Let}
use Rattle.trees.specs.Tree.{Tree}
use Rattle.trees.specs.Tree.Tree.{bag, keep, put, pool, col, lit, plus, times, pick, less, equal, either, not, num, setting, var, count, sum, add, sub, least, most, scale, clip, let_in}
use Rattle.trees.specs.Words.{entry}

-- each line names a form's word, its numbers and its parts in order
abbrev pub fold : {X : Type 0} → (Word → List ℤ → List X → X) → {k : Kind} → Tree k → X
fold f (bag k) = f Bag (k ∷ []) []
fold f (keep b c) = f Keep [] (fold f b ∷ fold f c ∷ [])
fold f (put j b t) = f Put (j ∷ []) (fold f b ∷ fold f t ∷ [])
fold f (pool a b) = f Pool [] (fold f a ∷ fold f b ∷ [])
fold f (col j) = f Col (j ∷ []) []
fold f (lit n) = f Lit (n ∷ []) []
fold f (plus a b) = f Plus [] (fold f a ∷ fold f b ∷ [])
fold f (times a b) = f Times [] (fold f a ∷ fold f b ∷ [])
fold f (pick c a b) = f Pick [] (fold f c ∷ fold f a ∷ fold f b ∷ [])
fold f (less a b) = f Less [] (fold f a ∷ fold f b ∷ [])
fold f (equal a b) = f Equal [] (fold f a ∷ fold f b ∷ [])
fold f (either c d) = f Either [] (fold f c ∷ fold f d ∷ [])
fold f (not c) = f Not [] (fold f c ∷ [])
fold f (num n) = f Num (n ∷ []) []
fold f (setting k) = f Setting (k ∷ []) []
fold f (var i) = f Var (i ∷ []) []
fold f (count b) = f Count [] (fold f b ∷ [])
fold f (sum lo hi b t) = f Sum (lo ∷ hi ∷ []) (fold f b ∷ fold f t ∷ [])
fold f (add a b) = f Add [] (fold f a ∷ fold f b ∷ [])
fold f (sub a b) = f Sub [] (fold f a ∷ fold f b ∷ [])
fold f (least a b) = f Least [] (fold f a ∷ fold f b ∷ [])
fold f (most a b) = f Most [] (fold f a ∷ fold f b ∷ [])
fold f (scale n a) = f Scale (n ∷ []) (fold f a ∷ [])
fold f (clip lo hi a) = f Clip (lo ∷ hi ∷ []) (fold f a ∷ [])
fold f (let_in a b) = f Let [] (fold f a ∷ fold f b ∷ [])

abbrev pub word_of : {k : Kind} → Tree k → Word
word_of t = fold (λ w ns ps. w) t

abbrev pub numbers_of : {k : Kind} → Tree k → List ℤ
numbers_of t = fold (λ w ns ps. ns) t

-- the kind that the table gives a form, and those of its parts in order
abbrev pub form_kinds : Word → List ℤ → List (Kind × List Kind) → Kind × List Kind
form_kinds w ns ps = ((entry w).kind, map (λ p. p.0) ps)

abbrev pub part_kinds : {k : Kind} → Tree k → List Kind
part_kinds t = (fold form_kinds t).1

-- Every tree is built by the table: it is of its word's kind, and has as many numbers, and parts of such kinds, as the table says.
abbrev pub BuiltByTable : Type 0
BuiltByTable = (k : Kind) (t : Tree k) → (k ≡ (entry (word_of t)).kind) × (length (numbers_of t) ≡ (entry (word_of t)).numbers) × (part_kinds t ≡ (entry (word_of t)).parts)
