-- The size of a tree: how many forms, how deep, how large its numbers; and the limits of a query.
use Rattle.std.specs.Prelude.{ℕ, suc, ◌≤◌, max, List, ◌++◌, ℤ, sum, unsigned_abs}
use mathlib.Core.List.{foldr}
use Rattle.std.specs.List.{flat_map, AllByRecursion}
use Rattle.trees.specs.declared.Kind.{Kind}
use Rattle.trees.specs.declared.words.Word.{Word}
use Rattle.trees.specs.Fold.{fold}
use Rattle.trees.specs.Tree.{Tree}

-- a form counts once, and so does each form in its parts
abbrev pub form_size : Word → List ℤ → List ℕ → ℕ
form_size w ns ps = suc (sum ps)

abbrev pub size : {k : Kind} → Tree k → ℕ
size t = fold form_size t

-- a form without parts has depth 1
abbrev pub form_depth : Word → List ℤ → List ℕ → ℕ
form_depth w ns ps = suc (foldr max 0 ps)

abbrev pub depth : {k : Kind} → Tree k → ℕ
depth t = fold form_depth t

-- the numbers in a form: its own, and those in its parts
abbrev pub form_numbers : Word → List ℤ → List (List ℤ) → List ℤ
form_numbers w ns ps = ns ++ flat_map (λ ms. ms) ps

abbrev pub numbers : {k : Kind} → Tree k → List ℤ
numbers t = fold form_numbers t

abbrev pub NumbersWithin : ℕ → {k : Kind} → Tree k → Type 0
NumbersWithin bound t = AllByRecursion (λ n. unsigned_abs n ≤ bound) (numbers t)

-- the limits of a query

abbrev pub max_forms : ℕ
max_forms = 64

abbrev pub max_depth : ℕ
max_depth = 16

-- how far from 0 a number in a query may be
abbrev pub literal_bound : ℕ
literal_bound = 1_000_000

pub record WithinLimits {k : Kind} (t : Tree k) : Type 0 where
  pub few : size t ≤ max_forms
  pub shallow : depth t ≤ max_depth
  pub small : NumbersWithin literal_bound t
