-- What a query means: a term's value and a condition's truth on a row, a bag's rows, a number's value.
use Rattle.std.specs.Prelude.{Bool, cond, not as negated, ◌&&◌, ◌||◌, List, [], ◌∷◌, ◌++◌, map, length, ℤ, pos, negsuc, ◌+ℤ◌, ◌-ℤ◌, ◌*ℤ◌, filter, int_le, int_lt, slice_index_or, slice_set}
use Rattle.std.specs.Int.{int_max, int_min}
use Rattle.trees.specs.declared.Kind.TheVariants.{Term, Condition, Bag, Number}
use Rattle.trees.specs.Tree.{Tree}
use Rattle.trees.specs.Tree.Tree.{bag, keep, put, pool, col, lit, plus, times, pick, less, equal, either, not, num, setting, var, count, sum, add, sub, least, most, scale, clip, let_in}

-- a row is its cells, column 0 first
abbrev pub Row : Type 0
Row = List ℤ

-- what stands at place z of a list, counted from 0, and d where nothing stands
abbrev pub at : {X : Type 0} → List X → ℤ → X → X
at xs (pos i) d = slice_index_or xs i d
at xs (negsuc i) d = d

-- a row with v at place z; a row without that place stays
abbrev pub with_cell : Row → ℤ → ℤ → Row
with_cell r (pos j) v = slice_set r j v
with_cell r (negsuc j) v = r

-- both are at least and at most each other
abbrev pub eq_z : ℤ → ℤ → Bool
eq_z x y = int_le x y && int_le y x

-- x cut to lo at least and, before that, to hi at most
abbrev pub clipped : ℤ → ℤ → ℤ → ℤ
clipped lo hi x = int_max lo (int_min hi x)

abbrev mutual
  pub value : Tree Term → Row → ℤ
  value (col j) r = at r j (pos 0)
  value (lit n) r = n
  value (plus a b) r = value a r +ℤ value b r
  value (times a b) r = value a r *ℤ value b r
  value (pick c a b) r = cond (holds c r) (value a r) (value b r)

  pub holds : Tree Condition → Row → Bool
  holds (less a b) r = int_lt (value a r) (value b r)
  holds (equal a b) r = eq_z (value a r) (value b r)
  holds (either c d) r = holds c r || holds d r
  holds (not c) r = negated (holds c r)

-- the rows of both sources, source 0 first
abbrev pub rows : Tree Bag → List (List Row) → List Row
rows (bag k) sources = at sources k []
rows (keep b c) sources = filter (holds c) (rows b sources)
rows (put j b t) sources = map (λ r. with_cell r j (value t r)) (rows b sources)
rows (pool a b) sources = rows a sources ++ rows b sources

-- what a query is asked of: the rows of source 0 and source 1, and the two settings
pub record Inputs : Type 0 where
  pub sources : List (List Row)
  pub settings : List ℤ

-- the sum of f over the rows
abbrev pub total : (Row → ℤ) → List Row → ℤ
total f [] = pos 0
total f (r ∷ rs) = f r +ℤ total f rs

-- vars are the values of the variables in scope, the innermost first
abbrev pub number : Tree Number → Inputs → List ℤ → ℤ
number (num n) i vars = n
number (setting k) i vars = at i.settings k (pos 0)
number (var v) i vars = at vars v (pos 0)
number (count b) i vars = pos (length (rows b i.sources))
number (sum lo hi b t) i vars = total (λ r. clipped lo hi (value t r)) (rows b i.sources)
number (add a b) i vars = number a i vars +ℤ number b i vars
number (sub a b) i vars = number a i vars -ℤ number b i vars
number (least a b) i vars = int_min (number a i vars) (number b i vars)
number (most a b) i vars = int_max (number a i vars) (number b i vars)
number (scale n a) i vars = n *ℤ number a i vars
number (clip lo hi a) i vars = clipped lo hi (number a i vars)
number (let_in a b) i vars = number b i (number a i vars ∷ vars)
