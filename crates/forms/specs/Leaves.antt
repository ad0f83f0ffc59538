-- A bag as its leaves: every row of a bag is a row of a leaf's source, carried up the way from the leaf to the top.
use Rattle.std.specs.Prelude.{◌≡◌, ℕ, ◌+◌, ◌^◌, ◌<◌, ◌≤◌, cond, List, [], ◌∷◌, ◌++◌, map, length, ℤ, pos, ◌+ℤ◌, Some, None, Ok, Err, Option, Result, slice_index_or}
use Rattle.std.specs.List.{AllByRecursion}
use Rattle.trees.specs.Meaning.{Row, at, holds, rows, total, value, with_cell}
use Rattle.trees.specs.Tree.Tree.{bag, keep, put, pool}
use Rattle.forms.specs.declared.form.Entry.{Entry}
use Rattle.forms.specs.declared.route.Route.{Route}
use Rattle.forms.specs.Calm.{CalmCondition, CalmTerm, PlaceBelow}
use Rattle.forms.specs.Limits.{cells}
use Rattle.forms.specs.Route.{from_source, steps_of}
use Rattle.forms.specs.Table.{BagTree, ConditionTree, TermTree, part_at}
use Rattle.forms.specs.Table.Part.{a_bag}

-- what a row meets on its way up
pub data Step : Type 0 where
  keeps : ConditionTree → Step
  puts : ℤ → TermTree → Step

-- a row after one step, or nothing where it was dropped
abbrev pub stepped : Step → Row → Option Row
stepped (keeps c) r = cond (holds c r) (Some r) None
stepped (puts j t) r = Some (with_cell r j (value t r))

abbrev pub and_then : Option Row → (Row → Option Row) → Option Row
and_then None f = None
and_then (Some r) f = f r

-- a row at the end of the way, or nothing where a step dropped it
abbrev pub carried : List Step → Row → Option Row
carried [] r = Some r
carried (s ∷ way) r = and_then (stepped s r) (carried way)

-- a leaf: its source, and the way from it to the top
pub record Leaf : Type 0 where
  pub source : ℤ
  pub way : List Step

-- the leaf with one step more at the end of its way
abbrev pub through : Step → Leaf → Leaf
through s l = record { source = l.source; way = l.way ++ s ∷ [] }

-- the leaves of a bag in order
abbrev pub leaves : BagTree → List Leaf
leaves (bag k) = record { source = k; way = [] } ∷ []
leaves (keep b c) = map (through (keeps c)) (leaves b)
leaves (put j b t) = map (through (puts j t)) (leaves b)
leaves (pool a b) = leaves a ++ leaves b

-- what g takes of a row that arrives, 0 where none does
abbrev pub arriving : (Row → ℤ) → Option Row → ℤ
arriving g None = pos 0
arriving g (Some r) = g r

-- the sum of g over what arrives from the rows of the leaf's source
abbrev pub leaf_total : (Row → ℤ) → List (List Row) → Leaf → ℤ
leaf_total g sources l = total (λ r. arriving g (carried l.way r)) (at sources l.source [])

abbrev pub leaves_total : (Row → ℤ) → List (List Row) → List Leaf → ℤ
leaves_total g sources [] = pos 0
leaves_total g sources (l ∷ ls) = leaf_total g sources l +ℤ leaves_total g sources ls

-- what arrives from the leaves is what the bag holds, for anything that is taken of a row
abbrev pub AllArrive : BagTree → Type 0
AllArrive b = (g : Row → ℤ) (sources : List (List Row)) → leaves_total g sources (leaves b) ≡ total g (rows b sources)

-- and counting what arrives counts the bag
abbrev pub AllCounted : BagTree → Type 0
AllCounted b = (sources : List (List Row)) → leaves_total (λ _. pos 1) sources (leaves b) ≡ pos (length (rows b sources))

-- the keep or put form at a position
abbrev pub StepAt : List Entry → ℕ → Step → Type 0
StepAt es p (keeps c) = (b : BagTree) × (part_at es p ≡ a_bag (keep b c))
StepAt es p (puts j t) = (b : BagTree) × (part_at es p ≡ a_bag (put j b t))

-- the forms at the positions are the steps of the way
abbrev pub Leads : List Entry → List ℕ → List Step → Type 0
Leads es [] [] = Unit {0}
Leads es [] (s ∷ way) = ⊥
Leads es (p ∷ ps) [] = ⊥
Leads es (p ∷ ps) (s ∷ way) = StepAt es p s × Leads es ps way

-- the route is that of the leaf
pub record Follows (es : List Entry) (r : Route) (l : Leaf) : Type 0 where
  pub source : from_source r ≡ l.source
  pub leads : Leads es (steps_of r) l.way

abbrev pub no_leaf : Leaf
no_leaf = record { source = pos 0; way = [] }

-- what a search for leaf n among the leaves of the bag at p finds: its route, or how many leaves it wants beyond them
abbrev pub Sought : List Entry → ℕ → List Leaf → ℕ → Result Route ℕ → Type 0
Sought es p ls n (Ok r) = (n < length ls) × Follows es r (slice_index_or ls n no_leaf) × (length (steps_of r) ≤ p) × (n < 2 ^ p)
Sought es p ls n (Err m) = (length ls + m ≡ n) × (length ls ≤ 2 ^ p)

-- leaf n: its route, or that there is none. Where there is one n stays small, so that a caller can count leaves up
abbrev pub Found : List Entry → ℕ → List Leaf → ℕ → Option Route → Type 0
Found es p ls n (Some r) = (n < length ls) × Follows es r (slice_index_or ls n no_leaf) × (n < 2 ^ p)
Found es p ls n None = length ls ≤ n

-- evaluation stays within its bounds on the whole way of the row
abbrev pub CalmStep : Step → Row → Type 0
CalmStep (keeps c) r = CalmCondition c r
CalmStep (puts j t) r = PlaceBelow cells j × CalmTerm t r

abbrev pub CalmFrom : (Row → Type 0) → Option Row → Type 0
CalmFrom P None = Unit {0}
CalmFrom P (Some r) = P r

abbrev pub CalmWay : List Step → Row → Type 0
CalmWay [] r = Unit {0}
CalmWay (s ∷ way) r = CalmStep s r × CalmFrom (CalmWay way) (stepped s r)

-- the same of every row of the bag's parts
abbrev pub CalmBag : BagTree → List (List Row) → Type 0
CalmBag (bag k) sources = Unit {0}
CalmBag (keep b c) sources = CalmBag b sources × AllByRecursion (CalmCondition c) (rows b sources)
CalmBag (put j b t) sources = CalmBag b sources × PlaceBelow cells j × AllByRecursion (CalmTerm t) (rows b sources)
CalmBag (pool a b) sources = CalmBag a sources × CalmBag b sources

-- each cell that is put lies within the width of the rows
abbrev pub WayWithin : ℕ → List Step → Type 0
WayWithin width [] = Unit {0}
WayWithin width (keeps c ∷ way) = WayWithin width way
WayWithin width (puts j t ∷ way) = PlaceBelow width j × WayWithin width way

abbrev pub BagWithin : ℕ → BagTree → Type 0
BagWithin width (bag k) = Unit {0}
BagWithin width (keep b c) = BagWithin width b
BagWithin width (put j b t) = PlaceBelow width j × BagWithin width b
BagWithin width (pool a b) = BagWithin width a × BagWithin width b

-- what is so of a bag is so of its leaves
pub record Spread (b : BagTree) : Type 0 where
  pub arrive : AllArrive b
  pub counted : AllCounted b
  pub calm : (sources : List (List Row)) → CalmBag b sources → AllByRecursion (λ l. AllByRecursion (CalmWay l.way) (at sources l.source [])) (leaves b)
  pub within : (width : ℕ) → BagWithin width b → AllByRecursion (λ l. WayWithin width l.way) (leaves b)
