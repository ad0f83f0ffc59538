-- What a source means, a shape and a list of rows, and the law that every source keeps.
use Rattle.std.specs.Prelude.{◌≡◌, ℕ, ◌-◌, ◌≤◌, true, List, [], ◌∷◌, ◌++◌, length, replicate, ℤ, pos, slice_index_or}
use Rattle.std.specs.List.{AllByRecursion}
use Rattle.sources.specs.Shapes.{range, sound, within, column, max_width, max_rows}
use Rattle.sources.specs.declared.shapes.Range.{Range}

-- a row is its cells, column 0 first
abbrev pub Row : Type 0
Row = List ℤ

-- a shape (the number of columns, the most rows, and each column's range) and the rows
pub record Meaning : Type 0 where
  pub width : ℕ
  pub limit : ℕ
  pub columns : List Range
  pub rows : List Row

abbrev pub low_of : Meaning → ℕ → ℤ
low_of m j = (column m.columns j).low

abbrev pub high_of : Meaning → ℕ → ℤ
high_of m j = (column m.columns j).high

abbrev pub count_of : Meaning → ℕ
count_of m = length m.rows

-- the cell at row i and column j, 0 where either is missing
abbrev pub cell_of : Meaning → ℕ → ℕ → ℤ
cell_of m i j = slice_index_or (slice_index_or m.rows i []) j (pos 0)

-- a row in code, which has a cell for each column that a source may have: 0 in those that the row lacks
abbrev pub padded : Row → Row
padded r = r ++ replicate (max_width - length r) (pos 0)

-- as many cells as columns, each within its column's range
abbrev pub Fits : List Range → Row → Type 0
Fits [] [] = Unit {0}
Fits [] (z ∷ zs) = ⊥
Fits (c ∷ cs) [] = ⊥
Fits (c ∷ cs) (z ∷ zs) = (within c z ≡ true) × Fits cs zs

-- the law of a source
pub record Lawful (m : Meaning) : Type 0 where
  pub some_width : 1 ≤ m.width
  pub few_columns : m.width ≤ max_width
  pub few_rows : m.limit ≤ max_rows
  pub all_columns : length m.columns ≡ m.width
  pub columns_sound : AllByRecursion (λ c. sound c ≡ true) m.columns
  pub in_limit : count_of m ≤ m.limit
  pub rows_fit : AllByRecursion (Fits m.columns) m.rows

-- the source that is not opened yet: one column from 0 to 0, and no rows
abbrev pub unopened : Meaning
unopened = record { width = 1; limit = 0; columns = range (pos 0) (pos 0) ∷ []; rows = [] }
