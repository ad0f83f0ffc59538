-- A row of a source has as many cells as the source is wide, and six cells in code: the others are 0, and nothing sees them.
use Rattle.std.specs.Prelude.{◌≡◌, ℕ, ◌-◌, ◌<◌, ◌≤◌, List, ◌++◌, length, replicate, ℤ, pos, slice_index_or}
use Rattle.trees.specs.Meaning.{Row, value}
use Rattle.forms.specs.Leaves.{CalmWay, Step, WayWithin, arriving, carried}
use Rattle.forms.specs.Limits.{cells}
use Rattle.forms.specs.Table.{TermTree}

abbrev pub padded : Row → Row
padded r = r ++ replicate (cells - length r) (pos 0)

-- g takes the same of a row and of its padded row
abbrev pub Blind : (Row → ℤ) → Type 0
Blind g = (r : Row) → g (padded r) ≡ g r

-- six cells that read as the row does are its padded row; terms read it as the row; it takes a way as the row does, calmly too, where the way puts no cell beyond the row
pub record Unseen : Type 0 where
  pub read : (xs r : Row) → length xs ≡ cells → length r ≤ cells → ((j : ℕ) → j < cells → slice_index_or xs j (pos 0) ≡ slice_index_or r j (pos 0)) → xs ≡ padded r
  pub terms : (t : TermTree) → Blind (value t)
  pub calm : (way : List Step) (r : Row) → WayWithin (length r) way → CalmWay way r → CalmWay way (padded r)
  pub arrives : (g : Row → ℤ) → Blind g → (way : List Step) (r : Row) → WayWithin (length r) way → arriving g (carried way (padded r)) ≡ arriving g (carried way r)
