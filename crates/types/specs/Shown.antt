-- What the rules give bags and numbers, as the code holds it.
use Rattle.std.specs.Prelude.{◌≡◌, ℕ, ◌≤◌, true, drop, pos}
use Rattle.forms.specs.Limits.{number_bound}
use Rattle.rules.specs.Amounts.{all_at_most, at_most}
use Rattle.rules.specs.Ranges.{bounded}
use Rattle.rules.specs.Typing.{BagType, NumberType, sensitivity_bound}
use Rattle.sources.specs.Shapes.{column, columns_of, max_width, range}
use Rattle.sources.specs.declared.shapes.Shape.{Shape}
use Rattle.types.specs.declared.bag.TypedBag.{TypedBag}
use Rattle.types.specs.declared.number.TypedNumber.{TypedNumber}

abbrev pub bag_shown : TypedBag → BagType
bag_shown x = record { limit = x.shape.limit; columns = columns_of x.shape; inputs = x.inputs }

-- behind the width every column is from 0 to 0
abbrev pub ZeroBehind : Shape → Type 0
ZeroBehind s = (j : ℕ) → s.width ≤ j → column s.columns j ≡ range (pos 0) (pos 0)

-- a number in a scope with `first` to spare
abbrev pub number_shown : ℕ → TypedNumber → NumberType
number_shown first x = record { range = x.range; inputs = x.inputs; vars = drop first x.vars.values }

-- a bag that the rules settled, with at most so many rows
pub record BagGood (rows : ℕ) (x : TypedBag) : Type 0 where
  pub narrow : x.shape.width ≤ max_width
  pub few : x.shape.limit ≤ rows
  pub small : at_most sensitivity_bound x.inputs ≡ true

-- a number that they settled
pub record NumberGood (first : ℕ) (x : TypedNumber) : Type 0 where
  pub range : bounded number_bound x.range ≡ true
  pub inputs : at_most sensitivity_bound x.inputs ≡ true
  pub vars : all_at_most sensitivity_bound (drop first x.vars.values) ≡ true
