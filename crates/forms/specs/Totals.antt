-- The totals of a table: the value of each count and sum, at the position of its form.
use Rattle.std.specs.Prelude.{◌≡◌, ℕ, ◌<◌, Bool, true, false, List, [], length, ℤ, pos, slice_index_or}
use Rattle.trees.specs.Meaning.{Row, number}
use Rattle.trees.specs.Tree.Tree.{num, setting, var, count, sum, add, sub, least, most, scale, clip, let_in}
use Rattle.forms.specs.declared.form.Entry.{Entry}
use Rattle.forms.specs.Calm.{CalmNumber, inputs}
use Rattle.forms.specs.Table.{NumberTree, part_at}
use Rattle.forms.specs.Table.Part.{a_number}

-- whether a number is read off a bag, and so is the same in every scope
abbrev pub totalled : NumberTree → Bool
totalled (num n) = false
totalled (setting k) = false
totalled (var v) = false
totalled (count b) = true
totalled (sum lo hi b t) = true
totalled (add a b) = false
totalled (sub a b) = false
totalled (least a b) = false
totalled (most a b) = false
totalled (scale n a) = false
totalled (clip lo hi a) = false
totalled (let_in a b) = false

-- each count and sum below position p has its value among the totals
abbrev pub RightBelow : List Entry → List ℤ → List (List Row) → ℕ → Type 0
RightBelow es totals sources p = (q : ℕ) (n : NumberTree) → q < p → part_at es q ≡ a_number n → totalled n ≡ true → slice_index_or totals q (pos 0) ≡ number n (inputs sources []) []

-- n stands at position p and can be evaluated there: it is calm, and the totals of the table are right
pub record Ready (es : List Entry) (p : ℕ) (totals settings vars : List ℤ) (sources : List (List Row)) (n : NumberTree) : Type 0 where
  pub is : part_at es p ≡ a_number n
  pub calm : CalmNumber n (inputs sources settings) vars
  pub right : RightBelow es totals sources (length es)
