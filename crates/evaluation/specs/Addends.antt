-- What a count or a sum adds for the rows of its bag.
use Rattle.std.specs.Prelude.{◌≡◌, ℕ, ◌≤◌, List, length, take, ℤ, pos, ◌+ℤ◌, Some, None, Option}
use Rattle.std.specs.List.{AllByRecursion}
use Rattle.forms.specs.declared.form.Entry.{Entry}
use Rattle.forms.specs.declared.form.Form.{Form}
use Rattle.forms.specs.declared.form.Form.TheVariants as form
use Rattle.forms.specs.Calm.{CalmTerm, CalmTermAt, Within}
use Rattle.forms.specs.Leaves.{CalmFrom, CalmWay, Leads, Step, WayWithin, arriving, carried}
use Rattle.forms.specs.Limits.{number_bound}
use Rattle.forms.specs.Table.{Part, TermTree, part_at}
use Rattle.forms.specs.Table.Part.{bad, a_term, a_condition, a_bag, a_number}
use Rattle.trees.specs.Meaning.{Row, clipped, total, value}
use Rattle.evaluation.specs.declared.addends.Addend.{Addend}
use Rattle.evaluation.specs.declared.addends.Addend.TheVariants.{One, Clipped}
use Rattle.evaluation.specs.declared.addends.Tally.{Tally}

-- a form that is a count or a sum: its bag, and what it adds for each row
abbrev pub tally_of : Form → Option Tally
tally_of (form.Bag k) = None
tally_of (form.Keep b c) = None
tally_of (form.Put j b t) = None
tally_of (form.Pool a b) = None
tally_of (form.Col j) = None
tally_of (form.Lit n) = None
tally_of (form.Plus a b) = None
tally_of (form.Times a b) = None
tally_of (form.Pick c a b) = None
tally_of (form.Less a b) = None
tally_of (form.Equal a b) = None
tally_of (form.Either a b) = None
tally_of (form.Not c) = None
tally_of (form.Num n) = None
tally_of (form.Setting k) = None
tally_of (form.Var i) = None
tally_of (form.Count b) = Some (record { bag = b; addend = One })
tally_of (form.Sum lo hi b t) = Some (record { bag = b; addend = Clipped lo hi t })
tally_of (form.Add a b) = None
tally_of (form.Sub a b) = None
tally_of (form.Least a b) = None
tally_of (form.Most a b) = None
tally_of (form.Scale n a) = None
tally_of (form.Clip lo hi a) = None
tally_of (form.Let a b) = None

-- the value on a row of what stands at a position, if it is a term
abbrev pub term_value : Part → Row → ℤ
term_value bad r = pos 0
term_value (a_term t) r = value t r
term_value (a_condition c) r = pos 0
term_value (a_bag b) r = pos 0
term_value (a_number n) r = pos 0

-- what is added for a row
abbrev pub added : List Entry → Addend → Row → ℤ
added es One r = pos 1
added es (Clipped lo hi p) r = clipped lo hi (term_value (part_at es p) r)

abbrev pub CalmAddend : List Entry → Addend → Row → Type 0
CalmAddend es One r = Unit {0}
CalmAddend es (Clipped lo hi p) r = CalmTermAt es p r

-- the same of every row that arrives, for one term
abbrev pub CalmAddends : List Entry → Addend → List Step → List Row → Type 0
CalmAddends es One way rows = Unit {0}
CalmAddends es (Clipped lo hi p) way rows = (t : TermTree) × (part_at es p ≡ a_term t) × AllByRecursion (λ r. CalmFrom (CalmTerm t) (carried way r)) rows

-- what is added for a row of a leaf's source, from which it goes a way to the top
abbrev pub from_leaf : List Entry → Addend → List Step → Row → ℤ
from_leaf es a way r = arriving (added es a) (carried way r)

-- the row goes its way calmly, and what it adds keeps the total within its bound
pub record AddsRow (es : List Entry) (a : Addend) (steps : List ℕ) (row : Row) (sum : ℤ) (way : List Step) : Type 0 where
  pub leads : Leads es steps way
  pub calm : CalmWay way row
  pub addend : CalmFrom (CalmAddend es a) (carried way row)
  pub bounded : Within number_bound (sum +ℤ from_leaf es a way row)

-- the same of all rows of a source, added one after the other
pub record AddsRows (es : List Entry) (a : Addend) (steps : List ℕ) (width : ℕ) (rows : List Row) (sum : ℤ) (way : List Step) : Type 0 where
  pub leads : Leads es steps way
  pub places : WayWithin width way
  pub calm : AllByRecursion (CalmWay way) rows
  pub addends : CalmAddends es a way rows
  pub bounded : (i : ℕ) → i ≤ length rows → Within number_bound (sum +ℤ total (from_leaf es a way) (take i rows))
