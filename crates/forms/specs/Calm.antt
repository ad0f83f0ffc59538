-- Where evaluation stays within its bounds: every part's value is within the bound, and every place that a form names is there.
use Rattle.std.specs.Prelude.{◌≡◌, ℕ, ◌<◌, ◌≤◌, List, ◌∷◌, length, ℤ, pos, unsigned_abs}
use Rattle.trees.specs.Meaning.{Inputs, Row, number, value}
use Rattle.trees.specs.Tree.Tree.{col, lit, plus, times, pick, less, equal, either, not, num, setting, var, count, sum, add, sub, least, most, scale, clip, let_in}
use Rattle.forms.specs.declared.form.Entry.{Entry}
use Rattle.forms.specs.Limits.{cells, number_bound, term_bound}
use Rattle.forms.specs.Table.{ConditionTree, NumberTree, TermTree, part_at}
use Rattle.forms.specs.Table.Part.{a_condition, a_term}

-- z is at most n away from 0
abbrev pub Within : ℕ → ℤ → Type 0
Within n z = unsigned_abs z ≤ n

-- z is a place from 0 on, below n
abbrev pub PlaceBelow : ℕ → ℤ → Type 0
PlaceBelow n z = (i : ℕ) × (z ≡ pos i) × (i < n)

abbrev mutual
  -- each part of the term has a value within the bound
  pub CalmTerm : TermTree → Row → Type 0
  CalmTerm (col j) r = PlaceBelow cells j × Within term_bound (value (col j) r)
  CalmTerm (lit n) r = Within term_bound n
  CalmTerm (plus a b) r = Within term_bound (value (plus a b) r) × CalmTerm a r × CalmTerm b r
  CalmTerm (times a b) r = Within term_bound (value (times a b) r) × CalmTerm a r × CalmTerm b r
  CalmTerm (pick c a b) r = CalmCondition c r × CalmTerm a r × CalmTerm b r

  pub CalmCondition : ConditionTree → Row → Type 0
  CalmCondition (less a b) r = CalmTerm a r × CalmTerm b r
  CalmCondition (equal a b) r = CalmTerm a r × CalmTerm b r
  CalmCondition (either c d) r = CalmCondition c r × CalmCondition d r
  CalmCondition (not c) r = CalmCondition c r

-- a calm term stands at the position
pub record CalmTermAt (es : List Entry) (p : ℕ) (r : Row) : Type 0 where
  pub tree : TermTree
  pub is : part_at es p ≡ a_term tree
  pub calm : CalmTerm tree r

-- a calm condition stands at the position
pub record CalmConditionAt (es : List Entry) (p : ℕ) (r : Row) : Type 0 where
  pub tree : ConditionTree
  pub is : part_at es p ≡ a_condition tree
  pub calm : CalmCondition tree r

-- what a query is asked of, by its sources and settings
abbrev pub inputs : List (List Row) → List ℤ → Inputs
inputs sources settings = record { sources = sources; settings = settings }

-- each part of the number has a value within the bound
abbrev pub CalmNumber : NumberTree → Inputs → List ℤ → Type 0
CalmNumber (num n) i vars = Within number_bound n
CalmNumber (setting k) i vars = PlaceBelow 2 k × Within number_bound (number (setting k) i vars)
CalmNumber (var v) i vars = PlaceBelow (length vars) v × Within number_bound (number (var v) i vars)
CalmNumber (count b) i vars = Within number_bound (number (count b) i vars)
CalmNumber (sum lo hi b t) i vars = Within number_bound (number (sum lo hi b t) i vars)
CalmNumber (add a b) i vars = Within number_bound (number (add a b) i vars) × CalmNumber a i vars × CalmNumber b i vars
CalmNumber (sub a b) i vars = Within number_bound (number (sub a b) i vars) × CalmNumber a i vars × CalmNumber b i vars
CalmNumber (least a b) i vars = CalmNumber a i vars × CalmNumber b i vars
CalmNumber (most a b) i vars = CalmNumber a i vars × CalmNumber b i vars
CalmNumber (scale n a) i vars = Within number_bound (number (scale n a) i vars) × CalmNumber a i vars
CalmNumber (clip lo hi a) i vars = CalmNumber a i vars
CalmNumber (let_in a b) i vars = CalmNumber a i vars × CalmNumber b i (number a i vars ∷ vars)
