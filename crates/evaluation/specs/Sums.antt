-- What it takes to add up over a leaf and over a bag: the rules type it, and the plant fits.
use Rattle.std.specs.Prelude.{◌≡◌, ℕ, ◌<◌, true, List, [], ◌∷◌, length, ℤ, Ok, ◌≢◌, int_le}
use Rattle.forms.specs.declared.form.Entry.{Entry}
use Rattle.forms.specs.declared.route.Route.{Route}
use Rattle.forms.specs.Calm.{PlaceBelow}
use Rattle.forms.specs.Leaves.{Leaf}
use Rattle.forms.specs.Limits.{number_bound}
use Rattle.forms.specs.Route.{from_source, steps_of}
use Rattle.forms.specs.Table.{BagTree, NumberTree, TermTree, part_at}
use Rattle.forms.specs.Table.Part.{a_bag, a_number, a_term, bad}
use Rattle.forms.specs.Totals.{totalled}
use Rattle.rules.specs.Ranges.{bounded, counts, totals}
use Rattle.rules.specs.Sound.{Fitting, Kept, Plant, inputs_of}
use Rattle.rules.specs.Typing.{BagType, NumberType, bag_typed, number_typed, term_typed}
use Rattle.rules.specs.declared.catalogue.Catalogue.{Catalogue}
use Rattle.sources.specs.declared.shapes.Range.{Range}
use Rattle.trees.specs.Meaning.{Row, at}
use Rattle.evaluation.specs.Addends.{AddsRows}
use Rattle.evaluation.specs.declared.addends.Addend.{Addend}
use Rattle.evaluation.specs.declared.addends.Addend.TheVariants.{One, Clipped}

abbrev pub sources_of : Plant → List (List Row)
sources_of p = (inputs_of p).sources

abbrev pub widths_of : Plant → List ℕ
widths_of p = p.first.width ∷ p.second.width ∷ []

-- the rows of the leaf's source are added to the sum, along the leaf's route
pub record AddsLeaf (es : List Entry) (a : Addend) (route : Route) (p : Plant) (sum : ℤ) (l : Leaf) : Type 0 where
  pub source : from_source route ≡ l.source
  pub place : PlaceBelow 2 l.source
  pub rows : AddsRows es a (steps_of route) (at (widths_of p) l.source 0) (at (sources_of p) l.source []) sum l.way

-- what is added for each row of a bag is typed, and up to as many rows as the bag may have add up within the bound
abbrev pub AddendTyped : List Entry → Addend → BagType → Type 0
AddendTyped es One x = bounded number_bound (counts x.limit) ≡ true
AddendTyped es (Clipped lo hi q) x =
    (n : ℕ) × (t : TermTree) × (y : Range)
    × (part_at es q ≡ a_term t)
    × (term_typed n x.columns t ≡ Ok y)
    × (int_le lo hi ≡ true)
    × (bounded number_bound (totals x.limit lo hi) ≡ true)

-- the bag at a position is typed, and so is what is added for its rows
pub record AddsBag (es : List Entry) (bag : ℕ) (a : Addend) (p : Plant) : Type 0 where
  pub catalogue : Catalogue
  pub line : ℕ
  pub tree : BagTree
  pub type : BagType
  pub is : part_at es bag ≡ a_bag tree
  pub typed : bag_typed line catalogue tree ≡ Ok type
  pub addend : AddendTyped es a type
  pub fits : Fitting catalogue p
  pub kept : Kept catalogue p

-- a tree stands at every position of the table, and each count and sum is typed
pub record SumsTyped (es : List Entry) (p : Plant) : Type 0 where
  pub catalogue : Catalogue
  pub whole : (q : ℕ) → q < length es → part_at es q ≢ bad
  pub typed : (q : ℕ) (u : NumberTree) → part_at es q ≡ a_number u → totalled u ≡ true → (n : ℕ) × (rs : List Range) × (x : NumberType) × (number_typed n catalogue rs u ≡ Ok x)
  pub fits : Fitting catalogue p
  pub kept : Kept catalogue p
