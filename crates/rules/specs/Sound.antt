-- What the rules promise: on a plant that fits the catalogue every value lies within its range, and evaluation stays within its bounds.
use Rattle.std.specs.Prelude.{◌≡◌, ℕ, ◌≤◌, true, List, [], ◌∷◌, length, ℤ, Ok}
use Rattle.sources.specs.Shapes.{columns_of, within}
use Rattle.sources.specs.Source.{Fits, Lawful, Meaning}
use Rattle.sources.specs.declared.shapes.Range.{Range}
use Rattle.sources.specs.declared.shapes.Shape.{Shape}
use Rattle.std.specs.List.{AllByRecursion}
use Rattle.forms.specs.Calm.{CalmNumber, CalmTerm}
use Rattle.forms.specs.Leaves.{BagWithin, CalmBag}
use Rattle.trees.specs.declared.Kind.TheVariants.{Bag, Number, Term}
use Rattle.trees.specs.Meaning.{Inputs, Row, number, rows, value}
use Rattle.trees.specs.Tree.{Tree}
use Rattle.rules.specs.Catalogue.{setting_range, source_shape}
use Rattle.rules.specs.Typing.{BagType, NumberType, bag_typed, number_typed, term_typed}
use Rattle.rules.specs.declared.catalogue.Catalogue.{Catalogue}

-- two sources by their meanings, and two settings
pub record Plant : Type 0 where
  pub first : Meaning
  pub second : Meaning
  pub setting_0 : ℤ
  pub setting_1 : ℤ

abbrev pub inputs_of : Plant → Inputs
inputs_of p = record { sources = p.first.rows ∷ p.second.rows ∷ []; settings = p.setting_0 ∷ p.setting_1 ∷ [] }

-- a source of this shape
pub record ShapedAs (s : Shape) (m : Meaning) : Type 0 where
  pub width : m.width ≡ s.width
  pub limit : m.limit ≡ s.limit
  pub columns : m.columns ≡ columns_of s

-- the sources are lawful and of the catalogue's shapes, and the settings lie within their ranges
pub record Fitting (c : Catalogue) (p : Plant) : Type 0 where
  pub first_lawful : Lawful p.first
  pub second_lawful : Lawful p.second
  pub first_shape : ShapedAs (source_shape c 0) p.first
  pub second_shape : ShapedAs (source_shape c 1) p.second
  pub first_setting : within (setting_range c 0) p.setting_0 ≡ true
  pub second_setting : within (setting_range c 1) p.setting_1 ≡ true

-- the rows of a bag fit its columns and are no more than its limit, and carrying rows to its top stays within bounds
pub record BagKept (i : Inputs) (b : Tree Bag) (x : BagType) : Type 0 where
  pub some_rows : AllByRecursion (Fits x.columns) (rows b i.sources)
  pub few_rows : length (rows b i.sources) ≤ x.limit
  pub few_columns : length x.columns ≤ 6
  pub calm : CalmBag b i.sources
  pub places : BagWithin (length x.columns) b

-- a term's value on every row that fits the columns
pub record TermKept (cs : List Range) (t : Tree Term) (x : Range) : Type 0 where
  pub inside : (r : Row) → Fits cs r → within x (value t r) ≡ true
  pub calm : (r : Row) → Fits cs r → CalmTerm t r

pub record NumberKept (i : Inputs) (t : Tree Number) (x : NumberType) : Type 0 where
  pub inside : within x.range (number t i []) ≡ true
  pub calm : CalmNumber t i []

-- every typed form keeps what its type says
pub record Kept (c : Catalogue) (p : Plant) : Type 0 where
  pub terms : (n : ℕ) (cs : List Range) (t : Tree Term) (x : Range) → length cs ≤ 6 → term_typed n cs t ≡ Ok x → TermKept cs t x
  pub bags : (n : ℕ) (b : Tree Bag) (x : BagType) → bag_typed n c b ≡ Ok x → BagKept (inputs_of p) b x
  pub numbers : (n : ℕ) (t : Tree Number) (x : NumberType) → number_typed n c [] t ≡ Ok x → NumberKept (inputs_of p) t x

abbrev pub RulesKeep : Type 0
RulesKeep = (c : Catalogue) (p : Plant) → Fitting c p → Kept c p
