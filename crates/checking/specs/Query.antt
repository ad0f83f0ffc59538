-- What a query holds.
use Rattle.std.specs.Prelude.{◌≡◌, List, [], ◌∷◌, replicate}
use Rattle.sources.specs.declared.shapes.Range.{Range}
use Rattle.sources.specs.declared.shapes.Shape.{Shape}
use Rattle.forms.specs.declared.form.Entry.{Entry}
use Rattle.forms.specs.Held.{held}
use Rattle.forms.specs.Table.{NumberTree}
use Rattle.reading.specs.Law.{HoldsLined}
use Rattle.rules.specs.Amounts.{none}
use Rattle.rules.specs.Typing.{NumberType}
use Rattle.rules.specs.declared.amounts.Amounts.{Amounts}
use Rattle.rules.specs.declared.catalogue.Catalogue.{Catalogue}
use Rattle.checking.specs.Typed.{IsQuery, zero_range}
use Rattle.checking.specs.declared.query.Query.{Query}

abbrev pub entries_in : Query → List Entry
entries_in q = held q.table

abbrev pub range_of : Query → Range
range_of q = q.range

abbrev pub sensitivities_of : Query → Amounts
sensitivities_of q = q.sensitivities

abbrev pub catalogue_of : Query → Catalogue
catalogue_of q = q.catalogue

-- a source of no rows, and settings that are 0
abbrev pub no_catalogue : Catalogue
no_catalogue = let s : Shape = record { width = 1; limit = 0; columns = replicate 6 zero_range } in record { sources = s ∷ s ∷ []; settings = zero_range ∷ zero_range ∷ [] }

-- as a new query is
pub record Emptied (q : Query) : Type 0 where
  pub entries : entries_in q ≡ []
  pub catalogue : catalogue_of q ≡ no_catalogue
  pub range : range_of q ≡ zero_range
  pub sensitivities : sensitivities_of q ≡ none

-- the query holds the tree, under the catalogue, and tells the range and the sensitivities of its type
pub record Filled (c : Catalogue) (t : NumberTree) (x : NumberType) (q : Query) : Type 0 where
  pub holds : HoldsLined (entries_in q) t
  pub catalogue : catalogue_of q ≡ c
  pub range : range_of q ≡ x.range
  pub sensitivities : sensitivities_of q ≡ x.inputs

-- by its type, a query is empty or typed by the rules
abbrev pub SoundQuery : Query → Type 0
SoundQuery q = IsQuery (entries_in q) (catalogue_of q) (range_of q) (sensitivities_of q)
