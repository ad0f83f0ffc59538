-- When a table, a catalogue, a range and sensitivities make up a query: nothing at all, or a number as the rules type it.
use Rattle.std.specs.Prelude.{◌≡◌, ◌-◌, Bool, false, ◌&&◌, ◌⊎◌, List, [], ◌∷◌, length, pos, Some, None, Ok, Err, Option, Result, ◌==◌}
use Rattle.refusals.specs.declared.Refusal.{Refusal}
use Rattle.sources.specs.Shapes.{range}
use Rattle.sources.specs.declared.shapes.Range.{Range}
use Rattle.trees.specs.Size.{size}
use Rattle.forms.specs.declared.form.Entry.{Entry}
use Rattle.forms.specs.Table.{NumberTree, as_number, part_at}
use Rattle.reading.specs.Law.{HoldsLined}
use Rattle.rules.specs.Amounts.{none}
use Rattle.rules.specs.Ranges.{same_range}
use Rattle.rules.specs.Typing.{NumberType, number_typed}
use Rattle.rules.specs.declared.amounts.Amounts.{Amounts}
use Rattle.rules.specs.declared.catalogue.Catalogue.{Catalogue}
use Rattle.checking.specs.Opening.{is_lined}

abbrev pub zero_range : Range
zero_range = range (pos 0) (pos 0)

-- the number at the last position
abbrev pub tree_of : List Entry → Option NumberTree
tree_of es = as_number (part_at es (length es - 1))

abbrev pub same_amounts : Amounts → Amounts → Bool
same_amounts a b = a.source_0 == b.source_0 && (a.source_1 == b.source_1 && (a.setting_0 == b.setting_0 && a.setting_1 == b.setting_1))

abbrev pub has_type : Result NumberType Refusal → Range → Amounts → Bool
has_type (Ok x) r a = same_range x.range r && same_amounts x.inputs a
has_type (Err e) r a = false

abbrev pub is_typed : Option NumberTree → List Entry → Catalogue → Range → Amounts → Bool
is_typed None es c r a = false
is_typed (Some t) es c r a = is_lined es t (length es - 1) 1 0 && (length es == size t && has_type (number_typed 1 c [] t) r a)

abbrev pub is_query : List Entry → Catalogue → Range → Amounts → Bool
is_query [] c r a = same_range zero_range r && same_amounts none a
is_query (e ∷ es) c r a = is_typed (tree_of (e ∷ es)) (e ∷ es) c r a

-- the same as a statement: the table holds a number, in which every form knows its line, and the rules give it this range and these sensitivities
pub record TypedQuery (es : List Entry) (c : Catalogue) (r : Range) (a : Amounts) : Type 0 where
  pub tree : NumberTree
  pub type : NumberType
  pub holds : HoldsLined es tree
  pub typed : number_typed 1 c [] tree ≡ Ok type
  pub range_is : type.range ≡ r
  pub inputs_are : type.inputs ≡ a

pub record EmptyQuery (es : List Entry) (r : Range) (a : Amounts) : Type 0 where
  pub no_entries : es ≡ []
  pub range_is : r ≡ zero_range
  pub inputs_are : a ≡ none

-- every query is one of the two
abbrev pub IsQuery : List Entry → Catalogue → Range → Amounts → Type 0
IsQuery es c r a = EmptyQuery es r a ⊎ TypedQuery es c r a
