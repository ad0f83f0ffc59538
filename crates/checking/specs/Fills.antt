-- What filling a query comes to.
use Rattle.std.specs.Prelude.{◌≡◌, ℕ, List, [], Ok, Err, Result}
use Rattle.forms.specs.Table.{NumberTree}
use Rattle.rules.specs.Typing.{NumberType, number_typed}
use Rattle.rules.specs.declared.catalogue.Catalogue.{Catalogue}
use Rattle.typing.specs.Notes.{noted_at, number_notes}
use Rattle.typing.specs.declared.note.Note.{Note}
use Rattle.checking.specs.Check.{Accepted, Faulty, RuledOut, Spells}
use Rattle.checking.specs.Query.{Filled}
use Rattle.checking.specs.declared.fault.CheckFault.{CheckFault}
use Rattle.checking.specs.declared.query.Query.{Query}

-- the query is filled, and the forms are noted from the first place on
pub record FillsQuery (c : Catalogue) (text : List ℕ) (before now_noted : List Note) (q : Query) : Type 0 where
  pub tree : NumberTree
  pub type : NumberType
  pub spells : Spells text tree
  pub typed : number_typed 1 c [] tree ≡ Ok type
  pub notes : now_noted ≡ noted_at before 0 (number_notes 1 c [] tree)
  pub filled : Filled c tree type q

abbrev pub Fills : Catalogue → List ℕ → (before : List Note) → Result (Unit {0}) CheckFault → List Note → Query → Type 0
Fills c text before (Ok u) now_noted q = FillsQuery c text before now_noted q
Fills c text before (Err e) now_noted q = RuledOut c text e

-- a check with places enough, which clears nothing that it refuses
abbrev pub ChecksAnew : Catalogue → List ℕ → ℕ → Result (Unit {0}) CheckFault → List Note → Query → Type 0
ChecksAnew c text places (Ok u) now_noted q = Accepted c text places now_noted q
ChecksAnew c text places (Err e) now_noted q = Faulty c text e
