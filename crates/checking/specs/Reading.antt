-- What reading a text and typing what is read come to.
use Rattle.std.specs.Prelude.{◌≡◌, ℕ, List, [], Ok, Err, Result}
use Rattle.trees.specs.Size.{max_depth}
use Rattle.forms.specs.declared.form.Entry.{Entry}
use Rattle.forms.specs.Table.{NumberTree}
use Rattle.reading.specs.Law.{HoldsLined}
use Rattle.rules.specs.Typing.{number_typed}
use Rattle.rules.specs.declared.catalogue.Catalogue.{Catalogue}
use Rattle.types.specs.Shown.{number_shown}
use Rattle.types.specs.declared.number.TypedNumber.{TypedNumber}
use Rattle.typing.specs.Notes.{noted_at, number_notes}
use Rattle.typing.specs.declared.note.Note.{Note}
use Rattle.checking.specs.Check.{RuledOut, Spells}
use Rattle.checking.specs.declared.fault.CheckFault.{CheckFault}

-- the table holds the tree that the text spells, and its forms are noted from the first place on
pub record ReadTyped (c : Catalogue) (text : List ℕ) (before : List Note) (x : TypedNumber) (es : List Entry) (now_noted : List Note) : Type 0 where
  pub tree : NumberTree
  pub spells : Spells text tree
  pub holds : HoldsLined es tree
  pub typed : number_typed 1 c [] tree ≡ Ok (number_shown max_depth x)
  pub notes : now_noted ≡ noted_at before 0 (number_notes 1 c [] tree)

abbrev pub ReadsTyped : Catalogue → List ℕ → (before : List Note) → Result TypedNumber CheckFault → List Entry → List Note → Type 0
ReadsTyped c text before (Ok x) es now_noted = ReadTyped c text before x es now_noted
ReadsTyped c text before (Err e) es now_noted = RuledOut c text e
