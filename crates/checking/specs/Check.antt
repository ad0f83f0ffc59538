-- What a check comes to, for every text, catalogue and number of note places.
use Rattle.std.specs.Prelude.{◌≡◌, ℕ, ◌-◌, List, [], ◌++◌, length, replicate, Some, None, Ok, Err, Option, Result, nat_le, nat_lt}
use Rattle.refusals.specs.Rules.{or_else, unless}
use Rattle.trees.specs.Size.{WithinLimits, size}
use Rattle.trees.specs.Written.{written}
use Rattle.forms.specs.Limits.{room}
use Rattle.forms.specs.Table.{NumberTree}
use Rattle.reading.specs.Text.{text_read}
use Rattle.rules.specs.Catalogue.{faulty_input}
use Rattle.rules.specs.Typing.{NumberType, number_typed}
use Rattle.rules.specs.declared.catalogue.Catalogue.{Catalogue}
use Rattle.types.specs.Faults.{rule_refusal}
use Rattle.typing.specs.Notes.{blank_note, number_notes}
use Rattle.typing.specs.declared.note.Note.{Note}
use Rattle.checking.specs.Query.{Emptied, Filled}
use Rattle.checking.specs.declared.fault.CheckFault.{CheckFault}
use Rattle.checking.specs.declared.fault.CheckFault.TheVariants as fault
use Rattle.checking.specs.declared.query.Query.{Query}

-- how many bytes a text has at most
abbrev pub max_text : ℕ
max_text = 4096

abbrev pub catalogue_fault : Option ℕ → Option CheckFault
catalogue_fault None = None
catalogue_fault (Some i) = Some (fault.Catalogue i)

-- the first fault of a call, before its text is read
abbrev pub call_fault : Catalogue → List ℕ → Option CheckFault
call_fault c text = or_else (catalogue_fault (faulty_input c)) (or_else (unless (nat_le (length text) max_text) fault.TooLong) (unless (nat_lt 0 (length text)) fault.NoText))

abbrev pub places_fault : ℕ → Option CheckFault
places_fault places = unless (nat_le room places) fault.FewNotes

-- the text is the written form of t, which is within the limits
pub record Spells (text : List ℕ) (t : NumberTree) : Type 0 where
  pub limits : WithinLimits t
  pub is : text ≡ written t

-- the rules refuse the tree that the text spells
abbrev pub RuledOut : Catalogue → List ℕ → CheckFault → Type 0
RuledOut c text fault.FewNotes = ⊥
RuledOut c text (fault.Catalogue i) = ⊥
RuledOut c text fault.TooLong = ⊥
RuledOut c text fault.NoText = ⊥
RuledOut c text (fault.Form e) = text_read text ≡ Err e
RuledOut c text (fault.Rule e) = (t : NumberTree) × Spells text t × (number_typed 1 c [] t ≡ Err (rule_refusal e))

-- why a text is refused: lower numbers first
abbrev pub Faulty : Catalogue → List ℕ → CheckFault → Type 0
Faulty c text fault.FewNotes = ⊥
Faulty c text (fault.Catalogue i) = call_fault c text ≡ Some (fault.Catalogue i)
Faulty c text fault.TooLong = call_fault c text ≡ Some fault.TooLong
Faulty c text fault.NoText = call_fault c text ≡ Some fault.NoText
Faulty c text (fault.Form e) = (call_fault c text ≡ None) × RuledOut c text (fault.Form e)
Faulty c text (fault.Rule e) = (call_fault c text ≡ None) × RuledOut c text (fault.Rule e)

-- the text spells t, which the rules give the type x: the query holds it, and each of its forms is noted, the rest of the places being blank
pub record Accepted (c : Catalogue) (text : List ℕ) (places : ℕ) (now_noted : List Note) (q : Query) : Type 0 where
  pub tree : NumberTree
  pub type : NumberType
  pub sound : call_fault c text ≡ None
  pub spells : Spells text tree
  pub typed : number_typed 1 c [] tree ≡ Ok type
  pub notes : now_noted ≡ number_notes 1 c [] tree ++ replicate (places - size tree) blank_note
  pub filled : Filled c tree type q

-- nothing is left of an earlier query, nor of its notes
pub record Cleared (places : ℕ) (now_noted : List Note) (q : Query) : Type 0 where
  pub notes : now_noted ≡ replicate places blank_note
  pub query : Emptied q

-- with too few places nothing is touched
pub record Untouched (places : ℕ) (before now_noted : List Note) (earlier q : Query) : Type 0 where
  pub few : places_fault places ≡ Some fault.FewNotes
  pub notes : now_noted ≡ before
  pub query : q ≡ earlier

abbrev pub Refused : Catalogue → List ℕ → (before : List Note) → (earlier : Query) → CheckFault → List Note → Query → Type 0
Refused c text before earlier fault.FewNotes now_noted q = Untouched (length before) before now_noted earlier q
Refused c text before earlier (fault.Catalogue i) now_noted q = (places_fault (length before) ≡ None) × Faulty c text (fault.Catalogue i) × Cleared (length before) now_noted q
Refused c text before earlier fault.TooLong now_noted q = (places_fault (length before) ≡ None) × Faulty c text fault.TooLong × Cleared (length before) now_noted q
Refused c text before earlier fault.NoText now_noted q = (places_fault (length before) ≡ None) × Faulty c text fault.NoText × Cleared (length before) now_noted q
Refused c text before earlier (fault.Form e) now_noted q = (places_fault (length before) ≡ None) × Faulty c text (fault.Form e) × Cleared (length before) now_noted q
Refused c text before earlier (fault.Rule e) now_noted q = (places_fault (length before) ≡ None) × Faulty c text (fault.Rule e) × Cleared (length before) now_noted q

-- what a check replies, and what the notes and the query are then
abbrev pub Checks : Catalogue → List ℕ → (before : List Note) → (earlier : Query) → Result (Unit {0}) CheckFault → List Note → Query → Type 0
Checks c text before earlier (Ok u) now_noted q = (places_fault (length before) ≡ None) × Accepted c text (length before) now_noted q
Checks c text before earlier (Err e) now_noted q = Refused c text before earlier e now_noted q

-- what makes a text acceptable: it spells a number that the rules type
pub record Acceptable (c : Catalogue) (text : List ℕ) (places : ℕ) : Type 0 where
  pub room_enough : places_fault places ≡ None
  pub sound : call_fault c text ≡ None
  pub tree : NumberTree
  pub type : NumberType
  pub spells : Spells text tree
  pub typed : number_typed 1 c [] tree ≡ Ok type

-- exactly the acceptable texts are accepted
abbrev pub AcceptsExactly : Catalogue → List ℕ → ℕ → Result (Unit {0}) CheckFault → Type 0
AcceptsExactly c text places r = (r ≡ Ok tt → Acceptable c text places) × (Acceptable c text places → r ≡ Ok tt)
