-- What typing a form comes to: its type, with a note of each form in it, or the refusal of the rules.
use Rattle.std.specs.Prelude.{◌≡◌, ℕ, ◌+◌, ◌≤◌, List, None, Ok, Err, Option, Result}
use Rattle.refusals.specs.declared.Refusal.{Refusal}
use Rattle.trees.specs.declared.Kind.{Kind}
use Rattle.trees.specs.declared.Kind.TheVariants.{Bag, Condition, Number, Term}
use Rattle.trees.specs.Size.{size}
use Rattle.trees.specs.Tree.{Tree}
use Rattle.forms.specs.declared.form.Entry.{Entry}
use Rattle.forms.specs.Limits.{room}
use Rattle.forms.specs.Lined.{Lined}
use Rattle.forms.specs.Table.{Part, part_at}
use Rattle.forms.specs.Table.Part.{a_bag, a_condition, a_number, a_term}
use Rattle.rules.specs.Typing.{settle}
use Rattle.types.specs.Faults.{rule_refusal}
use Rattle.typing.specs.Notes.{noted_at}
use Rattle.types.specs.declared.fault.RuleFault.{RuleFault}
use Rattle.typing.specs.declared.note.Note.{Note}

abbrev pub into_part : {k : Kind} → Tree k → Part
into_part {k = Term} t = a_term t
into_part {k = Condition} c = a_condition c
into_part {k = Bag} b = a_bag b
into_part {k = Number} n = a_number n

-- t stands at p, opens on line n as form o, and there is a place for the notes of all its forms
pub record FormAt {k : Kind} (es : List Entry) (p n o : ℕ) (t : Tree k) : Type 0 where
  pub is : part_at es p ≡ into_part t
  pub lined : Lined es t p n o
  pub room : o + size t ≤ room

-- the reply r is the type s of a form, and ns are now the notes from o on; or it is why the form is refused.
-- A draft has yet to be held to a rule.
abbrev pub Drafted : {X Y : Type 0} → (X → Y) → (Y → Option Refusal) → (X → Type 0) → Result Y Refusal → (before : List Note) → ℕ → List Note → Result X RuleFault → List Note → Type 0
Drafted shown rule good s before o ns (Ok x) now_noted = (s ≡ settle (rule (shown x)) (shown x)) × (now_noted ≡ noted_at before o ns) × good x
Drafted shown rule good s before o ns (Err e) now_noted = s ≡ Err (rule_refusal e)

abbrev pub Typed : {X Y : Type 0} → (X → Y) → (X → Type 0) → Result Y Refusal → (before : List Note) → ℕ → List Note → Result X RuleFault → List Note → Type 0
Typed shown good s before o ns r now_noted = Drafted shown (λ _. None) good s before o ns r now_noted
