-- Exactly the acceptable texts are accepted.
use Rattle.std.proofs.Common.{◌≡◌, ℕ, ◌-◌, List, [], length, Ok, Err, Result, sym, refl, ap, ◌∙◌}
use Rattle.forms.specs.Table.{NumberTree, part_at}
use Rattle.forms.specs.Table.Part.{a_number}
use Rattle.reading.proofs.Law.{reads_trees}
use Rattle.reading.specs.Text.{entries_of, replied, text_read}
use Rattle.reading.specs.declared.fault.FormFault.{FormFault}
use Rattle.rules.specs.Typing.{number_typed}
use Rattle.rules.specs.declared.catalogue.Catalogue.{Catalogue}
use Rattle.types.specs.Faults.{rule_refusal}
use Rattle.typing.specs.declared.note.Note.{Note}
use Rattle.checking.specs.Check.{Acceptable, AcceptsExactly, Checks, Spells}
use Rattle.checking.specs.declared.fault.CheckFault.{CheckFault}
use Rattle.checking.specs.declared.fault.CheckFault.TheVariants as fault
use Rattle.checking.specs.declared.query.Query.{Query}

-- a text spells one tree
spells_one : (text : List ℕ) (t u : NumberTree) → Spells text t → Spells text u → t ≡ u
spells_one text t u p q =
    let es = entries_of (text_read text) in
    let first : part_at es (length es - 1) ≡ a_number t = ((reads_trees text).every t p.limits p.is).1.0 in
    let second : part_at es (length es - 1) ≡ a_number u = ((reads_trees text).every u q.limits q.is).1.0 in
    let both : a_number t ≡ a_number u = sym first ∙ second in
    cc

-- and is read
spells_read : (text : List ℕ) (t : NumberTree) (e : FormFault) → Spells text t → text_read text ≡ Err e → ⊥
spells_read text t e p is =
    let read = sym (ap replied is) ∙ ((reads_trees text).every t p.limits p.is).0 in
    cc

module _ (c : Catalogue) (text : List ℕ) (before now_noted : List Note) (earlier q : Query) where
  accepts : (r : Result (Unit {0}) CheckFault) → Checks c text before earlier r now_noted q → r ≡ Ok tt → Acceptable c text (length before)
  accepts (Ok u) h e = let a = h.1 in record { room_enough = h.0; sound = a.sound; tree = a.tree; type = a.type; spells = a.spells; typed = a.typed }
  accepts (Err f) h e = cc

  refuses : (f : CheckFault) → Checks c text before earlier (Err f) now_noted q → Acceptable c text (length before) → ⊥
  refuses fault.FewNotes h a = cc (h.few, a.room_enough)
  refuses (fault.Catalogue i) h a = cc (a.sound, h.1)
  refuses fault.TooLong h a = cc (a.sound, h.1)
  refuses fault.NoText h a = cc (a.sound, h.1)
  refuses (fault.Form e) h a = spells_read text a.tree e a.spells h.1.1
  refuses (fault.Rule e) h a =
      let x = h.1.1 in
      let same = spells_one text x.0 a.tree x.1 a.spells in
      let both : Err (rule_refusal e) ≡ Ok a.type = sym x.2 ∙ ap (number_typed 1 c []) same ∙ a.typed in
      cc

  accepted : (r : Result (Unit {0}) CheckFault) → Checks c text before earlier r now_noted q → Acceptable c text (length before) → r ≡ Ok tt
  accepted (Ok u) h a = refl
  accepted (Err f) h a = absurd (refuses f h a)

  pub exactly : (r : Result (Unit {0}) CheckFault) → Checks c text before earlier r now_noted q → AcceptsExactly c text (length before) r
  exactly r h = (accepts r h, accepted r h)
