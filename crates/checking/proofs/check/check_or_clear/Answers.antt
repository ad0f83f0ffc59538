use Rattle.std.proofs.Common.{◌≡◌, ℕ, ◌+◌, ◌-◌, ◌≤◌, [], ◌++◌, List, replicate, Bool, false, None, Result, Ok, Err, length, ap, arith}
use Rattle.std.specs.Result.{is_err}
use Rattle.rules.specs.declared.catalogue.Catalogue.{Catalogue}
use Rattle.typing.specs.declared.note.Note.{Note}
use Rattle.typing.specs.Notes.{blank_note}
use Rattle.checking.specs.declared.fault.CheckFault.{CheckFault}
use Rattle.checking.specs.declared.query.Query.{Query}
use Rattle.checking.specs.Fills.{ChecksAnew}
use Rattle.refusals.specs.Rules.{unless}
use Rattle.std.proofs.lemmas.Bool.{le-leb}
use Rattle.forms.specs.Limits.{room}
use Rattle.trees.specs.Size.{size}
use Rattle.typing.specs.Notes.{number_notes}
use Rattle.checking.proofs.Blanks.{blank_behind}
use Rattle.checking.proofs.check.check_or_clear.Goals as goal
use Rattle.checking.specs.Check.{Checks, places_fault}
use Rattle.checking.specs.declared.fault.CheckFault.TheVariants.{FewNotes}

enough : (n : ℕ) → room ≤ n → places_fault n ≡ None
enough n h = ap (λ (b : Bool). unless b FewNotes) (le-leb room n h)

-- what a check that is not refused leaves, with the blank places behind
passed : (c : Catalogue) (text : List ℕ) (before first behind : List Note) (earlier q : Query) (r : Result (Unit {0}) CheckFault) → false ≡ is_err r → ChecksAnew c text room r first q → (m : ℕ) → behind ≡ replicate m blank_note → m + room ≡ length before → Checks c text before earlier r (first ++ behind) q
passed c text before first behind earlier q (Err e) h a m b sum = absurd (cc h)
passed c text before first behind earlier q (Ok u) h a m b sum =
    let ns = number_notes 1 c [] a.tree in (
      enough (length before) (omega (arith, sum)),
      record {
        tree = a.tree;
        type = a.type;
        sound = a.sound;
        spells = a.spells;
        typed = a.typed;
        notes = blank_behind ns first behind (room - size a.tree) m (length before - size a.tree) a.notes b (omega (arith, sum, a.spells.limits.few));
        filled = a.filled;
      },
    )

pub returns-else-is_err : goal.returns-else-is_err
returns-else-is_err c = passed _ _ _ _ _ _ _ c.check_anew-reply.result c.if-is_err.ensures.value c.check_anew-reply.ensures (length c.in-Some.behind.now) c.blank.ensures c.in-Some.ensures.cases.2
