use Rattle.std.proofs.Common.{◌≡◌, ℕ, ◌-◌, List, [], ◌++◌, length, replicate, ap₂, sym, ap, ◌∙◌, arith}
use Rattle.std.proofs.lemmas.Result.{err_from_is_err_and}
use Rattle.trees.specs.Size.{size}
use Rattle.forms.specs.Limits.{room}
use Rattle.typing.specs.declared.note.Note.{Note}
use Rattle.typing.proofs.Lengths.{number_count}
use Rattle.typing.specs.Notes.{blank_note, number_notes}
use Rattle.checking.proofs.Blanks.{length_behind, noted_first, put_behind}
use Rattle.checking.proofs.Calls.{faulty_call}
use Rattle.checking.proofs.check.check_anew.Goals as goal

pub returns-in_err-call : goal.returns-in_err-call
returns-in_err-call c =
    let p = err_from_is_err_and c.from_residual.result c.from_residual.ensures.1 in
    rw (p.1, p.2) (faulty_call c.args.catalogue.now c.args.text.now c.in_err-call.field-0.0 c.in_err-call.ensures.fault)

pub returns : goal.returns
returns c =
    let k = c.args.catalogue.now in
    let same = c.in_ok-call.ensures.call in
    let before = c.args.notes.now in
    let d = rw (same.0, same.1) at c.in_ok-fill.ensures in
    let n = length c.entries-forms.result.now in
    let ns = number_notes 1 k [] d.tree in
    let many : n ≡ size d.tree = ap length c.entries-forms.ensures.value ∙ d.filled.holds.0.1 in
    record {
      tree = d.tree;
      type = d.type;
      sound = sym c.in_ok-call.ensures.fault;
      spells = d.spells;
      typed = d.typed;
      notes = put_behind c.fill.new.notes c.blank.new.notes n (room - n) (omega arith)
          ∙ ap₂ (λ (a b : List Note). a ++ b) (noted_first before ns c.fill.new.notes n d.notes (many ∙ sym (number_count d.tree 1 k []))) (c.blank.ensures ∙ ap (λ (i : ℕ). replicate i blank_note) (length_behind c.fill.new.notes n (room - n) (omega arith) ∙ ap (λ (i : ℕ). room - i) many));
      filled = d.filled;
    }
