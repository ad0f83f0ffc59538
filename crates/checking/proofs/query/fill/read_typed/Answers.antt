-- The text spells a tree, which is typed where it stands.
use Rattle.std.proofs.Common.{ℕ, List, Ok, sym, ap, ◌∙◌, subst, arith}
use Rattle.sources.specs.declared.shapes.Range.{Range}
use Rattle.forms.specs.declared.form.Entry.{Entry}
use Rattle.reading.specs.Law.{HoldsLined}
use Rattle.rules.specs.Typing.{number_typed}
use Rattle.types.specs.Shown.{number_shown}
use Rattle.typing.proofs.NumberSteps.{number_some}
use Rattle.typing.specs.Notes.{noted_at, number_notes}
use Rattle.checking.proofs.Whole.{at_start, whole}
use Rattle.checking.proofs.query.fill.read_typed.Goals as goal

pub overflow_sub-entries : goal.overflow_sub-entries
overflow_sub-entries c =
    let w = whole c.in_ok-read.ensures.law c.in_ok-read.ensures.lines c.args.call.now.some c.entries-entries.ensures.value in
    omega (arith, w.holds.0.1, number_some w.tree c.args.call.now.catalogue.now)

pub number-requires-clause-is : goal.number-requires-clause-is
number-requires-clause-is c =
    let w = whole c.in_ok-read.ensures.law c.in_ok-read.ensures.lines c.args.call.now.some c.entries-entries.ensures.value in
    (1, 0, w.tree, at_start c.new.result w c.new.ensures.spare)

pub returns : goal.returns
returns c =
    let k = c.args.call.now.catalogue.now in
    let w = whole c.in_ok-read.ensures.law c.in_ok-read.ensures.lines c.args.call.now.some c.entries-entries.ensures.value in
    let d = c.in_ok-typed.ensures 1 0 w.tree (at_start c.new.result w c.new.ensures.spare) in
    let empty = c.new.ensures.items in
    record {
      tree = w.tree;
      spells = w.spells;
      holds = subst (λ (es : List Entry). HoldsLined es w.tree) c.entries-entries.ensures.value w.holds;
      typed = ap (λ (rs : List Range). number_typed 1 k rs w.tree) (sym empty) ∙ d.0 ∙ ap (λ (i : ℕ). Ok (number_shown i c.in_ok-typed.typed)) c.new.ensures.spare;
      notes = d.1 ∙ ap (λ (rs : List Range). noted_at c.args.notes.now 0 (number_notes 1 k rs w.tree)) empty;
    }
