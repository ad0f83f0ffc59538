use Rattle.std.proofs.Common.{◌≡◌, ◌+◌, ◌≤◌, List, ◌++◌, length, take, drop, subst, arith}
use Rattle.forms.specs.Limits.{room}
use Rattle.rules.specs.Typing.{number_typed}
use Rattle.stacks.specs.Stack.{spare, stacked}
use Rattle.std.proofs.lemmas.List.{length-take-le, take-append-drop}
use Rattle.types.specs.Shown.{NumberGood, number_shown}
use Rattle.typing.specs.Notes.{number_notes}
use Rattle.typing.specs.Numbers.{NumberTyped}
use Rattle.typing.specs.declared.note.Note.{Note}
use Rattle.typing.proofs.Lengths.{number_count}
use Rattle.typing.proofs.Replies.{in_front}
use Rattle.typing.proofs.numbers.number.Goals as goal

pub returns : goal.returns
returns c =
    λ n o t at.
    let k = c.args.catalogue.now in
    let v = c.args.scope.now in
    let before = c.args.notes.now in
    let front = take room before in
    let rest = drop room before in
    let ns = number_notes n k (stacked v) t in
    let fits : o + length ns ≤ length front = omega (arith, number_count t n k (stacked v), at.form.room, length-take-le room before c.requires.places) in
    let first : c.in-Some.places.now ≡ front = c.in-Some.ensures.cases.same in
    let typed = subst (λ (l : List Note). NumberTyped k v n o t l c.number.result c.number.new.notes) first (c.number.ensures n o t at) in
    subst (λ (l : List Note). NumberTyped k v n o t l c.number.result (c.number.new.notes ++ rest)) (take-append-drop room before)
    (in_front (number_shown (spare v)) (NumberGood (spare v)) (number_typed n k (stacked v) t) front rest o ns c.number.result c.number.new.notes fits typed)
