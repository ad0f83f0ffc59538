-- What typing a number comes to, with some variables in scope.
use Rattle.std.specs.Prelude.{ℕ, ◌+◌, ◌≤◌, List, ◌++◌, drop, Ok, Result}
use Rattle.refusals.specs.declared.Refusal.{Refusal}
use Rattle.sources.specs.declared.shapes.Range.{Range}
use Rattle.trees.specs.Size.{max_depth, NumbersWithin, depth, literal_bound}
use Rattle.forms.specs.declared.form.Entry.{Entry}
use Rattle.forms.specs.Lined.{past}
use Rattle.forms.specs.Table.{NumberTree}
use Rattle.rules.specs.Typing.{NumberType, after_two, number_rule, number_typed}
use Rattle.rules.specs.declared.catalogue.Catalogue.{Catalogue}
use Rattle.stacks.specs.Stack.{spare, stacked}
use Rattle.types.specs.Shown.{NumberGood, number_shown}
use Rattle.types.specs.declared.fault.RuleFault.{RuleFault}
use Rattle.types.specs.declared.number.TypedNumber.{TypedNumber}
use Rattle.stacks.specs.declared.stack.Stack.{Stack}
use Rattle.typing.specs.Notes.{number_notes}
use Rattle.typing.specs.Told.{Drafted, FormAt, Typed}
use Rattle.typing.specs.declared.note.Note.{Note}

-- a form whose numbers are small, and which is shallow enough for the variables that it may bring into scope
pub record NumberAt (es : List Entry) (v : Stack Range max_depth) (p n o : ℕ) (t : NumberTree) : Type 0 where
  pub form : FormAt es p n o t
  pub small : NumbersWithin literal_bound t
  pub shallow : depth t ≤ spare v

abbrev pub NumberTyped : Catalogue → Stack Range max_depth → (n o : ℕ) → NumberTree → (before : List Note) → Result TypedNumber RuleFault → List Note → Type 0
NumberTyped c v n o t before r now_noted = Typed (number_shown (spare v)) (NumberGood (spare v)) (number_typed n c (stacked v) t) before o (number_notes n c (stacked v) t) r now_noted

-- its parts are typed and noted, and its own type is not yet held to the bounds
abbrev pub NumberDrafted : Catalogue → Stack Range max_depth → (n o : ℕ) → NumberTree → (before : List Note) → Result TypedNumber RuleFault → List Note → Type 0
NumberDrafted c v n o t before r now_noted =
    Drafted (number_shown (spare v)) (number_rule n) (λ _. Unit {0}) (number_typed n c (stacked v) t) before (o + 1) (drop 1 (number_notes n c (stacked v) t)) r now_noted

-- one number and then another
abbrev pub numbers_typed : ℕ → Catalogue → List Range → NumberTree → NumberTree → Result (NumberType × NumberType) Refusal
numbers_typed n c rs a b = after_two (number_typed n c rs a) (number_typed (past n a) c rs b) (λ x y. Ok (x, y))

abbrev pub NumbersTyped : Catalogue → Stack Range max_depth → (n o : ℕ) → NumberTree → NumberTree → (before : List Note) → Result (TypedNumber × TypedNumber) RuleFault → List Note → Type 0
NumbersTyped c v n o a b before r now_noted =
    Typed (λ x. (number_shown (spare v) x.0, number_shown (spare v) x.1)) (λ x. NumberGood (spare v) x.0 × NumberGood (spare v) x.1) (numbers_typed n c (stacked v) a b) before o (number_notes n c (stacked v) a ++ number_notes (past n a) c (stacked v) b) r now_noted
