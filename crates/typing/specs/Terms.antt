-- What typing a term or a condition comes to, beside a bag with columns of the ranges cs.
use Rattle.std.specs.Prelude.{◌≡◌, ℕ, ◌+◌, true, List, ◌++◌, drop, Ok, Result}
use Rattle.refusals.specs.declared.Refusal.{Refusal}
use Rattle.sources.specs.declared.shapes.Range.{Range}
use Rattle.forms.specs.Limits.{term_bound}
use Rattle.forms.specs.Lined.{past}
use Rattle.forms.specs.Table.{ConditionTree, TermTree}
use Rattle.rules.specs.Ranges.{bounded}
use Rattle.rules.specs.Typing.{after_two, condition_typed, term_rule, term_typed}
use Rattle.typing.specs.Notes.{condition_notes, term_notes}
use Rattle.typing.specs.Told.{Drafted, Typed}
use Rattle.types.specs.declared.fault.RuleFault.{RuleFault}
use Rattle.typing.specs.declared.note.Note.{Note}

abbrev pub TermBounded : Range → Type 0
TermBounded r = bounded term_bound r ≡ true

abbrev pub TermTyped : List Range → (n o : ℕ) → TermTree → (before : List Note) → Result Range RuleFault → List Note → Type 0
TermTyped cs n o t before r now_noted = Typed (λ x. x) TermBounded (term_typed n cs t) before o (term_notes n cs t) r now_noted

-- its parts are typed and noted, and its own range is not yet held to the bound
abbrev pub TermDrafted : List Range → (n o : ℕ) → TermTree → (before : List Note) → Result Range RuleFault → List Note → Type 0
TermDrafted cs n o t before r now_noted = Drafted (λ x. x) (term_rule n) (λ _. Unit {0}) (term_typed n cs t) before (o + 1) (drop 1 (term_notes n cs t)) r now_noted

-- one term and then another
abbrev pub terms_typed : ℕ → List Range → TermTree → TermTree → Result (Range × Range) Refusal
terms_typed n cs a b = after_two (term_typed n cs a) (term_typed (past n a) cs b) (λ x y. Ok (x, y))

abbrev pub TermsTyped : List Range → (n o : ℕ) → TermTree → TermTree → (before : List Note) → Result (Range × Range) RuleFault → List Note → Type 0
TermsTyped cs n o a b before r now_noted =
    Typed (λ x. x) (λ x. TermBounded x.0 × TermBounded x.1) (terms_typed n cs a b) before o (term_notes n cs a ++ term_notes (past n a) cs b) r now_noted

abbrev pub ConditionTyped : List Range → (n o : ℕ) → ConditionTree → (before : List Note) → Result (Unit {0}) RuleFault → List Note → Type 0
ConditionTyped cs n o d before r now_noted = Typed (λ x. x) (λ _. Unit {0}) (condition_typed n cs d) before o (condition_notes n cs d) r now_noted

abbrev pub ConditionDrafted : List Range → (n o : ℕ) → ConditionTree → (before : List Note) → Result (Unit {0}) RuleFault → List Note → Type 0
ConditionDrafted cs n o d before r now_noted = Typed (λ x. x) (λ _. Unit {0}) (condition_typed n cs d) before (o + 1) (drop 1 (condition_notes n cs d)) r now_noted
