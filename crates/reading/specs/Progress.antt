-- What a line changes: the forms that are open, how many are begun, and the table of those that are closed.
use Rattle.std.specs.Prelude.{◌≡◌, ℕ, ◌+◌, ◌≤◌, Bool, false, List, [], ◌∷◌, ◌++◌, length, Some, None, Ok, Err, Option, Result, ◌==◌}
use Rattle.refusals.specs.Rules.{or_else, unless}
use Rattle.trees.specs.declared.Kind.{Kind}
use Rattle.trees.specs.declared.Kind.TheVariants.{Term, Condition, Bag, Number}
use Rattle.trees.specs.Size.{max_forms}
use Rattle.trees.specs.Words.{entry}
use Rattle.forms.specs.declared.form.Entry.{Entry}
use Rattle.forms.specs.declared.table.Table.{Table}
use Rattle.forms.specs.Held.{held}
use Rattle.lines.specs.declared.heading.Heading.{Heading}
use Rattle.lines.specs.declared.token.Token.{Token}
use Rattle.lines.specs.declared.token.Token.TheVariants.{Opening, Leaf, Closing}
use Rattle.lines.specs.Line.{after}
use Rattle.reading.specs.declared.fault.FormFault.{FormFault}
use Rattle.reading.specs.declared.frame.Frame.{Frame}
use Rattle.reading.specs.declared.progress.Progress.{Progress}
use Rattle.reading.specs.Decide.{wanted, placed}
use Rattle.reading.specs.Frame.{fresh, with_begun, with_part, entry_of}
use Rattle.reading.specs.Stack.{first_of}
use Rattle.stacks.specs.Stack.{stacked}

-- the open forms, the innermost first; how many forms are begun; and the first line with a form of a wrong kind
pub record Standing : Type 0 where
  pub open_forms : List Frame
  pub forms : ℕ
  pub wrong : Option ℕ

abbrev pub start : Standing
start = record { open_forms = []; forms = 0; wrong = None }

abbrev pub standing : Progress → Standing
standing p = record { open_forms = stacked p.stack; forms = p.forms; wrong = p.wrong }

abbrev pub rank : Kind → ℕ
rank Term = 0
rank Condition = 1
rank Bag = 2
rank Number = 3

abbrev pub is_wanted : Option Kind → Kind → Bool
is_wanted None k = false
is_wanted (Some j) k = rank j == rank k

-- a change of the innermost form, if one is open
abbrev pub innermost : (Frame → Frame) → List Frame → List Frame
innermost f [] = []
innermost f (x ∷ xs) = f x ∷ xs

-- a form is begun, as a part of the innermost
abbrev pub begun_form : Heading → ℕ → Standing → Standing
begun_form h n s = record { open_forms = innermost with_begun s.open_forms; forms = s.forms + 1; wrong = or_else s.wrong (unless (is_wanted (wanted (first_of s.open_forms) s.forms) (entry h.word).kind) n) }

-- and stays open
abbrev pub opened_form : Heading → ℕ → Standing → Standing
opened_form h n s = let t = begun_form h n s in record { open_forms = fresh h n s.forms ∷ t.open_forms; forms = t.forms; wrong = t.wrong }

-- a part of the innermost form is closed at position p
abbrev pub with_closed : ℕ → Standing → Standing
with_closed p s = record { open_forms = innermost (with_part p) s.open_forms; forms = s.forms; wrong = s.wrong }

-- where a reader stands, and the entries of the forms that are closed
pub record State : Type 0 where
  pub at : Standing
  pub entries : List Entry

abbrev pub state : Progress → Table → State
state p t = record { at = standing p; entries = held t }

abbrev pub close_form : Frame → State → State
close_form f s = record { at = with_closed (length s.entries) s.at; entries = s.entries ++ entry_of f ∷ [] }

abbrev pub close_innermost : List Frame → State → State
close_innermost [] s = s
close_innermost (f ∷ fs) s = close_form f (record { at = record { open_forms = fs; forms = s.at.forms; wrong = s.at.wrong }; entries = s.entries })

abbrev pub after_line : Token Heading → State → State
after_line (Opening h n) s = record { at = opened_form h n s.at; entries = s.entries }
after_line (Leaf h n) s = close_form (fresh h n s.at.forms) (record { at = begun_form h n s.at; entries = s.entries })
after_line (Closing n) s = close_innermost s.at.open_forms s

-- a line is read, or refused where it stands
abbrev pub step : State → Bool → Token Heading → Result State FormFault
step s last t = after (placed (first_of s.at.open_forms) (length s.at.open_forms) s.at.forms last t) (λ u. Ok (after_line t s))

abbrev pub Steps : State → Bool → Token Heading → Result (Unit {0}) FormFault → State → Type 0
Steps s last t (Ok u) s' = step s last t ≡ Ok s'
Steps s last t (Err e) s' = step s last t ≡ Err e

-- each form that is begun is open or in the table
pub record Balanced (s : State) : Type 0 where
  pub all : length s.entries + length s.at.open_forms ≡ s.at.forms
  pub few : s.at.forms ≤ max_forms
