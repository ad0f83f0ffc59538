-- What a text is read as: its lines one after the other, each with the forms that are open before it.
use Rattle.std.specs.Prelude.{◌≡◌, ℕ, ◌+◌, Bool, true, false, cond, List, [], ◌∷◌, Some, None, Ok, Err, Option, Result, ◌==◌}
use Rattle.std.specs.List.{onto_first}
use Rattle.forms.specs.declared.form.Entry.{Entry}
use Rattle.lines.specs.declared.fault.LineFault.{LineFault}
use Rattle.lines.specs.declared.heading.Heading.{Heading}
use Rattle.lines.specs.declared.token.Token.{Token}
use Rattle.lines.specs.Line.{after, line_read}
use Rattle.reading.specs.declared.fault.FormFault.{FormFault}
use Rattle.reading.specs.declared.fault.FormFault.TheVariants.{Line, WrongKind}
use Rattle.reading.specs.Progress.{State, start, step}

-- the lines of a text, each with its line end; what stands behind the last line end is a line without one
abbrev pub lines_of : List ℕ → List (List ℕ)
lines_of [] = []
lines_of (c ∷ cs) = cond (c == 10) ((10 ∷ []) ∷ lines_of cs) (onto_first c (lines_of cs))

abbrev pub said : Result (Token Heading × List ℕ) LineFault → Result (Token Heading) FormFault
said (Ok x) = Ok x.0
said (Err e) = Err (Line e)

-- what line n says by itself
abbrev pub line_said : ℕ → List ℕ → Result (Token Heading) FormFault
line_said n l = said (line_read n l)

abbrev pub none : List (List ℕ) → Bool
none [] = true
none (l ∷ ls) = false

-- the lines from line n on; the first fault counts
abbrev pub lines_read : State → ℕ → List (List ℕ) → Result State FormFault
lines_read s n [] = Ok s
lines_read s n (l ∷ ls) = after (line_said n l) (λ t. after (step s (none ls) t) (λ s'. lines_read s' (n + 1) ls))

abbrev pub beginning : State
beginning = record { at = start; entries = [] }

-- a wrong kind counts only where nothing else is wrong
abbrev pub kinds_read : Option ℕ → Result (Unit {0}) FormFault
kinds_read None = Ok tt
kinds_read (Some n) = Err (WrongKind n)

-- the entries of the text's forms, in closing order, or the fault
abbrev pub text_read : List ℕ → Result (List Entry) FormFault
text_read text = after (lines_read beginning 1 (lines_of text)) (λ s. after (kinds_read s.at.wrong) (λ u. Ok s.entries))

abbrev pub replied : Result (List Entry) FormFault → Result (Unit {0}) FormFault
replied (Ok es) = Ok tt
replied (Err e) = Err e

abbrev pub entries_of : Result (List Entry) FormFault → List Entry
entries_of (Ok es) = es
entries_of (Err e) = []

abbrev pub Fills : List ℕ → Result (Unit {0}) FormFault → List Entry → Type 0
Fills text (Ok u) es = text_read text ≡ Ok es
Fills text (Err e) es = text_read text ≡ Err e
