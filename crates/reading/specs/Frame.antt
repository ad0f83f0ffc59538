-- A form that is open, and the form that it becomes when it is closed.
use Rattle.std.specs.Prelude.{ℕ, ◌+◌, ℤ, Option}
use Rattle.std.specs.List.{slice_get}
use Rattle.trees.specs.declared.Kind.{Kind}
use Rattle.trees.specs.declared.words.Word.{Word}
use Rattle.trees.specs.declared.words.Word.TheVariants.{Bag, Keep, Put, Pool, Col, Lit, Plus, Times, Pick, Less, Equal, Either, Not, Num, Setting, Var, Count, Sum, Add, Sub, Least, Most, Scale, Clip, Let}
use Rattle.trees.specs.Words.{entry}
use Rattle.forms.specs.declared.form.Entry.{Entry}
use Rattle.forms.specs.declared.form.Form.{Form}
use Rattle.forms.specs.declared.form.Form.TheVariants as form
use Rattle.lines.specs.declared.heading.Heading.{Heading}
use Rattle.reading.specs.declared.frame.Frame.{Frame}

-- a form without parts as yet
abbrev pub fresh : Heading → ℕ → ℕ → Frame
fresh h n i = record { heading = h; line = n; order = i; begun = 0; third_last = 0; second_last = 0; last = 0 }

-- the kind of the next part, if there is to be one
abbrev pub next_kind : Frame → Option Kind
next_kind f = slice_get (entry f.heading.word).parts f.begun

abbrev pub with_begun : Frame → Frame
with_begun f = record { heading = f.heading; line = f.line; order = f.order; begun = f.begun + 1; third_last = f.third_last; second_last = f.second_last; last = f.last }

-- the part that was begun last stands at position p
abbrev pub with_part : ℕ → Frame → Frame
with_part p f = record { heading = f.heading; line = f.line; order = f.order; begun = f.begun; third_last = f.second_last; second_last = f.last; last = p }

-- the form of a word with numbers x and y and parts at positions a, b and c, of which the last ones count
abbrev pub form_with : Word → (x y : ℤ) (a b c : ℕ) → Form
form_with Bag x y a b c = form.Bag x
form_with Keep x y a b c = form.Keep b c
form_with Put x y a b c = form.Put x b c
form_with Pool x y a b c = form.Pool b c
form_with Col x y a b c = form.Col x
form_with Lit x y a b c = form.Lit x
form_with Plus x y a b c = form.Plus b c
form_with Times x y a b c = form.Times b c
form_with Pick x y a b c = form.Pick a b c
form_with Less x y a b c = form.Less b c
form_with Equal x y a b c = form.Equal b c
form_with Either x y a b c = form.Either b c
form_with Not x y a b c = form.Not c
form_with Num x y a b c = form.Num x
form_with Setting x y a b c = form.Setting x
form_with Var x y a b c = form.Var x
form_with Count x y a b c = form.Count c
form_with Sum x y a b c = form.Sum x y b c
form_with Add x y a b c = form.Add b c
form_with Sub x y a b c = form.Sub b c
form_with Least x y a b c = form.Least b c
form_with Most x y a b c = form.Most b c
form_with Scale x y a b c = form.Scale x c
form_with Clip x y a b c = form.Clip x y c
form_with Let x y a b c = form.Let b c

abbrev pub form_of : Frame → Form
form_of f = form_with f.heading.word f.heading.first f.heading.second f.third_last f.second_last f.last

abbrev pub entry_of : Frame → Entry
entry_of f = record { form = form_of f; line = f.line; order = f.order }
