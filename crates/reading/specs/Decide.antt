-- Whether a line may stand where it stands: what it meets is the innermost of the open forms.
use Rattle.std.specs.Prelude.{ℕ, Bool, true, false, cond, not, ◌&&◌, List, [], ◌∷◌, is_some, Some, None, Ok, Err, Option, Result, ◌==◌, nat_lt}
use Rattle.trees.specs.declared.Kind.{Kind}
use Rattle.trees.specs.declared.Kind.TheVariants.{Number}
use Rattle.trees.specs.declared.words.Word.{Word}
use Rattle.trees.specs.Size.{max_depth, max_forms}
use Rattle.trees.specs.Words.{entry}
use Rattle.lines.specs.declared.heading.Heading.{Heading}
use Rattle.lines.specs.declared.token.Token.{Token}
use Rattle.lines.specs.declared.token.Token.TheVariants.{Opening, Leaf, Closing}
use Rattle.reading.specs.declared.fault.FormFault.{FormFault}
use Rattle.reading.specs.declared.fault.FormFault.TheVariants.{Misplaced, TooLarge}
use Rattle.reading.specs.declared.frame.Frame.{Frame}
use Rattle.reading.specs.Frame.{next_kind}

-- the kind that the next form is to have, if a form may stand here; the text wants one number
abbrev pub wanted : Option Frame → ℕ → Option Kind
wanted None forms = cond (forms == 0) (Some Number) None
wanted (Some f) forms = next_kind f

abbrev pub some_kind : List Kind → Bool
some_kind [] = false
some_kind (k ∷ ks) = true

abbrev pub has_parts : Word → Bool
has_parts w = some_kind (entry w).parts

-- a form stands where one is wanted, on the line form of its word; a close stands where none is wanted
abbrev pub fits : Option Frame → Option Kind → Token Heading → Bool
fits o k (Opening h n) = is_some k && has_parts h.word
fits o k (Leaf h n) = is_some k && not (has_parts h.word)
fits None k (Closing n) = false
fits (Some f) k (Closing n) = not (is_some k)

-- a form is open behind the line
abbrev pub leaves_open : ℕ → Token Heading → Bool
leaves_open depth (Opening h n) = true
leaves_open depth (Leaf h n) = nat_lt 0 depth
leaves_open depth (Closing n) = nat_lt 1 depth

-- a form more is within the limits
abbrev pub has_room : ℕ → ℕ → Token Heading → Bool
has_room depth forms (Opening h n) = nat_lt depth max_depth && nat_lt forms max_forms
has_room depth forms (Leaf h n) = nat_lt depth max_depth && nat_lt forms max_forms
has_room depth forms (Closing n) = true

abbrev pub line_of : Token Heading → ℕ
line_of (Opening h n) = n
line_of (Leaf h n) = n
line_of (Closing n) = n

-- the fault of a line: it does not fit, it is the last and leaves a form open, or it is a form too many
abbrev pub placed : Option Frame → (depth forms : ℕ) → (last : Bool) → Token Heading → Result (Unit {0}) FormFault
placed o depth forms last t =
    cond (fits o (wanted o forms) t) (cond (last && leaves_open depth t) (Err (Misplaced (line_of t))) (cond (has_room depth forms t) (Ok tt) (Err (TooLarge (line_of t))))) (Err (Misplaced (line_of t)))
