-- Which notes are blank, and how kinds are shown.
use Rattle.std.specs.Prelude.{ℕ, Bool, List, Option, Some, None, codes, is_none}
use Rattle.trees.specs.Kinds.{printed}
use Rattle.trees.specs.declared.Kind.{Kind}
use Rattle.typing.specs.declared.note.Note.{Note}

abbrev pub blank : Note → Bool
blank n = is_none n.kind

-- the word of a kind, and `blank` where there is none
abbrev pub word_of : Option Kind → List ℕ
word_of None = codes "blank"
word_of (Some k) = printed k
