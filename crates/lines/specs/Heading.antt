-- The word and the numbers of a line, from its spelling.
use Rattle.std.specs.Prelude.{ℕ, cond, List, [], ◌∷◌, length, ℤ, pos, Some, None, Ok, Err, Option, Result, ◌==◌}
use Rattle.trees.specs.declared.words.Word.{Word}
use Rattle.trees.specs.Words.{entry, word_spelled}
use Rattle.lines.specs.declared.fault.LineFault.{LineFault}
use Rattle.lines.specs.declared.fault.LineFault.TheVariants.{NotAHeading, NotANumber}
use Rattle.lines.specs.declared.heading.Heading.{Heading}
use Rattle.lines.specs.Number.{number_spelled}
use Rattle.lines.specs.Split.{fields, Spelling}

-- the pieces without their spaces
abbrev pub pieces_in : List ℕ → List (List ℕ)
pieces_in [] = []
pieces_in (c ∷ cs) = fields cs

abbrev pub paired : Option ℤ → Option ℤ → Option (ℤ × ℤ)
paired None o = None
paired (Some x) None = None
paired (Some x) (Some y) = Some (x, y)

-- the numbers of the first two pieces, 0 where there is no piece
abbrev pub numbers_read : List (List ℕ) → Option (ℤ × ℤ)
numbers_read [] = Some (pos 0, pos 0)
numbers_read (p ∷ []) = paired (number_spelled p) (Some (pos 0))
numbers_read (p ∷ q ∷ ps) = paired (number_spelled p) (number_spelled q)

abbrev pub numbered : ℕ → Word → Option (ℤ × ℤ) → Result Heading LineFault
numbered n w None = Err (NotANumber n)
numbered n w (Some x) = Ok (record { word = w; first = x.0; second = x.1 })

-- a word with as many pieces as it has numbers
abbrev pub with_numbers : ℕ → Option Word → List (List ℕ) → Result Heading LineFault
with_numbers n None ps = Err (NotAHeading n)
with_numbers n (Some w) ps = cond (length ps == (entry w).numbers) (numbered n w (numbers_read ps)) (Err (NotAHeading n))

abbrev pub heading_read : ℕ → Spelling → Result Heading LineFault
heading_read n s = with_numbers n (word_spelled s.word) (pieces_in s.pieces)
