-- What a line says, from its bytes; and the law that these are the bytes of a line's written form.
use Rattle.std.specs.Prelude.{◌≡◌, ℕ, ◌≤◌, List, [], ◌∷◌, ◌++◌, length, take, ℤ, Some, None, Ok, Err, Option, Result, unsigned_abs}
use Rattle.std.specs.List.{AllByRecursion}
use Rattle.trees.specs.declared.words.Word.{Word}
use Rattle.trees.specs.Size.{literal_bound}
use Rattle.trees.specs.Words.{entry}
use Rattle.trees.specs.Written.{Line, line_bytes}
use Rattle.trees.specs.Written.Line.{opening, leaf, closing}
use Rattle.lines.specs.declared.fault.LineFault.{LineFault}
use Rattle.lines.specs.declared.heading.Heading.{Heading}
use Rattle.lines.specs.declared.token.Token.{Token}
use Rattle.lines.specs.declared.token.Token.TheVariants.{Opening, Leaf, Closing}
use Rattle.lines.specs.Heading.{heading_read}
use Rattle.lines.specs.Split.{Spelling, token_read}

-- f is what follows a success
abbrev pub after : {X Y E : Type 0} → Result X E → (X → Result Y E) → Result Y E
after (Ok x) f = f x
after (Err e) f = Err e

abbrev pub token_heading : Token Spelling → Result (Token Heading) LineFault
token_heading (Opening s n) = after (heading_read n s) (λ h. Ok (Opening h n))
token_heading (Leaf s n) = after (heading_read n s) (λ h. Ok (Leaf h n))
token_heading (Closing n) = Ok (Closing n)

-- the first line, which is line n, and the bytes behind it
abbrev pub line_read : ℕ → List ℕ → Result (Token Heading × List ℕ) LineFault
line_read n bs = after (token_read n bs) (λ x. after (token_heading x.0) (λ t. Ok (t, x.1)))

-- the numbers that the word has
abbrev pub numbers_in : Heading → List ℤ
numbers_in h = take (entry h.word).numbers (h.first ∷ h.second ∷ [])

abbrev pub as_line : Token Heading → Line
as_line (Opening h n) = opening h.word (numbers_in h)
as_line (Leaf h n) = leaf h.word (numbers_in h)
as_line (Closing n) = closing

-- as many numbers as the word has, each within the bound
abbrev pub Counted : Word → List ℤ → Type 0
Counted w ns = (length ns ≡ (entry w).numbers) × AllByRecursion (λ z. unsigned_abs z ≤ literal_bound) ns

abbrev pub Proper : Line → Type 0
Proper (opening w ns) = Counted w ns
Proper (leaf w ns) = Counted w ns
Proper closing = Unit {0}

abbrev pub told_line : Result (Token Heading × List ℕ) LineFault → Option (Line × List ℕ)
told_line (Ok x) = Some (as_line x.0, x.1)
told_line (Err e) = None

-- r is a line l and the bytes behind it exactly when bs is l in its written form, with these bytes behind it
abbrev pub Tells : List ℕ → Result (Token Heading × List ℕ) LineFault → Type 0
Tells bs r = (l : Line) (rest : List ℕ) → (told_line r ≡ Some (l, rest) → (bs ≡ line_bytes l ++ rest) × Proper l) × (bs ≡ line_bytes l ++ rest → Proper l → told_line r ≡ Some (l, rest))
