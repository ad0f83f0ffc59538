-- Tokens by what their parts point to.
use Rattle.std.specs.Prelude.{ℕ, List, Some, None, Ok, Err, Option, Result}
use Rattle.std.specs.Borrow.{Bor}
use Rattle.lines.specs.declared.fault.LineFault.{LineFault}
use Rattle.lines.specs.declared.heading.Heading.{Heading}
use Rattle.lines.specs.declared.token.Spelled.{Spelled}
use Rattle.lines.specs.declared.token.Token.{Token}
use Rattle.lines.specs.declared.token.Token.TheVariants.{Opening, Leaf, Closing}
use Rattle.lines.specs.Split.{Spelling, Found}

abbrev pub spelling : Spelled → Spelling
spelling s = record { word = s.word.now; pieces = s.pieces.now }

abbrev pub shown_token : Token Spelled → Token Spelling
shown_token (Opening s n) = Opening (spelling s) n
shown_token (Leaf s n) = Leaf (spelling s) n
shown_token (Closing n) = Closing n

abbrev pub shown : Option (Token Spelled × Bor (List ℕ)) → Found
shown None = None
shown (Some x) = Some (shown_token x.0, x.1.now)

abbrev pub shown_line : Result (Token Heading × Bor (List ℕ)) LineFault → Result (Token Heading × List ℕ) LineFault
shown_line (Ok x) = Ok (x.0, x.1.now)
shown_line (Err e) = Err e

abbrev pub shown_read : Result (Token Spelled × Bor (List ℕ)) LineFault → Result (Token Spelling × List ℕ) LineFault
shown_read (Ok x) = Ok (shown_token x.0, x.1.now)
shown_read (Err e) = Err e
