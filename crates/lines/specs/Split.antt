-- How a line is split: `)` alone, or `(`, a word of letters, pieces and perhaps `)`; then the line end.
use Rattle.std.specs.Prelude.{ℕ, ◌+◌, Bool, cond, not, ◌&&◌, ◌||◌, List, [], ◌∷◌, length, take, drop, Some, None, Ok, Err, Option, Result, ◌==◌}
use Rattle.std.specs.Char.{is_ascii_lowercase}
use Rattle.std.specs.List.{list_all, prefix_len, slice_split, take_while}
use Rattle.lines.specs.declared.fault.LineFault.{LineFault}
use Rattle.lines.specs.declared.fault.LineFault.TheVariants.{NotALine}
use Rattle.lines.specs.declared.token.Token.{Token}
use Rattle.lines.specs.declared.token.Token.TheVariants.{Opening, Leaf, Closing}

abbrev pub letter : ℕ → Bool
letter c = is_ascii_lowercase c

-- neither a bracket nor a line end
abbrev pub inner : ℕ → Bool
inner c = not (c == 40 || c == 41 || c == 10)

abbrev pub space : ℕ → Bool
space c = c == 32

-- what stands before, between and behind the spaces
abbrev pub fields : List ℕ → List (List ℕ)
fields bs = slice_split space bs

-- none is empty
abbrev pub filled : List (List ℕ) → Bool
filled fs = list_all (λ f. not (length f == 0)) fs

-- how many bytes come before a bracket or a line end, if none of their fields is empty
abbrev pub filled_run : List ℕ → Option ℕ
filled_run bs = cond (filled (fields (take_while inner bs))) (Some (prefix_len inner bs)) None

abbrev pub one_more : Option ℕ → Option ℕ
one_more None = None
one_more (Some n) = Some (n + 1)

-- how many bytes of pieces come first: each is one space and at least one byte other than space, bracket and line end
abbrev pub pieces_run : List ℕ → Option ℕ
pieces_run [] = Some 0
pieces_run (c ∷ cs) = cond (c == 32) (one_more (filled_run cs)) (Some 0)

-- a byte, by the one before it, goes on with the pieces: it is neither a bracket nor a line end, nor a space behind a space
abbrev pub joins : ℕ × ℕ → Bool
joins x = inner x.1 && not (space x.0 && space x.1)

-- the word, and the pieces with their spaces
pub record Spelling : Type 0 where
  pub word : List ℕ
  pub pieces : List ℕ

abbrev pub Found : Type 0
Found = Option (Token Spelling × List ℕ)

abbrev pub leaf_ended : ℕ → Spelling → List ℕ → Found
leaf_ended n s [] = None
leaf_ended n s (c ∷ cs) = cond (c == 10) (Some (Leaf s n, cs)) None

-- a line end, perhaps with `)` before it, and then the next lines
abbrev pub ended : ℕ → Spelling → List ℕ → Found
ended n s [] = None
ended n s (c ∷ cs) = cond (c == 10) (Some (Opening s n, cs)) (cond (c == 41) (leaf_ended n s cs) None)

abbrev pub with_pieces : ℕ → List ℕ → List ℕ → Option ℕ → Found
with_pieces n w bs None = None
with_pieces n w bs (Some k) = ended n (record { word = w; pieces = take k bs }) (drop k bs)

abbrev pub with_word : ℕ → List ℕ → List ℕ → Found
with_word n [] bs = None
with_word n (c ∷ cs) bs = with_pieces n (c ∷ cs) bs (pieces_run bs)

-- what stands behind `(`
abbrev pub form_token : ℕ → List ℕ → Found
form_token n bs = with_word n (take (prefix_len letter bs) bs) (drop (prefix_len letter bs) bs)

abbrev pub closed : ℕ → List ℕ → Found
closed n [] = None
closed n (c ∷ cs) = cond (c == 10) (Some (Closing n, cs)) None

-- the token of the first line, which is line n, and the bytes behind that line
abbrev pub token_at : ℕ → List ℕ → Found
token_at n [] = None
token_at n (c ∷ cs) = cond (c == 41) (closed n cs) (cond (c == 40) (form_token n cs) None)

abbrev pub or_no_line : ℕ → Found → Result (Token Spelling × List ℕ) LineFault
or_no_line n None = Err (NotALine n)
or_no_line n (Some x) = Ok x

abbrev pub token_read : ℕ → List ℕ → Result (Token Spelling × List ℕ) LineFault
token_read n bs = or_no_line n (token_at n bs)
