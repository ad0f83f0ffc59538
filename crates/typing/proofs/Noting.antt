-- Notes that are written behind others, and in front of others.
use Rattle.std.proofs.Common.{◌≡◌, ℕ, ◌+◌, ◌<◌, ◌≤◌, List, [], ◌∷◌, ◌++◌, length, get_or, take, drop, set, sym, ap, ◌∙◌, ap₂, append_assoc, arith}
use Rattle.std.proofs.lemmas.List.{drop_at, drop-append-le, drop-drop, length-append, length-take-le, set_at, take-append-drop, take-append-le, take_at, take_more}
use Rattle.typing.specs.Notes.{blank_note, noted_at}
use Rattle.typing.specs.declared.note.Note.{Note}

module _ (before : List Note) (o : ℕ) where
  pub noted_none : noted_at before o [] ≡ before
  noted_none =
      let end : o + 0 ≡ o = omega arith in
      ap (λ (i : ℕ). take o before ++ drop i before) end ∙ take-append-drop o before

  pub noted_more : (i : ℕ) (xs ys : List Note) → i ≡ o + length xs → o ≤ length before → noted_at (noted_at before o xs) i ys ≡ noted_at before o (xs ++ ys)
  noted_more i xs ys e h =
      let p = take o before in
      let rest = drop (o + length xs) before in
      let long : length (p ++ xs) ≡ i = omega (arith, length-append p xs, length-take-le o before h) in
      let split : p ++ (xs ++ rest) ≡ p ++ xs ++ rest = sym (append_assoc p xs rest) in
      let front : take i (p ++ (xs ++ rest)) ≡ p ++ xs = ap (take i) split ∙ take_at (p ++ xs) rest i long in
      let end : (o + length xs) + length ys ≡ o + length (xs ++ ys) = omega (arith, length-append xs ys) in
      let back : drop (i + length ys) (p ++ (xs ++ rest)) ≡ drop (o + length (xs ++ ys)) before =
      sym (drop-drop (length ys) i (p ++ (xs ++ rest))) ∙ ap (drop (length ys)) (ap (drop i) split ∙ drop_at (p ++ xs) rest i long) ∙ drop-drop (length ys) (o + length xs) before ∙ ap (λ (k : ℕ). drop k before) end in
      ap₂ (λ (f b : List Note). f ++ (ys ++ b)) front back ∙ append_assoc p xs (ys ++ drop (o + length (xs ++ ys)) before) ∙ ap (λ (l : List Note). p ++ l) (sym (append_assoc xs ys (drop (o + length (xs ++ ys)) before)))

  -- the note of a form, in front of those of its parts
  pub noted_own : (x : Note) (xs : List Note) → o < length before → set (noted_at before (o + 1) xs) o x ≡ noted_at before o (x ∷ xs)
  noted_own x xs h =
      let p = take o before in
      let y = get_or before o blank_note in
      let rest = xs ++ drop (o + 1 + length xs) before in
      let end : o + 1 + length xs ≡ o + length (x ∷ xs) = omega arith in
      ap (λ (l : List Note). set (l ++ rest) o x) (take_more before o blank_note h) ∙ ap (λ (l : List Note). set l o x) (append_assoc p (y ∷ []) rest) ∙ set_at p y rest x o (length-take-le o before (omega arith)) ∙ ap (λ (i : ℕ). p ++ (x ∷ (xs ++ drop i before))) end

  -- the notes of a form, whose own note is the first
  pub noted_whole : (x : Note) (ns now_noted : List Note) → o < length before → ns ≡ x ∷ drop 1 ns → now_noted ≡ noted_at before (o + 1) (drop 1 ns) → (i : ℕ) (y : Note) → i ≡ o → y ≡ x → set now_noted i y ≡ noted_at before o ns
  noted_whole x ns now_noted h own e i y at same =
      ap (λ (l : List Note). set l i y) e ∙ ap₂ (set (noted_at before (o + 1) (drop 1 ns))) at same ∙ noted_own x (drop 1 ns) h ∙ ap (noted_at before o) (sym own)

  -- first xs, then ys behind them
  pub noted_both : (m : ℕ) (xs ys between now_noted : List Note) → between ≡ noted_at before o xs → now_noted ≡ noted_at between (o + m) ys → length xs ≡ m → o ≤ length before → now_noted ≡ noted_at before o (xs ++ ys)
  noted_both m xs ys between now_noted e f long h = f ∙ ap (λ (l : List Note). noted_at l (o + m) ys) e ∙ noted_more (o + m) xs ys (omega arith) h

-- Notes that all stand in the front part of the places are written there.
pub noted_in_front : (front rest : List Note) (o : ℕ) (ns : List Note) → o + length ns ≤ length front → noted_at (front ++ rest) o ns ≡ noted_at front o ns ++ rest
noted_in_front front rest o ns fits =
    ap₂ (λ (a b : List Note). a ++ (ns ++ b)) (take-append-le o front rest (omega arith)) (drop-append-le (o + length ns) front rest fits)
    ∙ simp append_assoc
