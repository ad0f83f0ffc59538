-- The written form of a tree: its lines, and the bytes of each line.
use Rattle.std.specs.Prelude.{◌≡◌, ℕ, suc, pred, ◌-◌, ◌^◌, max, List, [], ◌∷◌, ◌++◌, ℤ, pos, negsuc, codes}
use Rattle.std.specs.List.{flat_map}
use Rattle.std.specs.Fmt.{signed_decimal}
use Rattle.trees.specs.declared.Kind.{Kind}
use Rattle.trees.specs.declared.words.Word.{Word}
use Rattle.trees.specs.Fold.{fold}
use Rattle.trees.specs.Size.{size, depth, numbers, NumbersWithin}
use Rattle.trees.specs.Tree.{Tree, any}
use Rattle.trees.specs.Tree.Tree.{bag, keep, col, lit, less, count}
use Rattle.trees.specs.Words.{entry}

-- a line opens a form that has parts, is a whole form without parts, or closes the form last opened
pub data Line : Type 0 where
  opening : Word → List ℤ → Line
  leaf : Word → List ℤ → Line
  closing : Line

abbrev pub line_numbers : Line → List ℤ
line_numbers (opening w ns) = ns
line_numbers (leaf w ns) = ns
line_numbers closing = []

-- byte 10 ends a line
abbrev pub line_end : List ℕ
line_end = 10 ∷ []

-- a form's lines, from those of its parts
abbrev pub form_lines : Word → List ℤ → List (List Line) → List Line
form_lines w ns [] = leaf w ns ∷ []
form_lines w ns (p ∷ ps) = opening w ns ∷ (flat_map (λ ls. ls) (p ∷ ps) ++ closing ∷ [])

abbrev pub lines : {k : Kind} → Tree k → List Line
lines t = fold form_lines t

-- the word, and each number after one space in decimal
abbrev pub heading : Word → List ℤ → List ℕ
heading w ns = (entry w).spelling ++ flat_map (λ n. codes " " ++ signed_decimal n) ns

-- the bytes of a line, with its line end
abbrev pub line_bytes : Line → List ℕ
line_bytes (opening w ns) = codes "(" ++ (heading w ns ++ line_end)
line_bytes (leaf w ns) = codes "(" ++ (heading w ns ++ (codes ")" ++ line_end))
line_bytes closing = codes ")" ++ line_end

abbrev pub written : {k : Kind} → Tree k → List ℕ
written t = flat_map line_bytes (lines t)

-- how many rows of source 0 have less than -5 in column 1
abbrev pub WrittenExample : Type 0
WrittenExample =
    written (count (keep (bag (pos 0)) (less (col (pos 1)) (lit (negsuc 4)))))
    ≡ codes "(count\n(keep\n(bag 0)\n(less\n(col 1)\n(lit -5)\n)\n)\n)\n"

-- Two trees with the same written form are the same tree, of the same kind. Their numbers fit 64 bits: `signed_decimal` writes at most 64 digits.
abbrev pub WrittenOnce : Type 0
WrittenOnce = (k l : Kind) (t : Tree k) (u : Tree l) → NumbersWithin (2 ^ 63 - 1) t → NumbersWithin (2 ^ 63 - 1) u → written t ≡ written u → any t ≡ any u

-- how many forms begin in these lines
abbrev pub forms_in : List Line → ℕ
forms_in [] = 0
forms_in (opening w ns ∷ ls) = suc (forms_in ls)
forms_in (leaf w ns ∷ ls) = suc (forms_in ls)
forms_in (closing ∷ ls) = forms_in ls

-- the depth of the deepest form that begins in these lines, where n forms are open before them
abbrev pub deepest : ℕ → List Line → ℕ
deepest n [] = 0
deepest n (opening w ns ∷ ls) = max (suc n) (deepest (suc n) ls)
deepest n (leaf w ns ∷ ls) = max (suc n) (deepest n ls)
deepest n (closing ∷ ls) = deepest (pred n) ls

-- The lines of a tree tell its size, its depth and its numbers.
abbrev pub ToldByLines : Type 0
ToldByLines = (k : Kind) (t : Tree k) → (size t ≡ forms_in (lines t)) × (depth t ≡ deepest 0 (lines t)) × (numbers t ≡ flat_map line_numbers (lines t))
