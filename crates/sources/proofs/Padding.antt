-- A row copied cell by cell into the front of an array of zeros.
use Rattle.std.proofs.Common.{◌≡◌, ℕ, ◌+◌, ◌-◌, ◌<◌, ◌≤◌, [], ◌∷◌, ◌++◌, length, get_or, take, drop, set, replicate, ℤ, pos, sym, ap, ◌∙◌, arith}
use Rattle.std.proofs.lemmas.List.{drop-replicate, length-take-le, take_all, take_more, take_more_set}
use Rattle.sources.specs.Shapes.{max_width}
use Rattle.sources.specs.Source.{Row, padded}

abbrev pub zeros : Row
zeros = replicate max_width (pos 0)

-- the first j cells are copied
module _ (r cells : Row) (w j : ℕ) (wide : length r ≡ w) (few : w ≤ max_width) (long : length cells ≡ length (take w zeros)) (copied : take j cells ≡ take j r) where
  front : length (take w zeros) ≡ w
  front = length-take-le w zeros few

  pub cell_copied : (z : ℤ) → j < length (take w zeros) → z ≡ get_or r j (pos 0) → take (j + 1) (set cells j z) ≡ take (j + 1) r
  cell_copied z h here = take_more_set cells j z (omega arith) ∙ (λ i. copied i ++ here i ∷ []) ∙ sym (take_more r j (pos 0) (omega (arith, front)))

  pub row_copied : length (take w zeros) ≤ j → cells ++ drop w zeros ≡ padded r
  row_copied h =
      let all : cells ≡ r = sym (take_all j cells (omega arith)) ∙ copied ∙ take_all j r (omega (arith, front)) in
      (λ i. all i ++ drop-replicate w max_width (pos 0) i) ∙ ap (λ n. r ++ replicate (max_width - n) (pos 0)) (sym wide)
