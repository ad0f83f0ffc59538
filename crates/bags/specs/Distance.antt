-- How far two bags of rows are apart. A bag is a list of rows whose order does not count.
use Rattle.std.specs.Prelude.{◌≡◌, ℕ, ◌+◌, ◌-◌, ◌≤◌, min, Bool, not, List, [], ◌∷◌, ◌++◌, length, sum_by, count_by, filter}
use Rattle.std.specs.Cmp.Lexicographic.{pointwise}
use Rattle.std.specs.Ordering.{int_eq}
use Rattle.sources.specs.Source.{Row}

-- the same row: as many cells, and the same number in each
abbrev pub same : Row → Row → Bool
same = pointwise int_eq

-- how often a row stands in a bag
unfoldable pub times : Row → List Row → ℕ
times r xs = count_by (same r) xs

-- the different rows of a bag, each once
unfoldable pub different : List Row → List Row
different [] = []
different (x ∷ xs) = x ∷ filter (λ y. not (same x y)) (different xs)

-- the positive difference of two numbers
abbrev pub gap : ℕ → ℕ → ℕ
gap m n = (m - n) + (n - m)

-- over all different rows, the positive difference of their counts
unfoldable pub distance : List Row → List Row → ℕ
distance xs ys = sum_by (λ r. gap (times r xs) (times r ys)) (different (xs ++ ys))

-- over all different rows, what the first bag has more of each
unfoldable pub missing : List Row → List Row → ℕ
missing xs ys = sum_by (λ r. times r xs - times r ys) (different (xs ++ ys))

-- over all different rows, what both bags have of each
unfoldable pub shared : List Row → List Row → ℕ
shared xs ys = sum_by (λ r. min (times r xs) (times r ys)) (different (xs ++ ys))

-- n rows of the one bag pair off with n equal rows of the other, and what is left of both is their distance
pub record Pairs (n : ℕ) (xs ys : List Row) : Type 0 where
  pub of_first : n ≤ length xs
  pub of_second : n ≤ length ys
  pub left : distance xs ys ≡ (length xs - n) + (length ys - n)
