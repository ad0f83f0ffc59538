-- A source given by functions: the range of each column, and the cell at each row and column.
use Rattle.std.specs.Prelude.{◌≡◌, ℕ, zero, suc, ◌+◌, ◌<◌, ◌≤◌, true, [], map, ℤ, pos, slice_index_or}
use Rattle.std.proofs.Common.{⊎_elim, ◌∙◌, ap, arith}
use Rattle.std.proofs.lemmas.List.FromFn.{length-map-range_with_len}
use Rattle.std.proofs.lemmas.Bool.{cases_lt}
use Rattle.std.specs.List.{range_with_len}
use Rattle.sources.specs.Indexed.{listed, listed_at, listed_past, all_listed}
use Rattle.sources.specs.Shapes.{sound, within, max_width, max_rows}
use Rattle.sources.specs.Source.{Row, Meaning, Lawful, Fits, count_of, cell_of}
use Rattle.sources.specs.declared.shapes.Range.{Range}

abbrev pub tabled : (width limit count : ℕ) → (ℕ → Range) → (ℕ → ℕ → ℤ) → Meaning
tabled width limit count ranges cell = record { width = width; limit = limit; columns = listed ranges width; rows = listed (λ i. listed (cell i) width) count }

fits_listed : (ranges : ℕ → Range) (cells : ℕ → ℤ) (a n : ℕ) → ((k : ℕ) → a ≤ k → k < a + n → within (ranges k) (cells k) ≡ true) → Fits (map ranges (range_with_len a n)) (map cells (range_with_len a n))
fits_listed ranges cells a zero h = tt
fits_listed ranges cells a (suc n) h = (h a (omega arith) (omega arith), fits_listed ranges cells (a + 1) n (λ k low high. h k (omega arith) (omega arith)))

module _ (width limit count : ℕ) (ranges : ℕ → Range) (cell : ℕ → ℕ → ℤ) where
  pub tabled_count : count_of (tabled width limit count ranges cell) ≡ count
  tabled_count = length-map-range_with_len (λ i. listed (cell i) width) 0 count

  pub tabled_cell : (i j : ℕ) → i < count → j < width → cell_of (tabled width limit count ranges cell) i j ≡ cell i j
  tabled_cell i j h k = ap (λ (r : Row). slice_index_or r j (pos 0)) (listed_at (λ i. listed (cell i) width) count i [] h) ∙ listed_at (cell i) width j (pos 0) k

  pub tabled_missing : (i j : ℕ) → (i < count → j < width → ⊥) → cell_of (tabled width limit count ranges cell) i j ≡ pos 0
  tabled_missing i j gone =
      ⊎_elim
      (λ h. ap (λ (r : Row). slice_index_or r j (pos 0)) (listed_at row count i [] h) ∙ listed_past (cell i) width j (pos 0) (⊎_elim (λ k. absurd (gone h k)) (λ k. k) (cases_lt j width)))
      (λ h. ap (λ (r : Row). slice_index_or r j (pos 0)) (listed_past row count i [] h))
      (cases_lt i count)
    where
      row : ℕ → Row
      row i = listed (cell i) width

  pub tabled_lawful : 1 ≤ width → width ≤ max_width → limit ≤ max_rows → count ≤ limit → ((j : ℕ) → j < width → sound (ranges j) ≡ true) → ((i j : ℕ) → i < count → j < width → within (ranges j) (cell i j) ≡ true) → Lawful (tabled width limit count ranges cell)
  tabled_lawful some few rows in_limit columns cells =
      record {
        some_width = some;
        few_columns = few;
        few_rows = rows;
        all_columns = length-map-range_with_len ranges 0 width;
        columns_sound = all_listed (λ c. sound c ≡ true) ranges 0 width (λ j _ h. columns j (omega arith));
        in_limit = rw tabled_count in_limit;
        rows_fit = all_listed (Fits (listed ranges width)) (λ i. listed (cell i) width) 0 count (λ i _ h. fits_listed ranges (cell i) 0 width (λ j _ k. cells i j (omega arith) (omega arith)));
      }
