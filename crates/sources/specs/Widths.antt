-- Every row of a source is as wide as the source.
use Rattle.std.specs.Prelude.{◌≡◌, ℕ, suc, ◌<◌, List, [], ◌∷◌, length, slice_index_or, refl}
use Rattle.std.proofs.Common.{◌∙◌, ap}
use Rattle.std.proofs.ByRecursion.{All-get_or, All-weaker}
use Rattle.std.specs.List.{AllByRecursion}
use Rattle.sources.specs.Source.{Fits, Lawful, Meaning, Row, count_of}
use Rattle.sources.specs.declared.shapes.Range.{Range}

fits_length : (cs : List Range) (r : Row) → Fits cs r → length r ≡ length cs
fits_length [] [] h = refl
fits_length [] (z ∷ zs) h = absurd h
fits_length (c ∷ cs) [] h = absurd h
fits_length (c ∷ cs) (z ∷ zs) h = ap suc (fits_length cs zs h.1)

module _ (m : Meaning) (law : Lawful m) where
  pub rows_wide : AllByRecursion (λ r. length r ≡ m.width) m.rows
  rows_wide = All-weaker (Fits m.columns) (λ r. length r ≡ m.width) (λ r h. fits_length m.columns r h ∙ law.all_columns) m.rows law.rows_fit

  pub row_wide : (i : ℕ) → i < count_of m → length (slice_index_or m.rows i []) ≡ m.width
  row_wide i h = All-get_or (λ r. length r ≡ m.width) m.rows i [] h rows_wide
