-- Ramps: a line of cells for each column, and when a ramp is refused.
use Rattle.std.specs.Prelude.{ℕ, Bool, ◌&&◌, List, ℤ, pos, ◌+ℤ◌, ◌*ℤ◌, fold, Option, nat_le, slice_index_or}
use Rattle.std.specs.Int.{int_max, int_min}
use Rattle.refusals.specs.Rules.{refusal, unless}
use Rattle.refusals.specs.declared.Refusal.{Refusal}
use Rattle.sources.specs.Indexed.{each, listed}
use Rattle.sources.specs.Shapes.{range, near, sized}
use Rattle.sources.specs.Source.{Meaning}
use Rattle.sources.specs.Tabled.{tabled}
use Rattle.sources.specs.declared.ramps.Line.{Line}
use Rattle.sources.specs.declared.shapes.Range.{Range}

-- the cell of a line at row i
abbrev pub cell_at : Line → ℕ → ℤ
cell_at l i = l.start +ℤ (l.step *ℤ pos i)

-- the line of column j
abbrev pub line : List Line → ℕ → Line
line ls j = slice_index_or ls j (record { start = pos 0; step = pos 0 })

-- from the least of the n cells to the greatest
abbrev pub range_of : Line → ℕ → Range
range_of l n = range (fold int_min (cell_at l 0) (listed (cell_at l) n)) (fold int_max (cell_at l 0) (listed (cell_at l) n))

abbrev pub ramp_meaning : (width count : ℕ) → List Line → Meaning
ramp_meaning width count ls = tabled width count count (λ j. range_of (line ls j) count) (λ i j. cell_at (line ls j) i)

-- start, step and each of the n cells are what a column may hold
abbrev pub line_sound : ℕ → Line → Bool
line_sound n l = near l.start && (near l.step && each (λ i. near (cell_at l i)) n)

abbrev pub lines_sound : (width count : ℕ) → List Line → Bool
lines_sound width count ls = sized width count (λ j. line_sound count (line ls j))

abbrev pub ramp_rule : (width count : ℕ) → List Line → Option Refusal
ramp_rule width count ls = unless (nat_le 1 count && lines_sound width count ls) (refusal 14 0 0)
