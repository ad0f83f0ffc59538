-- Ranges of values: what an operation makes of the ranges of its parts.
use Rattle.std.specs.Prelude.{ℕ, ◌*◌, Bool, ◌&&◌, ℤ, pos, ◌+ℤ◌, ◌-ℤ◌, ◌*ℤ◌, nat_le, unsigned_abs}
use Rattle.sources.specs.Shapes.{max_rows, range}
use Rattle.sources.specs.declared.shapes.Range.{Range}
use Rattle.std.specs.Int.{int_max, int_min}
use Rattle.trees.specs.Meaning.{clipped, eq_z}
use Rattle.trees.specs.Size.{max_forms}

abbrev pub point : ℤ → Range
point n = range n n

abbrev pub sums : Range → Range → Range
sums a b = range (a.low +ℤ b.low) (a.high +ℤ b.high)

abbrev pub differences : Range → Range → Range
differences a b = range (a.low -ℤ b.high) (a.high -ℤ b.low)

-- from the least to the greatest of the four products of ends
abbrev pub products : Range → Range → Range
products a b =
    let ll : ℤ = a.low *ℤ b.low in
    let lh : ℤ = a.low *ℤ b.high in
    let hl : ℤ = a.high *ℤ b.low in
    let hh : ℤ = a.high *ℤ b.high in
    range (int_min (int_min ll lh) (int_min hl hh)) (int_max (int_max ll lh) (int_max hl hh))

-- n times the ends, in order
abbrev pub scaled : ℤ → Range → Range
scaled n a = range (int_min (n *ℤ a.low) (n *ℤ a.high)) (int_max (n *ℤ a.low) (n *ℤ a.high))

abbrev pub lesser : Range → Range → Range
lesser a b = range (int_min a.low b.low) (int_min a.high b.high)

abbrev pub greater : Range → Range → Range
greater a b = range (int_max a.low b.low) (int_max a.high b.high)

abbrev pub clips : ℤ → ℤ → Range → Range
clips lo hi a = range (clipped lo hi a.low) (clipped lo hi a.high)

-- no bag has more rows: it has at most as many leaves as there are forms
abbrev pub most_rows : ℕ
most_rows = max_forms * max_rows

-- up to n rows are counted, or add something from lo to hi each
abbrev pub counts : ℕ → Range
counts n = range (pos 0) (pos n)

abbrev pub totals : ℕ → ℤ → ℤ → Range
totals n lo hi = range (int_min (pos 0) (pos n *ℤ lo)) (int_max (pos 0) (pos n *ℤ hi))

-- both ends are within n of 0
abbrev pub bounded : ℕ → Range → Bool
bounded n a = nat_le (unsigned_abs a.low) n && nat_le (unsigned_abs a.high) n

-- both ends are the same
abbrev pub same_range : Range → Range → Bool
same_range a b = eq_z a.low b.low && eq_z a.high b.high
