-- The limits of tables, rows and values, each by one name.
use Rattle.std.specs.Prelude.{ℕ, ◌^◌}

-- how many entries a table holds at most
abbrev pub room : ℕ
room = 64

-- how many cells a row has in code
abbrev pub cells : ℕ
cells = 6

-- how far from 0 a term's value may lie
abbrev pub term_bound : ℕ
term_bound = 10 ^ 9

-- how far from 0 a number's value may lie
abbrev pub number_bound : ℕ
number_bound = 10 ^ 12
