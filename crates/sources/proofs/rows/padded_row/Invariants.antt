use Rattle.std.proofs.Common.{◌≡◌, [], get_or, take}
use Rattle.sources.proofs.rows.padded_row.Given as goal

-- the cells before this column are the row's
abbrev pub invariant-loop-column : goal.invariant-loop-column
invariant-loop-column g l = take l.column l.cell-items ≡ take l.column (get_or (g.S.Source.meaning l.source).rows l.row [])
