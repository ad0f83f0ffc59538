use Rattle.std.proofs.Common.{◌≡◌, ◌+◌, ◌≤◌, length}
use Rattle.reading.proofs.text.fill.Given as goal
use Rattle.reading.specs.Progress.{Balanced, state}
use Rattle.reading.specs.Text.{beginning, lines_of, lines_read}

-- the lines that are left, from here, give the same answer as all of them
abbrev pub invariant-loop-rest : goal.invariant-loop-rest
invariant-loop-rest l =
    (lines_read (state l.progress l.table) (l.line + 1) (lines_of l.rest) ≡ lines_read beginning 1 (lines_of l.text))
    × Balanced (state l.progress l.table)
    × (l.line + length l.rest ≤ length l.text)

abbrev pub decreases-loop-rest : goal.decreases-loop-rest
decreases-loop-rest l = length l.rest
