use Rattle.std.proofs.Common.{◌≡◌, ◌≤◌, drop}
use Rattle.lines.proofs.number.value.Given as goal
use Rattle.lines.specs.Number.{value_from}

-- the digits that are left, behind the number so far, give the same value as all of them
abbrev pub invariant-loop-digit : goal.invariant-loop-digit
invariant-loop-digit l = (value_from l.n (drop l.digit-index l.digits) ≡ value_from 0 l.digits) × (l.n ≤ 1_000_000)
