use Rattle.std.proofs.Common.{◌+◌, length}
use Rattle.bags.proofs.Merges.{Left}
use Rattle.bags.proofs.merging.shared_rows.Given as goal

abbrev pub invariant-loop-xs : goal.invariant-loop-xs
invariant-loop-xs l = Left l.fn.xs l.fn.ys l.count l.xs l.ys

abbrev pub decreases-loop-xs : goal.decreases-loop-xs
decreases-loop-xs l = length l.xs + length l.ys
