-- Items and spare places together fill the array.
use Rattle.std.proofs.Common.{◌≡◌, ℕ, ◌+◌, length, arith, length-drop}
use Rattle.stacks.specs.Stack.{spare, stacked}
use Rattle.stacks.specs.declared.stack.Stack.{Stack}

pub length-stacked : {T : Type 0} {N : ℕ} (s : Stack T N) → length (stacked s) + spare s ≡ N
length-stacked s = omega (arith, length-drop s.first s.items, s.full, s.within)
