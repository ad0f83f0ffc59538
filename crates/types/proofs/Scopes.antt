-- How many variables are in scope.
use Rattle.std.proofs.Common.{◌≡◌, ◌-◌, length, arith}
use Rattle.sources.specs.declared.shapes.Range.{Range}
use Rattle.stacks.proofs.Room.{length-stacked}
use Rattle.stacks.specs.Stack.{spare, stacked}
use Rattle.stacks.specs.declared.stack.Stack.{Stack}
use Rattle.trees.specs.Size.{max_depth}

pub length_scope : (v : Stack Range max_depth) → length (stacked v) ≡ max_depth - spare v
length_scope v = omega (arith, length-stacked v)
