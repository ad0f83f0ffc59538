use Rattle.std.proofs.Common.{ap₂, arith}
use Rattle.std.proofs.lemmas.Int.{to_z-of_z}
use Rattle.sources.specs.Shapes.{range}
use Rattle.rules.proofs.ranges.clips.Goals as goal

pub returns : goal.returns
returns c = ap₂ range (grind (arith, to_z-of_z)) (grind (arith, to_z-of_z))
