use Rattle.std.proofs.Common.{ap₂, arith}
use Rattle.std.proofs.lemmas.Int.{ints}
use Rattle.forms.specs.Limits.{number_bound}
use Rattle.sources.specs.Shapes.{range}
use Rattle.rules.proofs.Products.{ends_near}
use Rattle.rules.proofs.ranges.sums.Goals as goal

pub returns : goal.returns
returns c =
    let p = ends_near number_bound c.args.a c.requires.first in
    let q = ends_near number_bound c.args.b c.requires.second in
    ap₂ range (omega (arith, ints)) (omega (arith, ints))
