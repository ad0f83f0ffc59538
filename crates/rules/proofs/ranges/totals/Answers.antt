use Rattle.std.proofs.Common.{◌≤◌, pos, ap, ◌∙◌, ap₂, mul-le-mul, arith, w64}
use Rattle.std.proofs.lemmas.Int.{to_z-of_z, to_z_pos}
use Rattle.sources.specs.Shapes.{range}
use Rattle.sources.specs.Unions.{hull}
use Rattle.rules.proofs.Products.{product_kept}
use Rattle.rules.proofs.ranges.totals.Goals as goal
use Rattle.rules.specs.Ranges.{most_rows}

pub returns : goal.returns
returns c =
    let few : c.args.rows ≤ most_rows = c.requires.rows in
    let rows = to_z_pos w64 c.args.rows (omega arith) in
    let low = product_kept _ _ (pos c.args.rows) c.args.low rows (to_z-of_z w64 c.args.low c.ranges.low) (omega (arith, mul-le-mul few c.requires.low)) in
    let high = product_kept _ _ (pos c.args.rows) c.args.high rows (to_z-of_z w64 c.args.high c.ranges.high) (omega (arith, mul-le-mul few c.requires.high)) in
    c.hull.ensures ∙ ap (hull (range (pos 0) (pos 0))) (ap₂ range low high)
