use Rattle.std.proofs.Common.{◌∙◌, ap₂, w64, rules}
use Rattle.std.proofs.lemmas.Int.{to_z-of_z}
use Rattle.std.specs.Int.{int_max, int_min}
use Rattle.sources.specs.Shapes.{range}
use Rattle.rules.proofs.Products.{product_kept}
use Rattle.rules.proofs.ranges.multiples.Goals as goal

pub returns : goal.returns
returns c =
    let factor = to_z-of_z w64 c.args.factor c.ranges.factor in
    let low = product_kept _ _ c.args.factor c.args.a.low factor (to_z-of_z w64 c.args.a.low (search rules)) c.requires.low in
    let high = product_kept _ _ c.args.factor c.args.a.high factor (to_z-of_z w64 c.args.a.high (search rules)) c.requires.high in
    ap₂ range (to_z-of_z w64 c.min.result (search rules) ∙ c.min.ensures.value ∙ ap₂ int_min low high) (to_z-of_z w64 c.max.result (search rules) ∙ c.max.ensures.value ∙ ap₂ int_max low high)
