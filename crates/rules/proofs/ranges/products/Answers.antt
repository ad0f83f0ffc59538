use Rattle.std.proofs.Common.{ℤ, ap, ◌∙◌, ap₂, w64, rules}
use Rattle.std.proofs.lemmas.Int.{to_z-of_z}
use Rattle.sources.specs.Unions.{hull}
use Rattle.rules.proofs.ranges.products.Goals as goal
use Rattle.rules.specs.Ranges.{scaled}

pub returns : goal.returns
returns c =
    c.hull.ensures
    ∙ ap₂ hull
    (c.multiples.ensures ∙ ap (λ (x : ℤ). scaled x c.args.b) (to_z-of_z w64 c.args.a.low (search rules)))
    (c.multiples-2.ensures ∙ ap (λ (x : ℤ). scaled x c.args.b) (to_z-of_z w64 c.args.a.high (search rules)))
