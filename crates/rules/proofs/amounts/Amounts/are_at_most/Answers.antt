use Rattle.std.proofs.Common.{◌&&◌, leb, refl, ap, ◌∙◌, rules, tests}
use Rattle.std.proofs.Math.Bool.{and-true}
use Rattle.std.proofs.lemmas.Iterator.{YieldsList-from_range}
use Rattle.std.proofs.lemmas.Iterator.Search.{all_from_yields_List}
use Rattle.rules.specs.Amounts.{amount_at}
use Rattle.rules.proofs.amounts.Amounts.are_at_most.Goals as goal

pub returns : goal.returns
returns c =
    let a = c.args.self in
    let n = c.args.bound in
    all_from_yields_List (λ i. leb (amount_at a i) n) _ _ c.all.result c.all.ensures.ran (YieldsList-from_range 0 4 4 refl refl) (λ x b q k. search (rules, tests))
    ∙ ap (λ b. leb a.source_0 n && (leb a.source_1 n && (leb a.setting_0 n && b))) (and-true (leb a.setting_1 n))
