use Rattle.std.proofs.Common.{ℕ, ◌-◌, take, drop, ap, ◌∙◌, arith, length-drop, nat_le, rules, tests}
use Rattle.rules.specs.Amounts.{all_at_most}
use Rattle.std.proofs.lemmas.Iterator.{YieldsList-from_slice}
use Rattle.std.proofs.lemmas.Iterator.Search.{all_from_yields_List}
use Rattle.std.proofs.lemmas.List.{take_all}
use Rattle.types.proofs.weights.Weights.are_at_most.Goals as goal

pub returns : goal.returns
returns c =
    let n = c.args.bound in
    let xs = c.args.self.now.values in
    let first = c.spare.result in
    all_from_yields_List (λ x. nat_le x n) _ _ _ c.all.ensures.ran (YieldsList-from_slice (take (16 - first) (drop first xs)) c.iter.ensures.rest) (λ x b q k. search (rules, tests))
    ∙ ap (all_at_most n) (take_all (16 - first) (drop first xs) (omega (arith, length-drop first xs, c.args.self.now.full)))
    ∙ ap (λ (k : ℕ). all_at_most n (drop k xs)) c.spare.ensures
