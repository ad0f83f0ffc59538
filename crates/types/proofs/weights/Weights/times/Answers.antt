use Rattle.std.proofs.Common.{◌≡◌, ℕ, ◌*◌, List, length, drop, replicate, ap, ◌∙◌, arith}
use Rattle.rules.specs.Amounts.{all_added, all_at_most, all_times}
use Rattle.rules.specs.Typing.{sensitivity_bound}
use Rattle.std.proofs.lemmas.List.{length-drop, length-map}
use Rattle.stacks.specs.Stack.{spare, stacked}
use Rattle.types.proofs.Scopes.{length_scope}
use Rattle.types.proofs.Sensitivities.{zeros_added, zeros_at_most}
use Rattle.types.proofs.weights.Weights.times.Goals as goal

times_is : (n : ℕ) (zs rest ws : List ℕ) → zs ≡ replicate n 0 → length rest ≡ n → ws ≡ all_added zs rest → ws ≡ rest
times_is n zs rest ws none as_long is = is ∙ ap (λ ys. all_added ys rest) none ∙ zeros_added n rest as_long

pub returns : goal.returns
returns c =
    λ v small.
    let ws = c.args.self.now in
    let rest = all_times c.args.factor (drop (spare v) ws.values) in
    let as_long : length rest ≡ length (stacked v) = omega (arith, length-map (drop (spare v) ws.values) (λ x. c.args.factor * x), length-drop (spare v) ws.values, ws.full, length_scope v) in
    let none = ap (all_at_most sensitivity_bound) (c.none.ensures v) ∙ zeros_at_most sensitivity_bound (length (stacked v)) in
    times_is (length (stacked v)) _ rest _ (c.none.ensures v) as_long (c.with_times.ensures (spare v) none small)
