use Rattle.std.proofs.Common.{◌≡◌, ℕ, ◌+◌, ◌-◌, ◌*◌, ◌^◌, ◌<◌, min, length, get_or, drop, ◌∙◌, arith, length-drop, rules, tests}
use Rattle.rules.specs.Typing.{sensitivity_bound}
use Rattle.std.proofs.lemmas.List.{get_or-drop}
use Rattle.std.proofs.lemmas.Nat.{mul-le}
use Rattle.types.proofs.Columns.{made_at}
use Rattle.types.proofs.Sensitivities.{at_most_from, sums_from}
use Rattle.types.proofs.weights.Weights.with_times.Goals as goal

pub returns : goal.returns
returns c = λ first own small.
    let n = c.args.factor in
    let xs = c.args.self.now.values in
    let ys = c.args.other.now.values in
    let zs = c.from_fn.result in
    let long : length zs ≡ 16 = c.from_fn.ensures.items.long in
    let here = λ (k : ℕ). min (get_or xs k 0 + min (n * get_or ys k 0) (2 ^ 64 - 1)) (2 ^ 64 - 1) in
    sums_from n (drop first zs) (drop first xs) (drop first ys)
    (omega (arith, length-drop first zs, length-drop first xs, long, c.args.self.now.full))
    (omega (arith, length-drop first ys, length-drop first xs, c.args.other.now.full, c.args.self.now.full))
    (λ i h.
    let k = first + i in
    let below : k < 16 = omega (arith, length-drop first xs, c.args.self.now.full) in
    let own_small = at_most_from sensitivity_bound xs first k own (omega arith) (omega (arith, c.args.self.now.full)) in
    let other_small = at_most_from sensitivity_bound ys first k small (omega arith) (omega (arith, c.args.other.now.full)) in
    let product = mul-le n (get_or ys k 0) sensitivity_bound sensitivity_bound c.requires other_small in
    let made : get_or zs k 0 ≡ here k = made_at _ here _ zs 0 16 0 c.from_fn.ensures.items.each (λ j y q l m e. search (rules, tests)) k (omega arith) (omega arith) in
    rw (get_or-drop first zs i 0, get_or-drop first xs i 0, get_or-drop first ys i 0) (made ∙ omega (arith, own_small, product)))
