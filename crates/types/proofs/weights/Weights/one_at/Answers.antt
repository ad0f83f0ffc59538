use Rattle.std.proofs.Common.{ℕ, ◌+◌, cond, eqb, drop, set, replicate, sym, ap, ◌∙◌, arith}
use Rattle.sources.specs.Indexed.{listed}
use Rattle.trees.specs.Size.{max_depth}
use Rattle.stacks.specs.Stack.{spare}
use Rattle.types.proofs.Scopes.{length_scope}
use Rattle.types.proofs.Sensitivities.{drop_one}
use Rattle.types.proofs.weights.Weights.one_at.Goals as goal

pub returns : goal.returns
returns c =
    let v = c.args.scope.now in
    let i = c.args.index in
    ap (λ f. drop (spare v) (set {A = ℕ} (replicate max_depth 0) (f + i) 1)) c.spare.ensures
    ∙ drop_one max_depth (spare v) i (omega (arith, c.requires, length_scope v))
    ∙ ap (listed (λ k. cond (eqb k i) 1 0)) (sym (length_scope v))
