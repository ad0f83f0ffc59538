use Rattle.std.proofs.Common.{arith, lit<}
use Rattle.std.proofs.lemmas.Grind.{common_steps}
use Rattle.rules.proofs.amounts.Amounts.one_at.Goals as goal

pub returns : goal.returns
returns c = grind (arith, common_steps, c.from_fn.ensures 0 (lit< tt), c.from_fn.ensures 1 (lit< tt), c.from_fn.ensures 2 (lit< tt), c.from_fn.ensures 3 (lit< tt))
