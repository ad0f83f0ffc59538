use Rattle.std.proofs.Common.{rules}
use Rattle.bags.proofs.Merges.{equal_walked, greater_walked, less_walked, used_up}
use Rattle.bags.proofs.merging.shared_rows.Goals as goal

pub loop-xs-preserved-in-Less : goal.loop-xs-preserved-in-Less
loop-xs-preserved-in-Less c = less_walked c.loop-xs.xs.now c.loop-xs.ys.now c.loop-xs.invariant (search rules) (search rules) (search rules)

pub loop-xs-preserved-in-Greater : goal.loop-xs-preserved-in-Greater
loop-xs-preserved-in-Greater c = greater_walked c.loop-xs.xs.now c.loop-xs.ys.now c.loop-xs.invariant (search rules) (search rules) (search rules)

pub loop-xs-preserved : goal.loop-xs-preserved
loop-xs-preserved c = equal_walked c.loop-xs.xs.now c.loop-xs.ys.now c.loop-xs.invariant (search rules) (search rules) (search rules)

pub returns-in_default : goal.returns-in_default
returns-in_default c = used_up c.loop-xs.xs.now c.loop-xs.ys.now c.loop-xs.invariant (search rules)

pub returns-in_default-2 : goal.returns-in_default-2
returns-in_default-2 c = used_up c.loop-xs.xs.now c.loop-xs.ys.now c.loop-xs.invariant (search rules)
