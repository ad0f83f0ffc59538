use Rattle.trees.proofs.Table.{built_by_table}
use Rattle.trees.proofs.laws.trees_are_built_by_the_table.Goals as goal

pub returns : goal.returns
returns c = built_by_table
