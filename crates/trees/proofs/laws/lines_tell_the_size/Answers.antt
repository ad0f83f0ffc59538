use Rattle.trees.proofs.Limits.{told_by_lines}
use Rattle.trees.proofs.laws.lines_tell_the_size.Goals as goal

pub returns : goal.returns
returns c = told_by_lines
