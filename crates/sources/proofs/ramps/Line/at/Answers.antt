use Rattle.std.proofs.Common.{rules}
use Rattle.sources.proofs.Words.{steps_fit, cell_fits, cell_is}
use Rattle.sources.proofs.ramps.Line.at.Goals as goal

pub overflow_mul-result : goal.overflow_mul-result
overflow_mul-result c = search (rules, steps_fit)

pub overflow_add-result : goal.overflow_add-result
overflow_add-result c = search (rules, cell_fits)

pub returns : goal.returns
returns c = search (rules, cell_is)
