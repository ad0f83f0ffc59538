use Rattle.std.proofs.Common.{refl, arith}
use Rattle.forms.specs.Table.{part_at, parts, parts_from}
use Rattle.forms.proofs.tests.a_term_picks.Goals as goal

pub eval_term-requires : goal.eval_term-requires
unfolding part_at parts parts_from
eval_term-requires g c = record { tree = _; is = refl; calm = ((((0, refl, omega arith), omega arith), omega arith), omega arith, (omega arith, omega arith, ((1, refl, omega arith), omega arith))) }

pub eval_term-requires-2 : goal.eval_term-requires-2
unfolding part_at parts parts_from
eval_term-requires-2 g c = record { tree = _; is = refl; calm = ((((0, refl, omega arith), omega arith), omega arith), omega arith, (omega arith, omega arith, ((1, refl, omega arith), omega arith))) }
