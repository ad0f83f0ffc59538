use Rattle.std.proofs.Common.{refl, arith}
use Rattle.forms.specs.Table.{part_at, parts, parts_from}
use Rattle.forms.proofs.tests.a_put_above_a_keep_above_a_pool.Goals as goal

pub find_route-requires-clause-is : goal.find_route-requires-clause-is
unfolding part_at parts parts_from
find_route-requires-clause-is g c = (_, refl)

pub find_route-requires-2-clause-is : goal.find_route-requires-2-clause-is
unfolding part_at parts parts_from
find_route-requires-2-clause-is g c = (_, refl)

pub carry-requires : goal.carry-requires
unfolding part_at parts parts_from
carry-requires g c = (_, (c.in-Some.ensures _ refl).1.leads, ((((0, refl, omega arith), omega arith), omega arith), (((0, refl, omega arith), omega arith), tt)))

pub carry-requires-2 : goal.carry-requires-2
unfolding part_at parts parts_from
carry-requires-2 g c = (_, (c.in-Some.ensures _ refl).1.leads, ((((0, refl, omega arith), omega arith), omega arith), tt))
