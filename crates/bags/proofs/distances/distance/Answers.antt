use Rattle.bags.proofs.Laws.{distance_bounding, distance_steady}
use Rattle.bags.proofs.Lost.{distance_is}
use Rattle.bags.proofs.distances.distance.Goals as goal

pub returns : goal.returns
returns g c = record { value = c.rows_apart.ensures; steady = distance_steady; bounding = distance_bounding; sides = distance_is }
