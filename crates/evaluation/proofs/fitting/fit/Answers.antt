use Rattle.evaluation.proofs.Fits.{fits_exactly}
use Rattle.evaluation.proofs.fitting.fit.Goals as goal

pub returns-clause-exactly : goal.returns-clause-exactly
returns-clause-exactly g c = fits_exactly _ _ (g.A.Source.lawful c.args.plant.now.first.now) (g.B.Source.lawful c.args.plant.now.second.now) c.check_plant.result c.check_plant.ensures
