use Rattle.checking.proofs.Exactly.{exactly}
use Rattle.checking.proofs.check.check.Goals as goal

pub returns-clause-exactly : goal.returns-clause-exactly
returns-clause-exactly c = exactly c.args.catalogue.now c.args.text.now c.args.notes.now c.check_or_clear.new.notes c.args.query.now c.check_or_clear.new.query c.check_or_clear.result c.check_or_clear.ensures
