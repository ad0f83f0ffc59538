use Rattle.stability.proofs.Stability.{stable}
use Rattle.stability.proofs.answers_are_stable.Goals as goal

pub returns : goal.returns
returns c = stable
