use Rattle.trees.proofs.Unique.{written_example, written_once}
use Rattle.trees.proofs.laws.written_form_is_unique.Goals as goal

pub returns : goal.returns
returns c = record { once = written_once; example = written_example }
