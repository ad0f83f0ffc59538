use Rattle.evaluation.proofs.Spelled.{lined_spells}
use Rattle.evaluation.proofs.laws.lined_tables_spell_their_number.Goals as goal

pub returns : goal.returns
returns c = lined_spells
