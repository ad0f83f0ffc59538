use Rattle.std.proofs.Common.{arith, rules}
use Rattle.std.proofs.lemmas.Grind.{common_steps}
use Rattle.lines.proofs.Spelled.{spells}
use Rattle.lines.proofs.number.number.Goals as goal

pub returns-in-45-clause-exactly : goal.returns-in-45-clause-exactly
returns-in-45-clause-exactly c = spells c.args.piece.now c.map.result (grind (arith, common_steps))

pub returns-in_default-clause-exactly : goal.returns-in_default-clause-exactly
returns-in_default-clause-exactly c = spells c.args.piece.now c.map-in_default.result (search rules)
