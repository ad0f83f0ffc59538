use Rattle.std.proofs.Common.{sym, subst}
use Rattle.trees.proofs.Spelling.{names}
use Rattle.trees.proofs.words.Word.named.Goals as goal
use Rattle.trees.specs.Words.{word_spelled, Names}

pub returns-clause-found : goal.returns-clause-found
unfolding word_spelled
returns-clause-found c = c.first_spelled.ensures

pub returns-clause-exactly : goal.returns-clause-exactly
unfolding word_spelled
returns-clause-exactly c = subst (Names c.args.spelling.now) (sym c.first_spelled.ensures) (names c.args.spelling.now)
