use Rattle.std.proofs.Common.{sym}
use Rattle.std.proofs.lemmas.List.{drop-drop}
use Rattle.stacks.proofs.stack.Stack.pop.Goals as goal

pub returns-clause-rest : goal.returns-clause-rest
returns-clause-rest g c = sym (drop-drop 1 c.args.self.now.first c.args.self.now.items)
