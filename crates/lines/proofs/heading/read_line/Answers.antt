use Rattle.std.proofs.Common.{Ok, rules}
use Rattle.lines.proofs.Readback.{tells}
use Rattle.lines.proofs.heading.read_line.Goals as goal
use Rattle.lines.specs.Shown.{shown_line}

pub returns-in_err-token-clause-exactly : goal.returns-in_err-token-clause-exactly
returns-in_err-token-clause-exactly c = tells c.args.line c.args.text.now (shown_line c.from_residual.result) (search rules)

pub returns-in_err-read_token-clause-exactly : goal.returns-in_err-read_token-clause-exactly
returns-in_err-read_token-clause-exactly c = tells c.args.line c.args.text.now (shown_line c.from_residual-in_err-read_token.result) (search rules)

pub returns-clause-exactly : goal.returns-clause-exactly
returns-clause-exactly c = tells c.args.line c.args.text.now (Ok (c.in_ok-read_token.field-0, c.in_ok-token.rest.now)) (search rules)
