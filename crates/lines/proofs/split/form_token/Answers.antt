use Rattle.std.proofs.Common.{arith}
use Rattle.std.proofs.lemmas.List.Sums.{prefix_len-le-length}
use Rattle.lines.proofs.split.form_token.Goals as goal
use Rattle.lines.specs.Split.{letter}

pub split_at-requires : goal.split_at-requires
split_at-requires c = omega (arith, c.letters.ensures, prefix_len-le-length letter c.args.text.now)
