use Rattle.std.proofs.Common.{length, not, ap, ◌∙◌, arith, rules}
use Rattle.std.proofs.lemmas.List.Sums.{prefix_len-le-length}
use Rattle.std.proofs.lemmas.Slice.{first_rest}
use Rattle.std.specs.List.{between}
use Rattle.lines.proofs.Splits.{fields_run}
use Rattle.lines.proofs.heading.split_piece.Goals as goal
use Rattle.lines.specs.Heading.{pieces_in}
use Rattle.lines.specs.Split.{space}

pub split_at-requires : goal.split_at-requires
split_at-requires c = omega (arith, c.plain_len.ensures, prefix_len-le-length (λ b. not (space b)) (between 1 (length c.args.pieces.now) c.args.pieces.now))

pub returns-in-len1-up : goal.returns-in-len1-up
returns-in-len1-up c = ap pieces_in (first_rest c.args.pieces.now 0 (search rules)) ∙ fields_run (between 1 (length c.args.pieces.now) c.args.pieces.now) ∙ (cc)
