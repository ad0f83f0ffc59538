use Rattle.std.proofs.Common.{arith}
use Rattle.bags.proofs.Padding.{pairs_apart, pairs_sorted}
use Rattle.bags.proofs.distances.common_rows.Goals as goal

pub returns-then-width : goal.returns-then-width
returns-then-width g c = pairs_apart (g.A.Source.lawful c.args.first.now) (g.B.Source.lawful c.args.second.now) (λ e. c.if-width.true (omega (arith, c.width.ensures, c.width-2.ensures, e)))

pub returns : goal.returns
returns g c =
    pairs_sorted (g.A.Source.lawful c.args.first.now) (g.B.Source.lawful c.args.second.now) (omega (arith, c.if-width.false, c.width.ensures, c.width-2.ensures)) c.sorted_rows.ensures c.sorted_rows-2.ensures c.shared_rows.ensures
