use Rattle.std.proofs.Common.{◌≡◌, sym, subst, rules}
use Rattle.sources.specs.Unions.{joint_limit, union, Unites}
use Rattle.sources.proofs.Joins.{union_answers}
use Rattle.sources.proofs.unions.Union.joint_limit.Goals as goal

pub returns-clause-answers : goal.returns-clause-answers
returns-clause-answers g c =
    let u = c.args.self.now in
    let m = g.A.Source.meaning u.first in
    let n = g.B.Source.meaning u.second in
    let e : c.then_some.result ≡ joint_limit m n = search rules in
    subst (Unites m n (union m n)) (sym e) (union_answers m n (g.A.Source.lawful u.first) (g.B.Source.lawful u.second))
