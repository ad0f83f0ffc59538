use Rattle.std.proofs.Common.{refl, arith}
use Rattle.std.proofs.lemmas.List.{length-take-le, take_more_set}
use Rattle.forms.proofs.route.Route.push.Goals as goal

pub returns : goal.returns
returns c =
    let self = c.args.self.now in
    record { source = refl; steps = take_more_set self.steps self.len c.args.at (omega (arith, self.full, length-take-le self.len self.steps (omega (arith, self.full, self.within)))) }
