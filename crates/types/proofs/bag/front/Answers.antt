use Rattle.std.proofs.Common.{take, pos, arith}
use Rattle.sources.specs.Shapes.{column, range}
use Rattle.std.proofs.lemmas.List.FromFn.{fill_by_all}
use Rattle.std.proofs.lemmas.List.{get_or-take, length-take-le}
use Rattle.types.proofs.bag.front.Goals as goal

pub returns : goal.returns
returns c =
    let xs = c.args.columns.now in
    let n = c.args.width in
    let none = range (pos 0) (pos 0) in
    fill_by_all (column xs) (take n xs) n none (length-take-le n xs (omega arith)) (λ k h. get_or-take n xs k none h)
