use Rattle.std.proofs.Common.{◌<◌, List, length, take, ◌+ℤ◌, ap, ◌∙◌, arith, w64}
use Rattle.std.proofs.lemmas.List.{take_all}
use Rattle.std.proofs.lemmas.Int.{to_z-of_z}
use Rattle.trees.specs.Meaning.{Row, total}
use Rattle.evaluation.specs.Addends.{from_leaf}
use Rattle.evaluation.proofs.Adding.{adds_bits, row_added, row_adds}
use Rattle.evaluation.proofs.rows.Pass.add_rows.Goals as goal

pub add_row-sum-requires : goal.add_row-sum-requires
add_row-sum-requires g c =
    let (way, k) = c.requires in
    let h = adds_bits c.ranges.total k in
    (way, row_adds (g.S.Source.lawful c.args.source.now) h (omega (arith, c.count-i-end.ensures)) c.padded_row-row.ensures (c.loop-i.invariant way h))

pub loop-i-preserved : goal.loop-i-preserved
loop-i-preserved g c = λ way h.
    let law = g.S.Source.lawful c.args.source.now in
    let there : c.loop-i.i < length (g.S.Source.meaning c.args.source.now).rows = omega (arith, c.count-i-end.ensures) in
    let so_far = c.loop-i.invariant way h in
    to_z-of_z w64 c.add_row-sum.result (record { sfits = c.add_row-sum.type_inv })
    ∙ c.add_row-sum.ensures way (row_adds law h there c.padded_row-row.ensures so_far)
    ∙ row_added law h there c.padded_row-row.ensures so_far

pub returns : goal.returns
returns g c = λ way h.
    let m = g.S.Source.meaning c.args.source.now in
    let f = from_leaf c.args.self.now.entries.now c.args.self.now.addend way in
    c.loop-i.invariant way (adds_bits c.ranges.total h)
    ∙ ap (λ z. z +ℤ total f (take c.loop-i.i m.rows)) (to_z-of_z w64 c.args.total c.ranges.total)
    ∙ ap (λ (rs : List Row). c.args.total +ℤ total f rs) (take_all c.loop-i.i m.rows (omega (arith, c.count-i-end.ensures)))
