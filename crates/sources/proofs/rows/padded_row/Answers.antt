use Rattle.std.proofs.Common.{[], get_or, ◌∙◌, arith}
use Rattle.sources.specs.Widths.{row_wide}
use Rattle.sources.proofs.Padding.{cell_copied, row_copied}
use Rattle.sources.proofs.Words.{back}
use Rattle.sources.proofs.rows.padded_row.Goals as goal

pub loop-column-preserved : goal.loop-column-preserved
loop-column-preserved g c =
    let m = g.S.Source.meaning c.args.source.now in
    let law = g.S.Source.lawful c.args.source.now in
    let wide = row_wide m law c.args.row c.requires.there in
    cell_copied (get_or m.rows c.args.row []) c.loop-column.cell-items c.args.width c.loop-column.column (omega (arith, wide)) (omega (arith, law.few_columns)) c.loop-column.auto.cell-items c.loop-column.invariant _ c.loop-column-test.true (back c.cell.result c.cell.type_inv ∙ c.cell.ensures)

pub returns : goal.returns
returns g c =
    let m = g.S.Source.meaning c.args.source.now in
    let law = g.S.Source.lawful c.args.source.now in
    let wide = row_wide m law c.args.row c.requires.there in
    row_copied (get_or m.rows c.args.row []) c.loop-column.cell-items c.args.width c.loop-column.column (omega (arith, wide)) (omega (arith, law.few_columns)) c.loop-column.auto.cell-items c.loop-column.invariant c.loop-column-test.false
