use Rattle.evaluation.proofs.Sourced.{first_source, leaf_rows, leaf_sum, second_source}
use Rattle.evaluation.proofs.asked.Asked.add_leaf.Goals as goal

pub returns-then-source-eq0 : goal.returns-then-source-eq0
returns-then-source-eq0 g c = λ l h.
    let named = first_source h (record { sfits = c.source.type_inv }) c.source.ensures c.if-source-eq0.true in
    leaf_sum h named c.ranges.total (record { sfits = c.add_rows.type_inv }) (c.add_rows.ensures l.way (leaf_rows h named c.ranges.total))

pub returns-else-source-eq0 : goal.returns-else-source-eq0
returns-else-source-eq0 g c = λ l h.
    let named = second_source h c.source.ensures c.if-source-eq0.false in
    leaf_sum h named c.ranges.total (record { sfits = c.add_rows-else-source-eq0.type_inv }) (c.add_rows-else-source-eq0.ensures l.way (leaf_rows h named c.ranges.total))
