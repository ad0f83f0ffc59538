use Rattle.std.proofs.Common.{ap, ◌∙◌}
use Rattle.sources.specs.Indexed.{listed}
use Rattle.sources.specs.Shapes.{column, columns_of}
use Rattle.sources.specs.Unions.{hulls}
use Rattle.types.proofs.bag.united.Goals as goal

pub returns-clause-columns : goal.returns-clause-columns
returns-clause-columns c = c.united_columns.ensures.columns ∙ ap (λ w. hulls (columns_of c.args.a.now) (listed (column c.args.b.now.columns) w)) c.requires.same
