use Rattle.std.proofs.Common.{subst, sym, subst₂}
use Rattle.reading.proofs.Law.{opens_lines, reads_trees}
use Rattle.reading.proofs.text.read.Goals as goal
use Rattle.reading.specs.Law.{OpensLines, ReadsTrees}

pub returns-clause-law : goal.returns-clause-law
returns-clause-law c =
    subst₂ (ReadsTrees c.args.text.now) (sym c.read_anew.ensures.reply) (sym c.read_anew.ensures.table) (reads_trees c.args.text.now)

pub returns-clause-lines : goal.returns-clause-lines
returns-clause-lines c = subst (OpensLines c.args.text.now) (sym c.read_anew.ensures.table) (opens_lines c.args.text.now)
