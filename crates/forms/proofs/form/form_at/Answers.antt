use Rattle.forms.proofs.Parts.{build_at}
use Rattle.forms.proofs.form.form_at.Goals as goal

pub returns-clause-stands : goal.returns-clause-stands
returns-clause-stands c = build_at c.args.entries.now c.args.at _ c.requires
