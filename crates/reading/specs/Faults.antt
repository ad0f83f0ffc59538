-- What the faults of a text tell: number, line and 0, and the stage that they come from.
use Rattle.refusals.specs.declared.Refusal.{Refusal}
use Rattle.refusals.specs.Rules.{refusal}
use Rattle.lines.specs.Faults.{line_refusal}
use Rattle.reading.specs.declared.fault.FormFault.{FormFault}
use Rattle.reading.specs.declared.fault.FormFault.TheVariants.{Line, Misplaced, TooLarge, WrongKind}
use Rattle.reading.specs.declared.fault.Stage.{Stage}
use Rattle.reading.specs.declared.fault.Stage.TheVariants.{Lines, Forms}

abbrev pub form_refusal : FormFault → Refusal
form_refusal (Line e) = line_refusal e
form_refusal (Misplaced n) = refusal 8 n 0
form_refusal (TooLarge n) = refusal 9 n 0
form_refusal (WrongKind n) = refusal 10 n 0

abbrev pub form_stage : FormFault → Stage
form_stage (Line e) = Lines
form_stage (Misplaced n) = Forms
form_stage (TooLarge n) = Forms
form_stage (WrongKind n) = Forms
