-- What the faults of a line tell: number, line and 0.
use Rattle.refusals.specs.declared.Refusal.{Refusal}
use Rattle.refusals.specs.Rules.{refusal}
use Rattle.lines.specs.declared.fault.LineFault.{LineFault}
use Rattle.lines.specs.declared.fault.LineFault.TheVariants.{NotALine, NotAHeading, NotANumber}

abbrev pub line_refusal : LineFault → Refusal
line_refusal (NotALine n) = refusal 5 n 0
line_refusal (NotAHeading n) = refusal 6 n 0
line_refusal (NotANumber n) = refusal 7 n 0
