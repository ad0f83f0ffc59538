-- What the faults of the rules tell: number, opening line and 0.
use Rattle.refusals.specs.Rules.{refusal}
use Rattle.refusals.specs.declared.Refusal.{Refusal}
use Rattle.std.specs.Prelude.{Ok, Err, Result}
use Rattle.types.specs.declared.fault.RuleFault.{RuleFault}
use Rattle.types.specs.declared.fault.RuleFault.TheVariants.{OutOfScope, RangeTooWide, TooSensitive}

abbrev pub rule_refusal : RuleFault → Refusal
rule_refusal (OutOfScope n) = refusal 11 n 0
rule_refusal (RangeTooWide n) = refusal 12 n 0
rule_refusal (TooSensitive n) = refusal 13 n 0

-- a reply of the code as the rules give it, where x stands for what it shows
abbrev pub told : {X Y : Type 0} → (X → Y) → Result X RuleFault → Result Y Refusal
told shown (Ok x) = Ok (shown x)
told shown (Err e) = Err (rule_refusal e)
