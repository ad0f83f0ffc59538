-- What the faults of a check tell, and the stage that they come from.
use Rattle.refusals.specs.Rules.{refusal}
use Rattle.refusals.specs.declared.Refusal.{Refusal}
use Rattle.reading.specs.Faults.{form_refusal, form_stage}
use Rattle.reading.specs.declared.fault.Stage.{Stage}
use Rattle.reading.specs.declared.fault.Stage.TheVariants as read
use Rattle.std.specs.Prelude.{Some, None, Ok, Err, Option, Result}
use Rattle.types.specs.Faults.{rule_refusal}
use Rattle.checking.specs.declared.fault.CheckFault.{CheckFault}
use Rattle.checking.specs.declared.fault.CheckFault.TheVariants as fault
use Rattle.checking.specs.declared.fault.CheckStage.{CheckStage}
use Rattle.checking.specs.declared.fault.CheckStage.TheVariants as stage

abbrev pub check_refusal : CheckFault → Refusal
check_refusal fault.FewNotes = refusal 1 0 0
check_refusal (fault.Catalogue i) = refusal 2 i 0
check_refusal fault.TooLong = refusal 3 0 0
check_refusal fault.NoText = refusal 4 0 0
check_refusal (fault.Form e) = form_refusal e
check_refusal (fault.Rule e) = rule_refusal e

abbrev pub of_reading : Stage → CheckStage
of_reading read.Lines = stage.Lines
of_reading read.Forms = stage.Forms

abbrev pub check_stage : CheckFault → CheckStage
check_stage fault.FewNotes = stage.Call
check_stage (fault.Catalogue i) = stage.Call
check_stage fault.TooLong = stage.Call
check_stage fault.NoText = stage.Call
check_stage (fault.Form e) = of_reading (form_stage e)
check_stage (fault.Rule e) = stage.Rules

-- the fault of a reply, if it has one
abbrev pub fault_in : {X : Type 0} → Result X CheckFault → Option CheckFault
fault_in (Ok x) = None
fault_in (Err e) = Some e
