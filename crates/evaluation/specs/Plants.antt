-- What a plant means, and the numbers and places of its refusals.
use Rattle.std.specs.Prelude.{pos, slice_index_or}
use Rattle.refusals.specs.Rules.{refusal}
use Rattle.refusals.specs.declared.Refusal.{Refusal}
use Rattle.rules.specs.Sound.{Plant}
use Rattle.sources.specs.Source.{Meaning}
use Rattle.evaluation.specs.declared.plant.Plant.{Plant as Lent}
use Rattle.evaluation.specs.declared.plant.PlantFault.{PlantFault}
use Rattle.evaluation.specs.declared.plant.PlantFault.TheVariants.{Shape, Setting}

-- the plant, where m and n tell what its sources mean
abbrev pub plant_of : {A B : Type 0} → (A → Meaning) → (B → Meaning) → Lent A B → Plant
plant_of m n p = record { first = m p.first.now; second = n p.second.now; setting_0 = slice_index_or p.settings 0 (pos 0); setting_1 = slice_index_or p.settings 1 (pos 0) }

abbrev pub plant_refusal : PlantFault → Refusal
plant_refusal (Shape k) = refusal 24 k 0
plant_refusal (Setting k) = refusal 25 k 0
