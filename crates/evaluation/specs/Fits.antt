-- When a plant fits a catalogue, and why it does not.
use Rattle.std.specs.Prelude.{◌≡◌, ℕ, Bool, ◌&&◌, List, [], ◌∷◌, ℤ, pos, Ok, Option, Result, ◌==◌, slice_index_or}
use Rattle.refusals.specs.Rules.{first_of, or_else, refusal, unless}
use Rattle.refusals.specs.declared.Refusal.{Refusal}
use Rattle.rules.specs.Catalogue.{setting_range, source_shape}
use Rattle.rules.specs.Ranges.{same_range}
use Rattle.rules.specs.Sound.{Fitting, Plant}
use Rattle.rules.specs.declared.catalogue.Catalogue.{Catalogue}
use Rattle.sources.specs.Indexed.{each}
use Rattle.sources.specs.Shapes.{column, within}
use Rattle.sources.specs.Source.{Meaning}
use Rattle.sources.specs.declared.shapes.Shape.{Shape}
use Rattle.evaluation.specs.declared.plant.PlantFault.{PlantFault}

-- the source has the shape's width and limit, and the range of each column below the width
abbrev pub same_shape : Shape → Meaning → Bool
same_shape s m = m.width == s.width && (m.limit == s.limit && each (λ j. same_range (column m.columns j) (column s.columns j)) s.width)

abbrev pub shape_rule : Catalogue → ℕ → Meaning → Option Refusal
shape_rule c k m = unless (same_shape (source_shape c k) m) (refusal 24 k 0)

abbrev pub setting_rule : Catalogue → List ℤ → ℕ → Option Refusal
setting_rule c settings k = unless (within (setting_range c k) (slice_index_or settings k (pos 0))) (refusal 25 k 0)

abbrev pub settings_rule : Catalogue → List ℤ → Option Refusal
settings_rule c settings = first_of (setting_rule c settings) 0 2

-- both sources before the settings
abbrev pub fit_rule : Catalogue → Plant → Option Refusal
fit_rule c p = or_else (shape_rule c 0 p.first) (or_else (shape_rule c 1 p.second) (settings_rule c (p.setting_0 ∷ p.setting_1 ∷ [])))

-- a plant is accepted exactly when it fits
abbrev pub FitsExactly : Catalogue → Plant → Result (Unit {0}) PlantFault → Type 0
FitsExactly c p r = (r ≡ Ok tt → Fitting c p) × (Fitting c p → r ≡ Ok tt)
