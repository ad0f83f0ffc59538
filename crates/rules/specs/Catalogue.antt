-- When a catalogue is sound at each input.
use Rattle.std.specs.Prelude.{ℕ, ◌-◌, Bool, cond, ◌&&◌, [], Option, int_le, nat_le, nat_lt, slice_index_or, unsigned_abs}
use Rattle.refusals.specs.Rules.{first_of, unless}
use Rattle.sources.specs.Shapes.{column, shaped}
use Rattle.sources.specs.declared.shapes.Range.{Range}
use Rattle.sources.specs.declared.shapes.Shape.{Shape}
use Rattle.rules.specs.declared.catalogue.Catalogue.{Catalogue}

-- how far from 0 the ends of a setting's range may be
abbrev pub setting_bound : ℕ
setting_bound = 1_000_000

abbrev pub no_shape : Shape
no_shape = record { width = 0; limit = 0; columns = [] }

abbrev pub source_shape : Catalogue → ℕ → Shape
source_shape c k = slice_index_or c.sources k no_shape

abbrev pub setting_range : Catalogue → ℕ → Range
setting_range c k = column c.settings k

-- a source has a sound shape with room for a row
abbrev pub source_sound : Shape → Bool
source_sound s = shaped s && nat_le 1 s.limit

abbrev pub setting_sound : Range → Bool
setting_sound r = nat_le (unsigned_abs r.low) setting_bound && (nat_le (unsigned_abs r.high) setting_bound && int_le r.low r.high)

-- inputs 0 and 1 are the sources, 2 and 3 the settings
abbrev pub input_sound : Catalogue → ℕ → Bool
input_sound c i = cond (nat_lt i 2) (source_sound (source_shape c i)) (setting_sound (setting_range c (i - 2)))

-- the first input at which the catalogue is faulty
abbrev pub faulty_input : Catalogue → Option ℕ
faulty_input c = first_of (λ i. unless (input_sound c i) i) 0 4
