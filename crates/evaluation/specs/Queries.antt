-- When a table can be evaluated on a plant.
use Rattle.std.specs.Prelude.{◌≡◌, ℕ, ◌-◌, ◌<◌, true, ◌⊎◌, List, [], length, Ok, ◌≢◌}
use Rattle.forms.specs.declared.form.Entry.{Entry}
use Rattle.forms.specs.Lined.{Lined}
use Rattle.forms.specs.Table.{NumberTree, part_at}
use Rattle.forms.specs.Table.Part.{a_number, bad}
use Rattle.forms.specs.Totals.{totalled}
use Rattle.rules.specs.Sound.{Fitting, Plant}
use Rattle.rules.specs.Typing.{NumberType, number_typed}
use Rattle.rules.specs.declared.catalogue.Catalogue.{Catalogue}
use Rattle.trees.specs.Size.{size}
use Rattle.trees.specs.Tree.Tree.{num, setting, var, count, sum, add, sub, least, most, scale, clip, let_in}

-- u is one of the counts and sums in the number
abbrev pub SumsIn : NumberTree → NumberTree → Type 0
SumsIn u (num n) = ⊥
SumsIn u (setting k) = ⊥
SumsIn u (var v) = ⊥
SumsIn u (count b) = u ≡ count b
SumsIn u (sum lo hi b t) = u ≡ sum lo hi b t
SumsIn u (add a b) = SumsIn u a ⊎ SumsIn u b
SumsIn u (sub a b) = SumsIn u a ⊎ SumsIn u b
SumsIn u (least a b) = SumsIn u a ⊎ SumsIn u b
SumsIn u (most a b) = SumsIn u a ⊎ SumsIn u b
SumsIn u (scale n a) = SumsIn u a
SumsIn u (clip lo hi a) = SumsIn u a
SumsIn u (let_in a b) = SumsIn u a ⊎ SumsIn u b

-- the number stands at the last position; a tree stands at every position, and each count and sum is one of the number's
pub record Spells (es : List Entry) (t : NumberTree) : Type 0 where
  pub is : part_at es (length es - 1) ≡ a_number t
  pub whole : (q : ℕ) → q < length es → part_at es q ≢ bad
  pub sums : (q : ℕ) (u : NumberTree) → part_at es q ≡ a_number u → totalled u ≡ true → SumsIn u t

-- the table spells a number that the rules type, and the plant fits the catalogue
pub record Evaluable (es : List Entry) (p : Plant) (t : NumberTree) : Type 0 where
  pub catalogue : Catalogue
  pub line : ℕ
  pub type : NumberType
  pub spells : Spells es t
  pub typed : number_typed line catalogue [] t ≡ Ok type
  pub fits : Fitting catalogue p

-- a table with one entry for each form of the number, which opens where the written form has it, spells the number
abbrev pub LinedSpells : Type 0
LinedSpells = (es : List Entry) (t : NumberTree) (n : ℕ) → part_at es (length es - 1) ≡ a_number t → length es ≡ size t → Lined es t (length es - 1) n 0 → Spells es t
