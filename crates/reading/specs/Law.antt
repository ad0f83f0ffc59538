-- What reading a text comes to: exactly the written forms of number trees within the limits are read.
use Rattle.std.specs.Prelude.{◌≡◌, ℕ, ◌-◌, ◌⊎◌, List, [], length, Ok, Result}
use Rattle.trees.specs.declared.Kind.TheVariants.{Number}
use Rattle.trees.specs.Size.{size, WithinLimits}
use Rattle.trees.specs.Tree.{Tree}
use Rattle.trees.specs.Written.{written}
use Rattle.forms.specs.declared.form.Entry.{Entry}
use Rattle.forms.specs.Lined.{Lined}
use Rattle.forms.specs.Table.{part_at}
use Rattle.forms.specs.Table.Part.{a_number}
use Rattle.reading.specs.declared.fault.FormFault.{FormFault}

-- the tree stands at the last position of the table, which has an entry for each of its forms
abbrev pub Holds : List Entry → Tree Number → Type 0
Holds es t = (part_at es (length es - 1) ≡ a_number t) × (length es ≡ size t)

-- and the entry of each of its forms has the line on which it opens in the text, counted from 1, and how many forms open before it
abbrev pub HoldsLined : List Entry → Tree Number → Type 0
HoldsLined es t = Holds es t × Lined es t (length es - 1) 1 0

-- a text is read only if it has no bytes or is the written form of a number tree within the limits; every such text is read; and the table then holds the tree
pub record ReadsTrees (text : List ℕ) (r : Result (Unit {0}) FormFault) (es : List Entry) : Type 0 where
  pub only : r ≡ Ok tt → (text ≡ []) ⊎ ((t : Tree Number) × WithinLimits t × (text ≡ written t) × Holds es t)
  pub every : (t : Tree Number) → WithinLimits t → text ≡ written t → (r ≡ Ok tt) × Holds es t
  pub nothing : text ≡ [] → (r ≡ Ok tt) × (es ≡ [])

-- what is read of the written form of a tree within the limits has the lines on which its forms open
abbrev pub OpensLines : List ℕ → List Entry → Type 0
OpensLines text es = (t : Tree Number) → WithinLimits t → text ≡ written t → Lined es t (length es - 1) 1 0
