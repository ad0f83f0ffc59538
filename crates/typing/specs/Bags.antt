-- What typing a bag comes to.
use Rattle.std.specs.Prelude.{ℕ, ◌+◌, ◌*◌, List, drop, Result}
use Rattle.sources.specs.Shapes.{max_rows}
use Rattle.trees.specs.Size.{size}
use Rattle.forms.specs.Table.{BagTree}
use Rattle.rules.specs.Typing.{bag_typed}
use Rattle.rules.specs.declared.catalogue.Catalogue.{Catalogue}
use Rattle.types.specs.Shown.{BagGood, bag_shown}
use Rattle.types.specs.declared.bag.TypedBag.{TypedBag}
use Rattle.types.specs.declared.fault.RuleFault.{RuleFault}
use Rattle.typing.specs.Notes.{bag_notes}
use Rattle.typing.specs.Told.{Typed}
use Rattle.typing.specs.declared.note.Note.{Note}

-- each of its leaves has at most as many rows as a source
abbrev pub Few : BagTree → TypedBag → Type 0
Few b x = BagGood (max_rows * size b) x

abbrev pub BagTyped : Catalogue → (n o : ℕ) → BagTree → (before : List Note) → Result TypedBag RuleFault → List Note → Type 0
BagTyped c n o b before r now_noted = Typed bag_shown (Few b) (bag_typed n c b) before o (bag_notes n c b) r now_noted

-- its parts are noted, and it is not noted itself yet
abbrev pub BagDrafted : Catalogue → (n o : ℕ) → BagTree → (before : List Note) → Result TypedBag RuleFault → List Note → Type 0
BagDrafted c n o b before r now_noted = Typed bag_shown (Few b) (bag_typed n c b) before (o + 1) (drop 1 (bag_notes n c b)) r now_noted
