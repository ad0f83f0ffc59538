-- The notes of a bag begin with its own.
use Rattle.std.proofs.Common.{◌≡◌, ℕ, ◌<◌, ◌∷◌, length, drop, refl, ap, arith}
use Rattle.forms.specs.Table.{BagTree}
use Rattle.trees.specs.Size.{size}
use Rattle.trees.specs.Tree.Tree.{bag, keep, put, pool}
use Rattle.rules.specs.Typing.{bag_typed}
use Rattle.rules.specs.declared.catalogue.Catalogue.{Catalogue}
use Rattle.typing.specs.Notes.{bag_notes, noted, of_bag}
use Rattle.typing.proofs.Lengths.{bag_count}

-- the first note of a bag is its own
pub bag_own : (b : BagTree) (n : ℕ) (c : Catalogue) → bag_notes n c b ≡ noted of_bag (bag_typed n c b) ∷ drop 1 (bag_notes n c b)
bag_own (bag k) n c = refl
bag_own (keep b d) n c = refl
bag_own (put j b t) n c = refl
bag_own (pool a b) n c = refl

-- there is at least one form
pub bag_some : (b : BagTree) (n : ℕ) (c : Catalogue) → 0 < size b
bag_some b n c = omega (arith, bag_count b n c, ap length (bag_own b n c))
