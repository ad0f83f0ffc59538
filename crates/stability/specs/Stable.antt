-- How far two plants are apart at each input, and how far a query's value can move between them.
use Rattle.std.specs.Prelude.{◌≡◌, ℕ, ◌+◌, ◌*◌, ◌≤◌, [], ℤ, pos, ◌-ℤ◌, Ok, slice_index_or, unsigned_abs}
use Rattle.bags.specs.Distance.{distance}
use Rattle.rules.specs.Amounts.{amounts}
use Rattle.rules.specs.Typing.{NumberType, number_typed}
use Rattle.rules.specs.declared.amounts.Amounts.{Amounts}
use Rattle.rules.specs.declared.catalogue.Catalogue.{Catalogue}
use Rattle.trees.specs.declared.Kind.TheVariants.{Number}
use Rattle.trees.specs.Meaning.{Inputs, number}
use Rattle.trees.specs.Tree.{Tree}

-- the positive difference of two numbers
abbrev pub apart : ℤ → ℤ → ℕ
apart x y = unsigned_abs (x -ℤ y)

-- sources by their rows, settings by their positive difference
abbrev pub distances : Inputs → Inputs → Amounts
distances i j =
    amounts
    (distance (slice_index_or i.sources 0 []) (slice_index_or j.sources 0 []))
    (distance (slice_index_or i.sources 1 []) (slice_index_or j.sources 1 []))
    (apart (slice_index_or i.settings 0 (pos 0)) (slice_index_or j.settings 0 (pos 0)))
    (apart (slice_index_or i.settings 1 (pos 0)) (slice_index_or j.settings 1 (pos 0)))

-- sensitivity times distance, added over the four inputs
abbrev pub weighted : Amounts → Amounts → ℕ
weighted a d = (a.source_0 * d.source_0) + (a.source_1 * d.source_1) + (a.setting_0 * d.setting_0) + (a.setting_1 * d.setting_1)

abbrev pub Stable : Type 0
Stable = (c : Catalogue) (t : Tree Number) (n : ℕ) (x : NumberType) → number_typed n c [] t ≡ Ok x → (i j : Inputs) → apart (number t i []) (number t j []) ≤ weighted x.inputs (distances i j)
