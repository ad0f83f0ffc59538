-- How a kind is printed.
use Rattle.std.specs.Prelude.{ℕ, List, codes}
use Rattle.trees.specs.declared.Kind.{Kind}
use Rattle.trees.specs.declared.Kind.TheVariants.{Term, Condition, Bag, Number}

abbrev pub printed : Kind → List ℕ
printed Term = codes "term"
printed Condition = codes "condition"
printed Bag = codes "bag"
printed Number = codes "number"
