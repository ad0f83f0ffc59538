-- The catalogue of the bench plant, and a query on it.
use Rattle.std.specs.Prelude.{[], ◌∷◌, pos, negsuc}
use Rattle.forms.specs.Table.{NumberTree}
use Rattle.rules.specs.declared.catalogue.Catalogue.{Catalogue}
use Rattle.sources.specs.Shapes.{range}
use Rattle.sources.specs.declared.shapes.Range.{Range}
use Rattle.trees.specs.Tree.Tree.{add, bag, col, count, keep, less, lit, sum}

abbrev zero : Range
zero = range (pos 0) (pos 0)

abbrev pub bench_catalogue : Catalogue
bench_catalogue =
    record {
      sources =
          record { width = 2; limit = 8; columns = range (pos 0) (pos 7) ∷ range (pos 1130) (pos 1200) ∷ zero ∷ zero ∷ zero ∷ zero ∷ [] }
          ∷ record { width = 1; limit = 3; columns = range (pos 20) (pos 30) ∷ range (negsuc 0) (pos 1) ∷ zero ∷ zero ∷ zero ∷ zero ∷ [] }
          ∷ [];
      settings = range (pos 1000) (pos 1180) ∷ range (pos 5) (pos 10) ∷ [];
    }

-- how many rows of source 0 have less than 1180 in column 1, and the sum of column 0 of source 1
abbrev pub count_and_sum : NumberTree
count_and_sum = add (count (keep (bag (pos 0)) (less (col (pos 1)) (lit (pos 1180))))) (sum (negsuc 99) (pos 100) (bag (pos 1)) (col (pos 0)))
