-- The trees of two queries.
use Rattle.std.specs.Prelude.{pos}
use Rattle.forms.specs.Table.{BagTree, NumberTree}
use Rattle.trees.specs.Tree.Tree.{bag, clip, col, count, keep, less, lit, num, setting, sub}

-- the rows of source 0 with less than 1180 in column 1, and how many there are
abbrev pub rows_under : BagTree
rows_under = keep (bag (pos 0)) (less (col (pos 1)) (lit (pos 1180)))

abbrev pub readings_under : NumberTree
readings_under = count rows_under

-- how far setting 0 lies above 1175, from 0 to 10
abbrev pub margin : NumberTree
margin = clip (pos 0) (pos 10) (sub (setting (pos 0)) (num (pos 1175)))
