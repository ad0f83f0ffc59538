-- The value of each of the 25 words, by example.
use Rattle.std.specs.Prelude.{true, false, List, [], ◌∷◌, ◌≡◌, ℤ, pos, negsuc}
use Rattle.trees.specs.declared.Kind.TheVariants.{Bag, Condition, Number, Term}
use Rattle.trees.specs.Meaning.{Inputs, Row, holds, number, rows, value}
use Rattle.trees.specs.Tree.{Tree}
use Rattle.trees.specs.Tree.Tree.{bag, keep, put, pool, col, lit, plus, times, pick, less, equal, either, not, num, setting, var, count, sum, add, sub, least, most, scale, clip, let_in}

-- three readings, two spot readings, and two settings
abbrev readings : List Row
readings = (pos 0 ∷ pos 1130 ∷ []) ∷ (pos 1 ∷ pos 1140 ∷ []) ∷ (pos 2 ∷ pos 1150 ∷ []) ∷ []

abbrev spots : List Row
spots = (pos 20 ∷ []) ∷ (pos 25 ∷ []) ∷ []

abbrev plant : Inputs
plant = record { sources = readings ∷ spots ∷ []; settings = pos 1180 ∷ pos 5 ∷ [] }

-- on a row of 3 and 7
abbrev term : Tree Term → ℤ
term t = value t (pos 3 ∷ pos 7 ∷ [])

abbrev condition : Tree Condition → Type 0
condition c = holds c (pos 3 ∷ pos 7 ∷ []) ≡ true

abbrev rows_of : Tree Bag → List Row
rows_of b = rows b plant.sources

-- where two variables are in scope, the inner one 4 and the outer one 6
abbrev number_of : Tree Number → ℤ
number_of n = number n plant (pos 4 ∷ pos 6 ∷ [])

abbrev rising : Tree Condition
rising = less (col (pos 0)) (col (pos 1))

pub record Values : Type 0 where
  pub of_col : term (col (pos 1)) ≡ pos 7
  pub of_lit : term (lit (negsuc 3)) ≡ negsuc 3
  pub of_plus : term (plus (col (pos 0)) (col (pos 1))) ≡ pos 10
  pub of_times : term (times (col (pos 0)) (lit (negsuc 1))) ≡ negsuc 5
  pub of_pick : term (pick rising (lit (pos 1)) (lit (pos 2))) ≡ pos 1
  pub of_less : condition rising
  pub of_equal : condition (equal (col (pos 0)) (lit (pos 3)))
  pub of_either : condition (either (not rising) (equal (col (pos 0)) (lit (pos 3))))
  pub of_not : holds (not rising) (pos 3 ∷ pos 7 ∷ []) ≡ false
  pub of_bag : rows_of (bag (pos 1)) ≡ spots
  pub of_keep : rows_of (keep (bag (pos 0)) (less (col (pos 1)) (lit (pos 1140)))) ≡ (pos 0 ∷ pos 1130 ∷ []) ∷ []
  pub of_put : rows_of (put (pos 0) (bag (pos 1)) (plus (col (pos 0)) (lit (pos 1)))) ≡ (pos 21 ∷ []) ∷ (pos 26 ∷ []) ∷ []
  pub of_pool : rows_of (pool (bag (pos 1)) (keep (bag (pos 1)) (less (col (pos 0)) (lit (pos 25))))) ≡ (pos 20 ∷ []) ∷ (pos 25 ∷ []) ∷ (pos 20 ∷ []) ∷ []
  pub of_num : number_of (num (negsuc 8)) ≡ negsuc 8
  pub of_setting : number_of (setting (pos 1)) ≡ pos 5
  pub of_var : number_of (var (pos 1)) ≡ pos 6
  pub of_count : number_of (count (bag (pos 0))) ≡ pos 3
  pub of_sum : number_of (sum (pos 0) (pos 5) (bag (pos 0)) (plus (col (pos 1)) (lit (negsuc 1137)))) ≡ pos 7
  pub of_add : number_of (add (num (pos 2)) (num (pos 5))) ≡ pos 7
  pub of_sub : number_of (sub (num (pos 2)) (num (pos 5))) ≡ negsuc 2
  pub of_least : number_of (least (num (pos 2)) (num (pos 5))) ≡ pos 2
  pub of_most : number_of (most (num (pos 2)) (num (pos 5))) ≡ pos 5
  pub of_scale : number_of (scale (negsuc 2) (var (pos 0))) ≡ negsuc 11
  pub of_clip : number_of (clip (pos 0) (pos 10) (num (pos 14))) ≡ pos 10
  pub of_let : number_of (let_in (num (pos 9)) (add (var (pos 0)) (var (pos 1)))) ≡ pos 13
