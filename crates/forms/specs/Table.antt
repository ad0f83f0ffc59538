-- Which tree stands at a position of a table. A table lists its forms in closing order: a part before its whole.
use Rattle.std.specs.Prelude.{◌≡◌, ℕ, List, [], ◌∷◌, ◌++◌, take, Some, None, Option, slice_index_or}
use Rattle.trees.specs.declared.Kind.TheVariants.{Term, Condition, Bag, Number}
use Rattle.trees.specs.Tree.{Tree}
use Rattle.trees.specs.Tree.Tree.{bag, keep, put, pool, col, lit, plus, times, pick, less, equal, either, not, num, setting, var, count, sum, add, sub, least, most, scale, clip, let_in}
use Rattle.forms.specs.declared.form.Entry.{Entry}
use Rattle.forms.specs.declared.form.Form.{Form}
use Rattle.forms.specs.declared.form.Form.TheVariants as form

-- the tree of a form, by its kind
abbrev pub TermTree : Type 0
TermTree = Tree Term

abbrev pub ConditionTree : Type 0
ConditionTree = Tree Condition

abbrev pub BagTree : Type 0
BagTree = Tree Bag

abbrev pub NumberTree : Type 0
NumberTree = Tree Number

-- the tree at a position, of one of four kinds, or none where the parts do not fit
pub data Part : Type 0 where
  bad : Part
  a_term : TermTree → Part
  a_condition : ConditionTree → Part
  a_bag : BagTree → Part
  a_number : NumberTree → Part

abbrev pub as_term : Part → Option TermTree
as_term bad = None
as_term (a_term t) = Some t
as_term (a_condition c) = None
as_term (a_bag b) = None
as_term (a_number n) = None

abbrev pub as_condition : Part → Option ConditionTree
as_condition bad = None
as_condition (a_term t) = None
as_condition (a_condition c) = Some c
as_condition (a_bag b) = None
as_condition (a_number n) = None

abbrev pub as_bag : Part → Option BagTree
as_bag bad = None
as_bag (a_term t) = None
as_bag (a_condition c) = None
as_bag (a_bag b) = Some b
as_bag (a_number n) = None

abbrev pub as_number : Part → Option NumberTree
as_number bad = None
as_number (a_term t) = None
as_number (a_condition c) = None
as_number (a_bag b) = None
as_number (a_number n) = Some n

-- a whole of one, two or three parts, bad where a part is not of the kind that its place wants
abbrev pub of_one : {X : Type 0} → (X → Part) → Option X → Part
of_one f None = bad
of_one f (Some x) = f x

abbrev pub of_two : {X Y : Type 0} → (X → Y → Part) → Option X → Option Y → Part
of_two f None o = bad
of_two f (Some x) o = of_one (f x) o

abbrev pub of_three : {X Y Z : Type 0} → (X → Y → Z → Part) → Option X → Option Y → Option Z → Part
of_three f None o p = bad
of_three f (Some x) o p = of_two (f x) o p

-- the part at a position, bad beyond the last
abbrev pub nth : List Part → ℕ → Part
nth ps p = slice_index_or ps p bad

abbrev pub term_in : List Part → ℕ → Option TermTree
term_in ps p = as_term (nth ps p)

abbrev pub condition_in : List Part → ℕ → Option ConditionTree
condition_in ps p = as_condition (nth ps p)

abbrev pub bag_in : List Part → ℕ → Option BagTree
bag_in ps p = as_bag (nth ps p)

abbrev pub number_in : List Part → ℕ → Option NumberTree
number_in ps p = as_number (nth ps p)

-- what a form makes of the parts before it
abbrev pub build : List Part → Form → Part
build ps (form.Bag k) = a_bag (bag k)
build ps (form.Keep b c) = of_two (λ x y. a_bag (keep x y)) (bag_in ps b) (condition_in ps c)
build ps (form.Put j b t) = of_two (λ x y. a_bag (put j x y)) (bag_in ps b) (term_in ps t)
build ps (form.Pool a b) = of_two (λ x y. a_bag (pool x y)) (bag_in ps a) (bag_in ps b)
build ps (form.Col j) = a_term (col j)
build ps (form.Lit n) = a_term (lit n)
build ps (form.Plus a b) = of_two (λ x y. a_term (plus x y)) (term_in ps a) (term_in ps b)
build ps (form.Times a b) = of_two (λ x y. a_term (times x y)) (term_in ps a) (term_in ps b)
build ps (form.Pick c a b) = of_three (λ x y z. a_term (pick x y z)) (condition_in ps c) (term_in ps a) (term_in ps b)
build ps (form.Less a b) = of_two (λ x y. a_condition (less x y)) (term_in ps a) (term_in ps b)
build ps (form.Equal a b) = of_two (λ x y. a_condition (equal x y)) (term_in ps a) (term_in ps b)
build ps (form.Either a b) = of_two (λ x y. a_condition (either x y)) (condition_in ps a) (condition_in ps b)
build ps (form.Not c) = of_one (λ x. a_condition (not x)) (condition_in ps c)
build ps (form.Num n) = a_number (num n)
build ps (form.Setting k) = a_number (setting k)
build ps (form.Var i) = a_number (var i)
build ps (form.Count b) = of_one (λ x. a_number (count x)) (bag_in ps b)
build ps (form.Sum lo hi b t) = of_two (λ x y. a_number (sum lo hi x y)) (bag_in ps b) (term_in ps t)
build ps (form.Add a b) = of_two (λ x y. a_number (add x y)) (number_in ps a) (number_in ps b)
build ps (form.Sub a b) = of_two (λ x y. a_number (sub x y)) (number_in ps a) (number_in ps b)
build ps (form.Least a b) = of_two (λ x y. a_number (least x y)) (number_in ps a) (number_in ps b)
build ps (form.Most a b) = of_two (λ x y. a_number (most x y)) (number_in ps a) (number_in ps b)
build ps (form.Scale n a) = of_one (λ x. a_number (scale n x)) (number_in ps a)
build ps (form.Clip lo hi a) = of_one (λ x. a_number (clip lo hi x)) (number_in ps a)
build ps (form.Let a b) = of_two (λ x y. a_number (let_in x y)) (number_in ps a) (number_in ps b)

-- the parts so far, and behind them the part of each entry
unfoldable pub parts_from : List Part → List Entry → List Part
parts_from ps [] = ps
parts_from ps (e ∷ es) = parts_from (ps ++ build ps e.form ∷ []) es

unfoldable pub parts : List Entry → List Part
parts es = parts_from [] es

-- the part at a position of the table
unfoldable pub part_at : List Entry → ℕ → Part
unfolding parts
part_at es p = nth (parts es) p

-- f is the form at the position: its part is what f makes of the parts before
abbrev pub Stands : List Entry → ℕ → Form → Type 0
Stands es p f = part_at es p ≡ build (take p (parts es)) f
