-- The tree of a query: a form with its numbers and its parts in order, of one of four kinds.
use Rattle.std.specs.Prelude.{ℤ}
use Rattle.trees.specs.declared.Kind.{Kind}
use Rattle.trees.specs.declared.Kind.TheVariants.{Term, Condition, Bag, Number}

pub data Tree : Kind → Type 0 where
  bag : ℤ → Tree Bag
  keep : Tree Bag → Tree Condition → Tree Bag
  put : ℤ → Tree Bag → Tree Term → Tree Bag
  pool : Tree Bag → Tree Bag → Tree Bag
  col : ℤ → Tree Term
  lit : ℤ → Tree Term
  plus : Tree Term → Tree Term → Tree Term
  times : Tree Term → Tree Term → Tree Term
  pick : Tree Condition → Tree Term → Tree Term → Tree Term
  less : Tree Term → Tree Term → Tree Condition
  equal : Tree Term → Tree Term → Tree Condition
  either : Tree Condition → Tree Condition → Tree Condition
  not : Tree Condition → Tree Condition
  num : ℤ → Tree Number
  setting : ℤ → Tree Number
  var : ℤ → Tree Number
  count : Tree Bag → Tree Number
  sum : ℤ → ℤ → Tree Bag → Tree Term → Tree Number
  add : Tree Number → Tree Number → Tree Number
  sub : Tree Number → Tree Number → Tree Number
  least : Tree Number → Tree Number → Tree Number
  most : Tree Number → Tree Number → Tree Number
  scale : ℤ → Tree Number → Tree Number
  clip : ℤ → ℤ → Tree Number → Tree Number
  let_in : Tree Number → Tree Number → Tree Number

-- a tree of any kind
abbrev pub AnyTree : Type 0
AnyTree = (k : Kind) × Tree k

abbrev pub any : {k : Kind} → Tree k → AnyTree
any {k} t = (k, t)
