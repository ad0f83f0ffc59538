-- The notes of a query: one for each form, in order of opening lines, with what the rules give the form that opens on line n.
use Rattle.std.specs.Prelude.{ℕ, ◌+◌, List, [], ◌∷◌, ◌++◌, length, take, drop, ℤ, pos, Some, None, Ok, Err, Option, Result}
use Rattle.refusals.specs.declared.Refusal.{Refusal}
use Rattle.sources.specs.Shapes.{range}
use Rattle.sources.specs.declared.shapes.Range.{Range}
use Rattle.trees.specs.declared.Kind.{Kind}
use Rattle.trees.specs.declared.Kind.TheVariants.{Bag, Condition, Number, Term}
use Rattle.trees.specs.Tree.{Tree}
use Rattle.trees.specs.Tree.Tree.{bag, keep, put, pool, col, lit, plus, times, pick, less, equal, either, not, num, setting, var, count, sum, add, sub, least, most, scale, clip, let_in}
use Rattle.forms.specs.Lined.{past}
use Rattle.rules.specs.Amounts.{none}
use Rattle.rules.specs.Typing.{BagType, NumberType, bag_typed, number_typed, term_typed}
use Rattle.rules.specs.declared.amounts.Amounts.{Amounts}
use Rattle.rules.specs.declared.catalogue.Catalogue.{Catalogue}
use Rattle.typing.specs.declared.note.Note.{Note}

abbrev pub note : Option Kind → ℤ → ℤ → Amounts → Note
note k low high a = record { kind = k; low = low; high = high; sensitivities = a }

-- 0 for none
abbrev pub kind_number : Option Kind → ℕ
kind_number None = 0
kind_number (Some Term) = 1
kind_number (Some Condition) = 2
kind_number (Some Bag) = 3
kind_number (Some Number) = 4

abbrev pub blank_note : Note
blank_note = note None (pos 0) (pos 0) none

abbrev pub condition_note : Note
condition_note = note (Some Condition) (pos 0) (pos 0) none

abbrev pub term_note : Range → Note
term_note r = note (Some Term) r.low r.high none

abbrev pub bag_note : ℕ → Amounts → Note
bag_note limit a = note (Some Bag) (pos 0) (pos limit) a

abbrev pub number_note : Range → Amounts → Note
number_note r a = note (Some Number) r.low r.high a

-- what is noted of a form that the rules type
abbrev pub noted : {X : Type 0} → (X → Note) → Result X Refusal → Note
noted f (Ok x) = f x
noted f (Err r) = blank_note

-- the ranges that a typed bag gives its columns, and a typed number its variable
abbrev pub columns_in : Result BagType Refusal → List Range
columns_in (Ok x) = x.columns
columns_in (Err r) = []

abbrev pub range_in : Result NumberType Refusal → Range
range_in (Ok x) = x.range
range_in (Err r) = range (pos 0) (pos 0)

abbrev pub of_bag : BagType → Note
of_bag x = bag_note x.limit x.inputs

abbrev pub of_number : NumberType → Note
of_number x = number_note x.range x.inputs

abbrev mutual
  -- cs are the ranges of the columns of the bag beside
  pub term_notes : ℕ → List Range → Tree Term → List Note
  term_notes n cs (col j) = noted term_note (term_typed n cs (col j)) ∷ []
  term_notes n cs (lit v) = noted term_note (term_typed n cs (lit v)) ∷ []
  term_notes n cs (plus a b) = noted term_note (term_typed n cs (plus a b)) ∷ (term_notes (n + 1) cs a ++ term_notes (past (n + 1) a) cs b)
  term_notes n cs (times a b) = noted term_note (term_typed n cs (times a b)) ∷ (term_notes (n + 1) cs a ++ term_notes (past (n + 1) a) cs b)
  term_notes n cs (pick c a b) = noted term_note (term_typed n cs (pick c a b)) ∷ (condition_notes (n + 1) cs c ++ (term_notes (past (n + 1) c) cs a ++ term_notes (past (past (n + 1) c) a) cs b))

  pub condition_notes : ℕ → List Range → Tree Condition → List Note
  condition_notes n cs (less a b) = condition_note ∷ (term_notes (n + 1) cs a ++ term_notes (past (n + 1) a) cs b)
  condition_notes n cs (equal a b) = condition_note ∷ (term_notes (n + 1) cs a ++ term_notes (past (n + 1) a) cs b)
  condition_notes n cs (either c d) = condition_note ∷ (condition_notes (n + 1) cs c ++ condition_notes (past (n + 1) c) cs d)
  condition_notes n cs (not c) = condition_note ∷ condition_notes (n + 1) cs c

abbrev pub bag_notes : ℕ → Catalogue → Tree Bag → List Note
bag_notes n c (bag k) = noted of_bag (bag_typed n c (bag k)) ∷ []
bag_notes n c (keep b d) = noted of_bag (bag_typed n c (keep b d)) ∷ (bag_notes (n + 1) c b ++ condition_notes (past (n + 1) b) (columns_in (bag_typed (n + 1) c b)) d)
bag_notes n c (put j b t) = noted of_bag (bag_typed n c (put j b t)) ∷ (bag_notes (n + 1) c b ++ term_notes (past (n + 1) b) (columns_in (bag_typed (n + 1) c b)) t)
bag_notes n c (pool a b) = noted of_bag (bag_typed n c (pool a b)) ∷ (bag_notes (n + 1) c a ++ bag_notes (past (n + 1) a) c b)

-- rs are the ranges of the variables in scope, the innermost first
abbrev pub number_notes : ℕ → Catalogue → List Range → Tree Number → List Note
number_notes n c rs (num v) = noted of_number (number_typed n c rs (num v)) ∷ []
number_notes n c rs (setting k) = noted of_number (number_typed n c rs (setting k)) ∷ []
number_notes n c rs (var i) = noted of_number (number_typed n c rs (var i)) ∷ []
number_notes n c rs (count b) = noted of_number (number_typed n c rs (count b)) ∷ bag_notes (n + 1) c b
number_notes n c rs (sum lo hi b t) = noted of_number (number_typed n c rs (sum lo hi b t)) ∷ (bag_notes (n + 1) c b ++ term_notes (past (n + 1) b) (columns_in (bag_typed (n + 1) c b)) t)
number_notes n c rs (add a b) = noted of_number (number_typed n c rs (add a b)) ∷ (number_notes (n + 1) c rs a ++ number_notes (past (n + 1) a) c rs b)
number_notes n c rs (sub a b) = noted of_number (number_typed n c rs (sub a b)) ∷ (number_notes (n + 1) c rs a ++ number_notes (past (n + 1) a) c rs b)
number_notes n c rs (least a b) = noted of_number (number_typed n c rs (least a b)) ∷ (number_notes (n + 1) c rs a ++ number_notes (past (n + 1) a) c rs b)
number_notes n c rs (most a b) = noted of_number (number_typed n c rs (most a b)) ∷ (number_notes (n + 1) c rs a ++ number_notes (past (n + 1) a) c rs b)
number_notes n c rs (scale v a) = noted of_number (number_typed n c rs (scale v a)) ∷ number_notes (n + 1) c rs a
number_notes n c rs (clip lo hi a) = noted of_number (number_typed n c rs (clip lo hi a)) ∷ number_notes (n + 1) c rs a
number_notes n c rs (let_in a b) = noted of_number (number_typed n c rs (let_in a b)) ∷ (number_notes (n + 1) c rs a ++ number_notes (past (n + 1) a) c (range_in (number_typed (n + 1) c rs a) ∷ rs) b)

-- ns stand in the places from o on, and every other place is as it was
abbrev pub noted_at : List Note → ℕ → List Note → List Note
noted_at before o ns = take o before ++ (ns ++ drop (o + length ns) before)
