-- The rules: what each form is given, and the first reason to refuse a query, forms in the order in which they close.
-- A form is placed at the line that opens it; n is that line.
use Rattle.std.specs.Prelude.{ℕ, ◌+◌, max, Bool, true, false, cond, ◌&&◌, List, ◌∷◌, length, drop, replicate, ℤ, pos, negsuc, Some, None, Ok, Err, Option, Result, ◌==◌, int_le, nat_le, slice_index_or, slice_set, unsigned_abs}
use Rattle.refusals.specs.Rules.{or_else, refusal, unless}
use Rattle.refusals.specs.declared.Refusal.{Refusal}
use Rattle.sources.specs.Indexed.{listed}
use Rattle.sources.specs.Shapes.{column, columns_of}
use Rattle.sources.specs.Unions.{hull, hulls}
use Rattle.sources.specs.declared.shapes.Range.{Range}
use Rattle.forms.specs.Limits.{number_bound, term_bound}
pub use Rattle.forms.specs.Lined.{past}
use Rattle.trees.specs.declared.Kind.TheVariants.{Bag, Condition, Number, Term}
use Rattle.trees.specs.Tree.{Tree}
use Rattle.trees.specs.Tree.Tree.{bag, keep, put, pool, col, lit, plus, times, pick, less, equal, either, not, num, setting, var, count, sum, add, sub, least, most, scale, clip, let_in}
use Rattle.rules.specs.Amounts.{added, all_added, all_at_most, all_times, at_most, none, one_at, times as multiplied}
use Rattle.rules.specs.Catalogue.{setting_range, source_shape}
use Rattle.rules.specs.Ranges.{bounded, clips, counts, differences, greater, lesser, point, products, scaled, sums, totals}
use Rattle.rules.specs.declared.amounts.Amounts.{Amounts}
use Rattle.rules.specs.declared.catalogue.Catalogue.{Catalogue}

-- how far a sensitivity may go
abbrev pub sensitivity_bound : ℕ
sensitivity_bound = 1_000_000_000

-- what the rules give a bag: the most rows, the columns' ranges, and how far it moves with each input
pub record BagType : Type 0 where
  pub limit : ℕ
  pub columns : List Range
  pub inputs : Amounts

-- and a number: its range, and how far it moves with each input and each variable in scope, the innermost first
pub record NumberType : Type 0 where
  pub range : Range
  pub inputs : Amounts
  pub vars : List ℕ

-- x, unless there is a reason to refuse
abbrev pub settle : {X : Type 0} → Option Refusal → X → Result X Refusal
settle None x = Ok x
settle (Some r) x = Err r

-- f is what follows where nothing was refused
abbrev pub after : {X Y : Type 0} → Result X Refusal → (X → Result Y Refusal) → Result Y Refusal
after (Ok x) f = f x
after (Err r) f = Err r

abbrev pub after_two : {X Y Z : Type 0} → Result X Refusal → Result Y Refusal → (X → Y → Result Z Refusal) → Result Z Refusal
after_two a b f = after a (λ x. after b (f x))

-- z is a place from 0 on, below n
abbrev pub place : ℕ → ℤ → Bool
place n (pos i) = nat_le (i + 1) n
place n (negsuc i) = false

abbrev pub index : ℤ → ℕ
index z = unsigned_abs z

-- 11: a place that is not there, bounds in the wrong order, or widths that differ
abbrev pub scope_rule : ℕ → Bool → Option Refusal
scope_rule n ok = unless ok (refusal 11 n 0)

-- 12: a range past its bound
abbrev pub term_rule : ℕ → Range → Option Refusal
term_rule n r = unless (bounded term_bound r) (refusal 12 n 0)

-- 12, and 13: a sensitivity past its bound
abbrev pub number_rule : ℕ → NumberType → Option Refusal
number_rule n t = or_else (unless (bounded number_bound t.range) (refusal 12 n 0)) (unless (at_most sensitivity_bound t.inputs && all_at_most sensitivity_bound t.vars) (refusal 13 n 0))

abbrev pub bag_rule : ℕ → BagType → Option Refusal
bag_rule n t = unless (at_most sensitivity_bound t.inputs) (refusal 13 n 0)

abbrev pub settled_term : ℕ → Bool → Range → Result Range Refusal
settled_term n ok r = settle (or_else (scope_rule n ok) (term_rule n r)) r

abbrev mutual
  -- cs are the ranges of the bag's columns
  pub term_typed : ℕ → List Range → Tree Term → Result Range Refusal
  term_typed n cs (col j) = settled_term n (place (length cs) j) (column cs (index j))
  term_typed n cs (lit v) = settled_term n true (point v)
  term_typed n cs (plus a b) = after_two (term_typed (n + 1) cs a) (term_typed (past (n + 1) a) cs b) (λ x y. settled_term n true (sums x y))
  term_typed n cs (times a b) = after_two (term_typed (n + 1) cs a) (term_typed (past (n + 1) a) cs b) (λ x y. settled_term n true (products x y))
  term_typed n cs (pick c a b) = after (condition_typed (n + 1) cs c) (λ _. after_two (term_typed (past (n + 1) c) cs a) (term_typed (past (past (n + 1) c) a) cs b) (λ x y. settled_term n true (hull x y)))

  pub condition_typed : ℕ → List Range → Tree Condition → Result (Unit {0}) Refusal
  condition_typed n cs (less a b) = after_two (term_typed (n + 1) cs a) (term_typed (past (n + 1) a) cs b) (λ _ _. Ok tt)
  condition_typed n cs (equal a b) = after_two (term_typed (n + 1) cs a) (term_typed (past (n + 1) a) cs b) (λ _ _. Ok tt)
  condition_typed n cs (either c d) = after_two (condition_typed (n + 1) cs c) (condition_typed (past (n + 1) c) cs d) (λ _ _. Ok tt)
  condition_typed n cs (not c) = condition_typed (n + 1) cs c

abbrev pub source_type : Catalogue → ℕ → BagType
source_type c k = record { limit = (source_shape c k).limit; columns = columns_of (source_shape c k); inputs = one_at k }

abbrev pub replaced : BagType → ℕ → Range → BagType
replaced x j r = record { limit = x.limit; columns = slice_set x.columns j r; inputs = x.inputs }

abbrev pub pooled : BagType → BagType → BagType
pooled x y = record { limit = x.limit + y.limit; columns = hulls x.columns y.columns; inputs = added x.inputs y.inputs }

abbrev pub bag_typed : ℕ → Catalogue → Tree Bag → Result BagType Refusal
bag_typed n c (bag k) = settle (scope_rule n (place 2 k)) (source_type c (index k))
bag_typed n c (keep b d) = after (bag_typed (n + 1) c b) (λ x. after (condition_typed (past (n + 1) b) x.columns d) (λ _. Ok x))
bag_typed n c (put j b t) = after (bag_typed (n + 1) c b) (λ x. after (term_typed (past (n + 1) b) x.columns t) (λ r. settle (scope_rule n (place (length x.columns) j)) (replaced x (index j) r)))
bag_typed n c (pool a b) = after_two (bag_typed (n + 1) c a) (bag_typed (past (n + 1) a) c b) (λ x y. settle (or_else (scope_rule n (length x.columns == length y.columns)) (bag_rule n (pooled x y))) (pooled x y))

-- a number that moves with inputs, and with no variable of those in scope, whose ranges are rs
abbrev pub unbound : List Range → Range → Amounts → NumberType
unbound rs r a = record { range = r; inputs = a; vars = replicate (length rs) 0 }

abbrev pub variable : List Range → ℕ → NumberType
variable rs i = record { range = column rs i; inputs = none; vars = listed (λ v. cond (v == i) 1 0) (length rs) }

abbrev pub both : (Range → Range → Range) → NumberType → NumberType → NumberType
both f x y = record { range = f x.range y.range; inputs = added x.inputs y.inputs; vars = all_added x.vars y.vars }

abbrev pub multiple : ℤ → NumberType → NumberType
multiple v x = record { range = scaled v x.range; inputs = multiplied (unsigned_abs v) x.inputs; vars = all_times (unsigned_abs v) x.vars }

abbrev pub cut : ℤ → ℤ → NumberType → NumberType
cut lo hi x = record { range = clips lo hi x.range; inputs = x.inputs; vars = x.vars }

-- y uses the innermost variable, which is x, as often as it is sensitive to it
abbrev pub named : NumberType → NumberType → NumberType
named x y =
    let r : ℕ = slice_index_or y.vars 0 0 in
    record { range = y.range; inputs = added y.inputs (multiplied r x.inputs); vars = all_added (drop 1 y.vars) (all_times r x.vars) }

abbrev pub settled : ℕ → Bool → NumberType → Result NumberType Refusal
settled n ok t = settle (or_else (scope_rule n ok) (number_rule n t)) t

-- rs are the ranges of the variables in scope, the innermost first
abbrev pub number_typed : ℕ → Catalogue → List Range → Tree Number → Result NumberType Refusal
number_typed n c rs (num v) = settled n true (unbound rs (point v) none)
number_typed n c rs (setting k) = settled n (place 2 k) (unbound rs (setting_range c (index k)) (one_at (2 + index k)))
number_typed n c rs (var i) = settled n (place (length rs) i) (variable rs (index i))
number_typed n c rs (count b) = after (bag_typed (n + 1) c b) (λ x. settled n true (unbound rs (counts x.limit) x.inputs))
number_typed n c rs (sum lo hi b t) = after (bag_typed (n + 1) c b) (λ x. after (term_typed (past (n + 1) b) x.columns t) (λ _. settled n (int_le lo hi) (unbound rs (totals x.limit lo hi) (multiplied (max (unsigned_abs lo) (unsigned_abs hi)) x.inputs))))
number_typed n c rs (add a b) = after_two (number_typed (n + 1) c rs a) (number_typed (past (n + 1) a) c rs b) (λ x y. settled n true (both sums x y))
number_typed n c rs (sub a b) = after_two (number_typed (n + 1) c rs a) (number_typed (past (n + 1) a) c rs b) (λ x y. settled n true (both differences x y))
number_typed n c rs (least a b) = after_two (number_typed (n + 1) c rs a) (number_typed (past (n + 1) a) c rs b) (λ x y. settled n true (both lesser x y))
number_typed n c rs (most a b) = after_two (number_typed (n + 1) c rs a) (number_typed (past (n + 1) a) c rs b) (λ x y. settled n true (both greater x y))
number_typed n c rs (scale v a) = after (number_typed (n + 1) c rs a) (λ x. settled n true (multiple v x))
number_typed n c rs (clip lo hi a) = after (number_typed (n + 1) c rs a) (λ x. settled n (int_le lo hi) (cut lo hi x))
number_typed n c rs (let_in a b) = after (number_typed (n + 1) c rs a) (λ x. after (number_typed (past (n + 1) a) c (x.range ∷ rs) b) (λ y. settled n true (named x y)))
