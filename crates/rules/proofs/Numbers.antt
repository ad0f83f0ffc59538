-- A typed number has its value within its range, and is calm; and so the rules keep what they promise.
use Rattle.std.proofs.Common.{◌≡◌, ℕ, zero, suc, ◌+◌, ◌<◌, ◌≤◌, max, Bool, true, ◌&&◌, List, [], ◌∷◌, length, get_or, ℤ, pos, negsuc, ◌+ℤ◌, ◌-ℤ◌, ◌*ℤ◌, nat_abs, Ok, refl, ap, subst, arith}
use lib.Signed.{le_z, ≤ℤ_refl}
use Rattle.refusals.specs.Rules.{or_else, or_else_none, refusal, unless, unless_none}
use Rattle.sources.specs.Shapes.{column}
use Rattle.sources.specs.declared.shapes.Range.{Range}
use Rattle.std.proofs.lemmas.Int.{ints}
use Rattle.std.proofs.lemmas.Bool.{false≢true}
use Rattle.std.specs.Int.{int_max, int_min}
use Rattle.forms.specs.Calm.{CalmNumber, PlaceBelow}
use Rattle.forms.specs.Limits.{number_bound}
use Rattle.forms.specs.Lined.{past}
use Rattle.trees.specs.declared.Kind.TheVariants.{Number}
use Rattle.trees.specs.Meaning.{Inputs, Row, at, clipped, number, rows, total, value}
use Rattle.trees.specs.Tree.{Tree}
use Rattle.trees.specs.Tree.Tree.{num, setting, var, count, sum, add, sub, least, most, scale, clip, let_in}
use Rattle.rules.specs.Amounts.{all_at_most, at_most, none, one_at, times as multiplied}
use Rattle.rules.specs.Catalogue.{setting_range}
use Rattle.rules.specs.Ranges.{bounded, counts, differences, greater, lesser, point, sums, totals}
use Rattle.rules.specs.Typing.{BagType, NumberType, after, bag_typed, both, cut, index, multiple, named, number_rule, number_typed, place, scope_rule, sensitivity_bound, settled, term_typed, unbound, variable}
use Rattle.rules.specs.declared.catalogue.Catalogue.{Catalogue}
use Rattle.rules.proofs.Bags.{RowsFit, bag_kept}
use Rattle.rules.proofs.Bounds.{In, in_bound, in_clip, in_clips, in_differences, in_greater, in_lesser, in_scaled, in_sums, in_totals}
use Rattle.rules.proofs.Steps.{after_ok, after_two_ok, index_below, place_below, settle_ok}

-- each variable in scope has its value within its range
abbrev InScope : List Range → List ℤ → Type 0
InScope [] [] = Unit {0}
InScope [] (v ∷ vs) = ⊥
InScope (r ∷ rs) [] = ⊥
InScope (r ∷ rs) (v ∷ vs) = In r v × InScope rs vs

scope_length : (rs : List Range) (vs : List ℤ) → InScope rs vs → length rs ≡ length vs
scope_length [] [] s = refl
scope_length [] (v ∷ vs) s = absurd s
scope_length (r ∷ rs) [] s = absurd s
scope_length (r ∷ rs) (v ∷ vs) s = ap suc (scope_length rs vs s.1)

scope_at : (rs : List Range) (vs : List ℤ) → InScope rs vs → (k : ℕ) → k < length rs → In (column rs k) (get_or vs k (pos 0))
scope_at [] vs s k h = absurd (omega arith)
scope_at (r ∷ rs) [] s k h = absurd s
scope_at (r ∷ rs) (v ∷ vs) s zero h = s.0
scope_at (r ∷ rs) (v ∷ vs) s (suc k) h = scope_at rs vs s.1 k (omega arith)

place_in : (f : ℕ → Range) (vs : List ℤ) (n : ℕ) (z : ℤ) → place n z ≡ true → ((k : ℕ) → k < n → In (f k) (get_or vs k (pos 0))) → In (f (index z)) (at vs z (pos 0))
place_in f vs n (pos k) e all = all k (index_below n (pos k) e)
place_in f vs n (negsuc k) e all = absurd (false≢true e)

-- what it tells that a number was settled
pub number_settled : (n : ℕ) (ok : Bool) (t x : NumberType) → settled n ok t ≡ Ok x → (ok ≡ true) × (bounded number_bound t.range ≡ true) × (t ≡ x)
number_settled n ok t x e =
    let s = settle_ok (or_else (scope_rule n ok) (number_rule n t)) t x e in
    let p = or_else_none (scope_rule n ok) (number_rule n t) s.0 in
    let q = or_else_none (unless (bounded number_bound t.range) (refusal 12 n 0)) (unless (at_most sensitivity_bound t.inputs && all_at_most sensitivity_bound t.vars) (refusal 13 n 0)) p.1 in
    (unless_none ok (refusal 11 n 0) p.0, unless_none (bounded number_bound t.range) (refusal 12 n 0) q.0, s.1)

kept : (n : ℕ) (ok : Bool) (t x : NumberType) (v : ℤ) → settled n ok t ≡ Ok x → In t.range v → In x.range v × (nat_abs v ≤ number_bound)
kept n ok t x v e h =
    let s = number_settled n ok t x e in
    (subst (λ (y : NumberType). In y.range v) s.2 h, in_bound number_bound t.range v s.1 h)

module _ (c : Catalogue) (i : Inputs) (fit : (k : ℕ) → k < 2 → RowsFit c i k) (set : (k : ℕ) → k < 2 → In (setting_range c k) (get_or i.settings k (pos 0))) where
  pub number_kept : (t : Tree Number) (rs : List Range) (vs : List ℤ) → InScope rs vs → (n : ℕ) (x : NumberType) → number_typed n c rs t ≡ Ok x → In x.range (number t i vs) × CalmNumber t i vs
  number_kept (num v) rs vs s n x e = kept n true (unbound rs (point v) none) x v e (≤ℤ_refl v, ≤ℤ_refl v)
  number_kept (setting k) rs vs s n x e =
      let t = unbound rs (setting_range c (index k)) (one_at (2 + index k)) in
      let ok = (number_settled n (place 2 k) t x e).0 in
      let h = kept n (place 2 k) t x (at i.settings k (pos 0)) e (place_in (setting_range c) i.settings 2 k ok set) in
      (h.0, (place_below 2 k ok, h.1))
  number_kept (var k) rs vs s n x e =
      let t = variable rs (index k) in
      let ok = (number_settled n (place (length rs) k) t x e).0 in
      let h = kept n (place (length rs) k) t x (at vs k (pos 0)) e (place_in (column rs) vs (length rs) k ok (scope_at rs vs s)) in
      (h.0, (subst (λ w. PlaceBelow w k) (scope_length rs vs s) (place_below (length rs) k ok), h.1))
  number_kept (count b) rs vs s n x e =
      let (y, p, end) = after_ok (bag_typed (n + 1) c b) (λ (y : BagType). settled n true (unbound rs (counts y.limit) y.inputs)) x e in
      let few = (bag_kept c i fit b (n + 1) y p).few_rows in
      let m = pos (length (rows b i.sources)) in
      kept n true (unbound rs (counts y.limit) y.inputs) x m end (omega (arith, ints, few), omega (arith, ints, few))
  number_kept (sum lo hi b t) rs vs s n x e =
      let f = λ (y : BagType). unbound rs (totals y.limit lo hi) (multiplied (max (nat_abs lo) (nat_abs hi)) y.inputs) in
      let (y, p, rest) = after_ok (bag_typed (n + 1) c b) (λ (y : BagType). after (term_typed (past (n + 1) b) y.columns t) (λ _. settled n (le_z lo hi) (f y))) x e in
      let (r, q, end) = after_ok (term_typed (past (n + 1) b) y.columns t) (λ _. settled n (le_z lo hi) (f y)) x rest in
      let ok = (number_settled n (le_z lo hi) (f y) x end).0 in
      let few = (bag_kept c i fit b (n + 1) y p).few_rows in
      let g = λ (row : Row). clipped lo hi (value t row) in
      kept n (le_z lo hi) (f y) x (total g (rows b i.sources)) end (in_totals g lo hi (λ row. in_clip lo hi (value t row) ok) (rows b i.sources) y.limit few)
  number_kept (add a b) rs vs s n x e =
      let (y, z, p, q, end) = after_two_ok (number_typed (n + 1) c rs a) (number_typed (past (n + 1) a) c rs b) (λ y z. settled n true (both sums y z)) x e in
      let f = number_kept a rs vs s (n + 1) y p in
      let g = number_kept b rs vs s (past (n + 1) a) z q in
      let h = kept n true (both sums y z) x (number a i vs +ℤ number b i vs) end (in_sums y.range z.range (number a i vs) (number b i vs) f.0 g.0) in
      (h.0, (h.1, f.1, g.1))
  number_kept (sub a b) rs vs s n x e =
      let (y, z, p, q, end) = after_two_ok (number_typed (n + 1) c rs a) (number_typed (past (n + 1) a) c rs b) (λ y z. settled n true (both differences y z)) x e in
      let f = number_kept a rs vs s (n + 1) y p in
      let g = number_kept b rs vs s (past (n + 1) a) z q in
      let h = kept n true (both differences y z) x (number a i vs -ℤ number b i vs) end (in_differences y.range z.range (number a i vs) (number b i vs) f.0 g.0) in
      (h.0, (h.1, f.1, g.1))
  number_kept (least a b) rs vs s n x e =
      let (y, z, p, q, end) = after_two_ok (number_typed (n + 1) c rs a) (number_typed (past (n + 1) a) c rs b) (λ y z. settled n true (both lesser y z)) x e in
      let f = number_kept a rs vs s (n + 1) y p in
      let g = number_kept b rs vs s (past (n + 1) a) z q in
      ((kept n true (both lesser y z) x (int_min (number a i vs) (number b i vs)) end (in_lesser y.range z.range (number a i vs) (number b i vs) f.0 g.0)).0, (f.1, g.1))
  number_kept (most a b) rs vs s n x e =
      let (y, z, p, q, end) = after_two_ok (number_typed (n + 1) c rs a) (number_typed (past (n + 1) a) c rs b) (λ y z. settled n true (both greater y z)) x e in
      let f = number_kept a rs vs s (n + 1) y p in
      let g = number_kept b rs vs s (past (n + 1) a) z q in
      ((kept n true (both greater y z) x (int_max (number a i vs) (number b i vs)) end (in_greater y.range z.range (number a i vs) (number b i vs) f.0 g.0)).0, (f.1, g.1))
  number_kept (scale v a) rs vs s n x e =
      let (y, p, end) = after_ok (number_typed (n + 1) c rs a) (λ y. settled n true (multiple v y)) x e in
      let f = number_kept a rs vs s (n + 1) y p in
      let h = kept n true (multiple v y) x (v *ℤ number a i vs) end (in_scaled v y.range (number a i vs) f.0) in
      (h.0, (h.1, f.1))
  number_kept (clip lo hi a) rs vs s n x e =
      let (y, p, end) = after_ok (number_typed (n + 1) c rs a) (λ y. settled n (le_z lo hi) (cut lo hi y)) x e in
      let f = number_kept a rs vs s (n + 1) y p in
      ((kept n (le_z lo hi) (cut lo hi y) x (clipped lo hi (number a i vs)) end (in_clips lo hi y.range (number a i vs) f.0)).0, f.1)
  number_kept (let_in a b) rs vs s n x e =
      let (y, p, rest) = after_ok (number_typed (n + 1) c rs a) (λ (y : NumberType). after (number_typed (past (n + 1) a) c (y.range ∷ rs) b) (λ z. settled n true (named y z))) x e in
      let (z, q, end) = after_ok (number_typed (past (n + 1) a) c (y.range ∷ rs) b) (λ z. settled n true (named y z)) x rest in
      let f = number_kept a rs vs s (n + 1) y p in
      let g = number_kept b (y.range ∷ rs) (number a i vs ∷ vs) (f.0, s) (past (n + 1) a) z q in
      ((kept n true (named y z) x (number b i (number a i vs ∷ vs)) end g.0).0, (f.1, g.1))
