-- A typed bag and a typed number move by no more than their sensitivities times the distances.
use Rattle.std.proofs.Common.{◌≡◌, ℕ, zero, suc, ◌+◌, ◌*◌, ◌≤◌, max, Bool, true, cond, eqb, List, [], ◌∷◌, length, get_or, drop, ℤ, pos, negsuc, ◌+ℤ◌, ◌-ℤ◌, ◌*ℤ◌, nat_abs, Ok, sym, refl, ap, ◌∙◌, subst, ap₂, mul-le-mul_left, arith}
use native.Mathlib.Nat.{sub-zero}
use lib.Signed.{le_z}
use Rattle.bags.proofs.Laws.{distance_bounding, distance_steady}
use Rattle.bags.specs.Distance.{distance}
use Rattle.bags.specs.Laws.{total as total_of}
use Rattle.refusals.specs.Rules.{or_else, refusal, unless_none}
use Rattle.rules.proofs.Numbers.{number_settled}
use Rattle.rules.proofs.Steps.{after_ok, after_two_ok, index_below, settle_ok}
use Rattle.rules.specs.Amounts.{added, all_added, all_times, one_at, none, times as multiplied}
use Rattle.rules.specs.Catalogue.{setting_range}
use Rattle.rules.specs.Ranges.{counts, differences, greater, lesser, point, sums, totals}
use Rattle.rules.specs.Typing.{BagType, NumberType, after, bag_rule, bag_typed, both, condition_typed, cut, index, multiple, named, number_typed, place, pooled, replaced, scope_rule, settle, settled, source_type, term_typed, unbound, variable}
use Rattle.rules.specs.declared.amounts.Amounts.{Amounts}
use Rattle.rules.specs.declared.catalogue.Catalogue.{Catalogue}
use Rattle.sources.specs.Source.{Row}
use Rattle.sources.specs.declared.shapes.Range.{Range}
use Rattle.std.proofs.lemmas.List.FromFn.{length-map-range_with_len}
use Rattle.std.proofs.lemmas.List.{length-map, length-replicate}
use Rattle.std.proofs.lemmas.Int.{ints}
use Rattle.std.proofs.lemmas.Bool.{false≢true}
use Rattle.std.specs.Int.{int_max, int_min}
use Rattle.forms.specs.Lined.{past}
use Rattle.trees.specs.declared.Kind.TheVariants.{Bag, Number}
use Rattle.trees.specs.Meaning.{Inputs, at, clipped, holds, number, rows, total, value, with_cell}
use Rattle.trees.specs.Tree.{Tree}
use Rattle.trees.specs.Tree.Tree.{bag, keep, put, pool, num, setting, var, count, sum, add, sub, least, most, scale, clip, let_in}
use Rattle.stability.specs.Stable.{Stable, apart, distances, weighted}
use Rattle.stability.proofs.Moves.{add_moves, clip_moves, clip_size, least_moves, most_moves, scale_moves, sub_moves}
use Rattle.stability.proofs.Weights.{dot, dot_added, dot_none, dot_nothing, dot_one, dot_times, length_added}

module _ (c : Catalogue) (i j : Inputs) where
  source_moves : (k : ℤ) → place 2 k ≡ true → distance (rows (bag k) i.sources) (rows (bag k) j.sources) ≤ weighted (one_at (index k)) (distances i j)
  source_moves (pos zero) e = omega arith
  source_moves (pos (suc zero)) e = omega arith
  source_moves (pos (suc (suc k))) e = absurd (omega (arith, index_below 2 (pos (suc (suc k))) e))
  source_moves (negsuc k) e = absurd (false≢true e)

  pub bag_moves : (b : Tree Bag) (n : ℕ) (x : BagType) → bag_typed n c b ≡ Ok x → distance (rows b i.sources) (rows b j.sources) ≤ weighted x.inputs (distances i j)
  bag_moves (bag k) n x e =
      let s = settle_ok (scope_rule n (place 2 k)) (source_type c (index k)) x e in
      subst (λ (y : BagType). distance (rows (bag k) i.sources) (rows (bag k) j.sources) ≤ weighted y.inputs (distances i j)) s.1 (source_moves k (unless_none (place 2 k) (refusal 11 n 0) s.0))
  bag_moves (keep b d) n x e =
      let (y, p, rest) = after_ok (bag_typed (n + 1) c b) (λ (y : BagType). after (condition_typed (past (n + 1) b) y.columns d) (λ _. Ok y)) x e in
      let (u, q, end) = after_ok (condition_typed (past (n + 1) b) y.columns d) (λ _. Ok y) x rest in
      let is : y ≡ x = cc in
      let same = ap (λ (z : BagType). weighted z.inputs (distances i j)) is in
      omega (arith, same, bag_moves b (n + 1) y p, distance_steady.kept (holds d) (rows b i.sources) (rows b j.sources))
  bag_moves (put k b t) n x e =
      let f = λ (y : BagType) (r : Range). settle (scope_rule n (place (length y.columns) k)) (replaced y (index k) r) in
      let (y, p, rest) = after_ok (bag_typed (n + 1) c b) (λ (y : BagType). after (term_typed (past (n + 1) b) y.columns t) (f y)) x e in
      let (r, q, end) = after_ok (term_typed (past (n + 1) b) y.columns t) (f y) x rest in
      let s = settle_ok (scope_rule n (place (length y.columns) k)) (replaced y (index k) r) x end in
      let same = ap (λ (z : BagType). weighted z.inputs (distances i j)) s.1 in
      omega (arith, same, bag_moves b (n + 1) y p, distance_steady.mapped (λ (row : Row). with_cell row k (value t row)) (rows b i.sources) (rows b j.sources))
  bag_moves (pool a b) n x e =
      let f = λ (y z : BagType). settle (or_else (scope_rule n (eqb (length y.columns) (length z.columns))) (bag_rule n (pooled y z))) (pooled y z) in
      let (y, z, p, q, end) = after_two_ok (bag_typed (n + 1) c a) (bag_typed (past (n + 1) a) c b) f x e in
      let s = settle_ok (or_else (scope_rule n (eqb (length y.columns) (length z.columns))) (bag_rule n (pooled y z))) (pooled y z) x end in
      let same = ap (λ (w : BagType). weighted w.inputs (distances i j)) s.1 in
      omega (arith, same, bag_moves a (n + 1) y p, bag_moves b (past (n + 1) a) z q, distance_steady.joined (rows a i.sources) (rows a j.sources) (rows b i.sources) (rows b j.sources))

-- how far the values of variables are apart
abbrev gaps : List ℤ → List ℤ → List ℕ
gaps [] ws = []
gaps (v ∷ vs) [] = []
gaps (v ∷ vs) (w ∷ ws) = apart v w ∷ gaps vs ws

gaps_at : (vs ws : List ℤ) (k : ℕ) → length vs ≡ length ws → apart (get_or vs k (pos 0)) (get_or ws k (pos 0)) ≤ get_or (gaps vs ws) k 0
gaps_at [] [] k h = omega arith
gaps_at [] (w ∷ ws) k h = absurd (omega arith)
gaps_at (v ∷ vs) [] k h = absurd (omega arith)
gaps_at (v ∷ vs) (w ∷ ws) zero h = omega arith
gaps_at (v ∷ vs) (w ∷ ws) (suc k) h = gaps_at vs ws k (omega arith)

gaps_length : (vs ws : List ℤ) → length vs ≡ length ws → length (gaps vs ws) ≡ length vs
gaps_length [] ws h = refl
gaps_length (v ∷ vs) [] h = absurd (omega arith)
gaps_length (v ∷ vs) (w ∷ ws) h = omega (arith, gaps_length vs ws (omega arith))

same_total : (f : Row → ℤ) (rs : List Row) → total_of f rs ≡ total f rs
same_total f [] = refl
same_total f (r ∷ rs) = ap (λ z. f r +ℤ z) (same_total f rs)

-- a number has a sensitivity for each of m variables, and moves by no more than g
abbrev Moved : ℕ → Amounts → List ℕ → ℕ → NumberType → Type 0
Moved m d es g x = (length x.vars ≡ m) × (g ≤ weighted x.inputs d + dot x.vars es)

moved : (n m g : ℕ) (d : Amounts) (es : List ℕ) (ok : Bool) (t x : NumberType) → settled n ok t ≡ Ok x → Moved m d es g t → Moved m d es g x
moved n m g d es ok t x e h = subst (Moved m d es g) (number_settled n ok t x e).2 h

-- a number without variables
free : (rs : List Range) (r : Range) (a d : Amounts) (es : List ℕ) (g : ℕ) → g ≤ weighted a d → Moved (length rs) d es g (unbound rs r a)
free rs r a d es g h = (length-replicate (length rs) 0, omega (arith, h, dot_none (length rs) es))

-- two parts that add up
two_moved : (f : Range → Range → Range) (m g h k : ℕ) (d : Amounts) (es : List ℕ) (y z : NumberType) → Moved m d es g y → Moved m d es h z → k ≤ g + h → Moved m d es k (both f y z)
two_moved f m g h k d es y z p q far =
    let same = p.0 ∙ sym q.0 in
    (length_added y.vars z.vars same ∙ p.0, omega (arith, far, p.1, q.1, dot_added y.vars z.vars es same))

-- an operation that moves by no more than its two parts together
pair_moved : (f : Range → Range → Range) (op : ℤ → ℤ → ℤ) → ((x y u v : ℤ) → apart (op x u) (op y v) ≤ apart x y + apart u v) → (n m : ℕ) (d : Amounts) (es : List ℕ) (y z x : NumberType) → settled n true (both f y z) ≡ Ok x → (u v s w : ℤ) → Moved m d es (apart u v) y → Moved m d es (apart s w) z → Moved m d es (apart (op u s) (op v w)) x
pair_moved f op moves n m d es y z x e u v s w p q = moved n m (apart (op u s) (op v w)) d es true (both f y z) x e (two_moved f m (apart u v) (apart s w) (apart (op u s) (op v w)) d es y z p q (moves u v s w))

-- what a variable's value moves, times how often it is used
let_moved : (m g h : ℕ) (d : Amounts) (es : List ℕ) (y z : NumberType) → Moved m d es g y → Moved (suc m) d (g ∷ es) h z → Moved m d es h (named y z)
let_moved m g h d es y z p q = go z.vars q.0 q.1
  where
    go : (us : List ℕ) → length us ≡ suc m → h ≤ weighted z.inputs d + dot us (g ∷ es) → (length (all_added (drop 1 us) (all_times (get_or us 0 0) y.vars)) ≡ m) × (h ≤ weighted (added z.inputs (multiplied (get_or us 0 0) y.inputs)) d + dot (all_added (drop 1 us) (all_times (get_or us 0 0) y.vars)) es)
    go [] long far = absurd (omega arith)
    go (r ∷ us) long far =
        let same : length us ≡ length (all_times r y.vars) = omega (arith, length-map y.vars (λ x. r * x), p.0) in
        let short : length us ≡ m = omega arith in
        (length_added us (all_times r y.vars) same ∙ short, omega (arith, far, mul-le-mul_left r p.1, dot_added us (all_times r y.vars) es same, dot_times r y.vars es))

module _ (c : Catalogue) (i j : Inputs) where
  setting_moves : (k : ℤ) → place 2 k ≡ true → apart (at i.settings k (pos 0)) (at j.settings k (pos 0)) ≤ weighted (one_at (2 + index k)) (distances i j)
  setting_moves (pos zero) e = omega arith
  setting_moves (pos (suc zero)) e = omega arith
  setting_moves (pos (suc (suc k))) e = absurd (omega (arith, index_below 2 (pos (suc (suc k))) e))
  setting_moves (negsuc k) e = absurd (false≢true e)

  var_moves : (rs : List Range) (vs ws : List ℤ) → length vs ≡ length rs → length ws ≡ length rs → (k : ℤ) → place (length rs) k ≡ true → Moved (length rs) (distances i j) (gaps vs ws) (apart (at vs k (pos 0)) (at ws k (pos 0))) (variable rs (index k))
  var_moves rs vs ws p q (pos k) e =
      let es = gaps vs ws in
      let long = gaps_length vs ws (p ∙ sym q) in
      let one = dot_one k 0 (length rs) es (omega arith) (omega (arith, index_below (length rs) (pos k) e)) (omega (arith, long, p)) in
      let there = ap (λ m. get_or es m 0) (sub-zero k) in
      (length-map-range_with_len (λ v. cond (eqb v k) 1 0) 0 (length rs), omega (arith, one, there, gaps_at vs ws k (p ∙ sym q)))
  var_moves rs vs ws p q (negsuc k) e = absurd (false≢true e)

  pub number_moves : (t : Tree Number) (rs : List Range) (vs ws : List ℤ) → length vs ≡ length rs → length ws ≡ length rs → (n : ℕ) (x : NumberType) → number_typed n c rs t ≡ Ok x → Moved (length rs) (distances i j) (gaps vs ws) (apart (number t i vs) (number t j ws)) x
  number_moves (num v) rs vs ws p q n x e = moved n (length rs) (apart v v) (distances i j) (gaps vs ws) true (unbound rs (point v) none) x e (free rs (point v) none (distances i j) (gaps vs ws) (apart v v) (omega (arith, ints)))
  number_moves (setting k) rs vs ws p q n x e =
      let t = unbound rs (setting_range c (index k)) (one_at (2 + index k)) in
      let g = apart (at i.settings k (pos 0)) (at j.settings k (pos 0)) in
      let ok = (number_settled n (place 2 k) t x e).0 in
      moved n (length rs) g (distances i j) (gaps vs ws) (place 2 k) t x e (free rs (setting_range c (index k)) (one_at (2 + index k)) (distances i j) (gaps vs ws) g (setting_moves k ok))
  number_moves (var k) rs vs ws p q n x e =
      let g = apart (at vs k (pos 0)) (at ws k (pos 0)) in
      let ok = (number_settled n (place (length rs) k) (variable rs (index k)) x e).0 in
      moved n (length rs) g (distances i j) (gaps vs ws) (place (length rs) k) (variable rs (index k)) x e (var_moves rs vs ws p q k ok)
  number_moves (count b) rs vs ws p q n x e =
      let (y, h, end) = after_ok (bag_typed (n + 1) c b) (λ (y : BagType). settled n true (unbound rs (counts y.limit) y.inputs)) x e in
      let us = rows b i.sources in
      let zs = rows b j.sources in
      let g = apart (pos (length us)) (pos (length zs)) in
      let far : g ≤ weighted y.inputs (distances i j) = omega (arith, ints, bag_moves c i j b (n + 1) y h, distance_bounding.lengths us zs) in
      moved n (length rs) g (distances i j) (gaps vs ws) true (unbound rs (counts y.limit) y.inputs) x end (free rs (counts y.limit) y.inputs (distances i j) (gaps vs ws) g far)
  number_moves (sum lo hi b t) rs vs ws p q n x e =
      let m = max (nat_abs lo) (nat_abs hi) in
      let f = λ (y : BagType). unbound rs (totals y.limit lo hi) (multiplied m y.inputs) in
      let (y, h, rest) = after_ok (bag_typed (n + 1) c b) (λ (y : BagType). after (term_typed (past (n + 1) b) y.columns t) (λ _. settled n (le_z lo hi) (f y))) x e in
      let (r, k, end) = after_ok (term_typed (past (n + 1) b) y.columns t) (λ _. settled n (le_z lo hi) (f y)) x rest in
      let ok = (number_settled n (le_z lo hi) (f y) x end).0 in
      let us = rows b i.sources in
      let zs = rows b j.sources in
      let cut_term = λ (row : Row). clipped lo hi (value t row) in
      let g = apart (total cut_term us) (total cut_term zs) in
      let same = ap₂ apart (same_total cut_term us) (same_total cut_term zs) in
      let far : g ≤ weighted (multiplied m y.inputs) (distances i j) = omega (arith, same, distance_bounding.sums cut_term m (λ row. clip_size lo hi (value t row) ok) us zs, mul-le-mul_left m (bag_moves c i j b (n + 1) y h)) in
      moved n (length rs) g (distances i j) (gaps vs ws) (le_z lo hi) (f y) x end (free rs (totals y.limit lo hi) (multiplied m y.inputs) (distances i j) (gaps vs ws) g far)
  number_moves (add a b) rs vs ws p q n x e =
      let (y, z, h, k, end) = after_two_ok (number_typed (n + 1) c rs a) (number_typed (past (n + 1) a) c rs b) (λ y z. settled n true (both sums y z)) x e in
      pair_moved sums ◌+ℤ◌ add_moves n (length rs) (distances i j) (gaps vs ws) y z x end (number a i vs) (number a j ws) (number b i vs) (number b j ws) (number_moves a rs vs ws p q (n + 1) y h) (number_moves b rs vs ws p q (past (n + 1) a) z k)
  number_moves (sub a b) rs vs ws p q n x e =
      let (y, z, h, k, end) = after_two_ok (number_typed (n + 1) c rs a) (number_typed (past (n + 1) a) c rs b) (λ y z. settled n true (both differences y z)) x e in
      pair_moved differences ◌-ℤ◌ sub_moves n (length rs) (distances i j) (gaps vs ws) y z x end (number a i vs) (number a j ws) (number b i vs) (number b j ws) (number_moves a rs vs ws p q (n + 1) y h) (number_moves b rs vs ws p q (past (n + 1) a) z k)
  number_moves (least a b) rs vs ws p q n x e =
      let (y, z, h, k, end) = after_two_ok (number_typed (n + 1) c rs a) (number_typed (past (n + 1) a) c rs b) (λ y z. settled n true (both lesser y z)) x e in
      pair_moved lesser int_min least_moves n (length rs) (distances i j) (gaps vs ws) y z x end (number a i vs) (number a j ws) (number b i vs) (number b j ws) (number_moves a rs vs ws p q (n + 1) y h) (number_moves b rs vs ws p q (past (n + 1) a) z k)
  number_moves (most a b) rs vs ws p q n x e =
      let (y, z, h, k, end) = after_two_ok (number_typed (n + 1) c rs a) (number_typed (past (n + 1) a) c rs b) (λ y z. settled n true (both greater y z)) x e in
      pair_moved greater int_max most_moves n (length rs) (distances i j) (gaps vs ws) y z x end (number a i vs) (number a j ws) (number b i vs) (number b j ws) (number_moves a rs vs ws p q (n + 1) y h) (number_moves b rs vs ws p q (past (n + 1) a) z k)
  number_moves (scale v a) rs vs ws p q n x e =
      let (y, h, end) = after_ok (number_typed (n + 1) c rs a) (λ y. settled n true (multiple v y)) x e in
      let m = number_moves a rs vs ws p q (n + 1) y h in
      let d = distances i j in
      let es = gaps vs ws in
      let k = nat_abs v in
      let far : apart (v *ℤ number a i vs) (v *ℤ number a j ws) ≤ weighted (multiplied k y.inputs) d + dot (all_times k y.vars) es = omega (arith, scale_moves v (number a i vs) (number a j ws), mul-le-mul_left k m.1, dot_times k y.vars es) in
      moved n (length rs) (apart (v *ℤ number a i vs) (v *ℤ number a j ws)) d es true (multiple v y) x end (length-map y.vars (λ u. k * u) ∙ m.0, far)
  number_moves (clip lo hi a) rs vs ws p q n x e =
      let (y, h, end) = after_ok (number_typed (n + 1) c rs a) (λ y. settled n (le_z lo hi) (cut lo hi y)) x e in
      let m = number_moves a rs vs ws p q (n + 1) y h in
      moved n (length rs) (apart (clipped lo hi (number a i vs)) (clipped lo hi (number a j ws))) (distances i j) (gaps vs ws) (le_z lo hi) (cut lo hi y) x end (m.0, omega (arith, clip_moves lo hi (number a i vs) (number a j ws), m.1))
  number_moves (let_in a b) rs vs ws p q n x e =
      let (y, h, rest) = after_ok (number_typed (n + 1) c rs a) (λ (y : NumberType). after (number_typed (past (n + 1) a) c (y.range ∷ rs) b) (λ z. settled n true (named y z))) x e in
      let (z, k, end) = after_ok (number_typed (past (n + 1) a) c (y.range ∷ rs) b) (λ z. settled n true (named y z)) x rest in
      let u = number a i vs in
      let v = number a j ws in
      let g = apart (number b i (u ∷ vs)) (number b j (v ∷ ws)) in
      let f = number_moves a rs vs ws p q (n + 1) y h in
      let m = number_moves b (y.range ∷ rs) (u ∷ vs) (v ∷ ws) (ap suc p) (ap suc q) (past (n + 1) a) z k in
      moved n (length rs) g (distances i j) (gaps vs ws) true (named y z) x end (let_moved (length rs) (apart u v) g (distances i j) (gaps vs ws) y z f m)

pub stable : Stable
stable c t n x e i j = let m = number_moves c i j t [] [] [] refl refl n x e in omega (arith, m.1, dot_nothing x.vars)
