-- A typed bag has rows that fit its columns, no more than its limit, and is calm.
use Rattle.std.proofs.Common.{◌≡◌, ℕ, zero, suc, ◌+◌, ◌<◌, ◌≤◌, true, eqb, List, [], ◌∷◌, length, get_or, set, ℤ, pos, negsuc, Ok, sym, ◌∙◌, subst, arith}
use Rattle.refusals.specs.Rules.{or_else, refusal, unless_none}
use Rattle.sources.specs.Shapes.{columns_of, within}
use Rattle.sources.specs.Source.{Fits, Row}
use Rattle.sources.specs.Unions.{fits_left, fits_right, hulls, hulls_length}
use Rattle.sources.specs.declared.shapes.Range.{Range}
use Rattle.std.proofs.ByRecursion.{All-append, all_kept_by, All-map, All-weaker}
use Rattle.std.proofs.lemmas.List.{length-append, length-map, length-set}
use Rattle.std.proofs.lemmas.List.Sums.{count_by-le-length, length-filter}
use Rattle.std.proofs.lemmas.Bool.{eqb-true, false≢true}
use Rattle.std.specs.List.{AllByRecursion}
use Rattle.forms.specs.Calm.{CalmCondition, CalmTerm, PlaceBelow}
use Rattle.forms.specs.Leaves.{BagWithin}
use Rattle.forms.specs.Lined.{past}
use Rattle.trees.specs.declared.Kind.TheVariants.{Bag}
use Rattle.trees.specs.Meaning.{Inputs, holds, rows, value, with_cell}
use Rattle.trees.specs.Tree.{Tree}
use Rattle.trees.specs.Tree.Tree.{bag, keep, put, pool}
use Rattle.rules.specs.Amounts.{at_most}
use Rattle.rules.specs.Catalogue.{source_shape}
use Rattle.rules.specs.Sound.{BagKept}
use Rattle.rules.specs.Typing.{BagType, after, bag_rule, bag_typed, condition_typed, index, place, pooled, replaced, scope_rule, sensitivity_bound, settle, source_type, term_typed}
use Rattle.rules.specs.declared.catalogue.Catalogue.{Catalogue}
use Rattle.rules.proofs.Bounds.{in_within}
use Rattle.rules.proofs.Steps.{after_ok, after_two_ok, both_none, index_below, place_below, settle_ok}
use Rattle.rules.proofs.Terms.{condition_kept, term_kept}

-- the rows of source k fit the catalogue
pub record RowsFit (c : Catalogue) (i : Inputs) (k : ℕ) : Type 0 where
  pub some_rows : AllByRecursion (Fits (columns_of (source_shape c k))) (get_or i.sources k [])
  pub few_rows : length (get_or i.sources k []) ≤ (source_shape c k).limit
  pub few_columns : length (columns_of (source_shape c k)) ≤ 6

fits_put : (cs : List Range) (r : Row) (j : ℕ) (x : Range) (v : ℤ) → Fits cs r → within x v ≡ true → Fits (set cs j x) (set r j v)
fits_put [] [] j x v f h = tt
fits_put [] (z ∷ zs) j x v f h = absurd f
fits_put (c ∷ cs) [] j x v f h = absurd f
fits_put (c ∷ cs) (z ∷ zs) zero x v f h = (h, f.1)
fits_put (c ∷ cs) (z ∷ zs) (suc j) x v f h = (f.0, fits_put cs zs j x v f.1 h)

fits_with : (cs : List Range) (r : Row) (j : ℤ) (x : Range) (v : ℤ) → place (length cs) j ≡ true → Fits cs r → within x v ≡ true → Fits (set cs (index j) x) (with_cell r j v)
fits_with cs r (pos j) x v p f h = fits_put cs r j x v f h
fits_with cs r (negsuc j) x v p f h = absurd (false≢true p)

module _ (c : Catalogue) (i : Inputs) (fit : (k : ℕ) → k < 2 → RowsFit c i k) where
  source_kept : (k : ℤ) → place 2 k ≡ true → BagKept i (bag k) (source_type c (index k))
  source_kept (pos k) e =
      let f = fit k (index_below 2 (pos k) e) in
      record { some_rows = f.some_rows; few_rows = f.few_rows; few_columns = f.few_columns; calm = tt; places = tt }
  source_kept (negsuc k) e = absurd (false≢true e)

  pub bag_kept : (b : Tree Bag) (n : ℕ) (x : BagType) → bag_typed n c b ≡ Ok x → BagKept i b x
  bag_kept (bag k) n x e =
      let s = settle_ok (scope_rule n (place 2 k)) (source_type c (index k)) x e in
      subst (BagKept i (bag k)) s.1 (source_kept k (unless_none (place 2 k) (refusal 11 n 0) s.0))
  bag_kept (keep b d) n x e =
      let (y, p, rest) = after_ok (bag_typed (n + 1) c b) (λ y. after (condition_typed (past (n + 1) b) y.columns d) (λ _. Ok y)) x e in
      let (u, q, same) = after_ok (condition_typed (past (n + 1) b) y.columns d) (λ _. Ok y) x rest in
      let k = bag_kept b (n + 1) y p in
      let is : y ≡ x = cc in
      subst (BagKept i (keep b d)) is
      (record {
        some_rows = all_kept_by (holds d) (Fits y.columns) (rows b i.sources) k.some_rows;
        few_rows = omega (arith, length-filter (holds d) (rows b i.sources), count_by-le-length (holds d) (rows b i.sources), k.few_rows);
        few_columns = k.few_columns;
        calm = (k.calm, All-weaker (Fits y.columns) (CalmCondition d) (λ r f. condition_kept y.columns k.few_columns r f d (past (n + 1) b) u q) (rows b i.sources) k.some_rows);
        places = k.places;
      })
  bag_kept (put j b t) n x e =
      let (y, p, rest) = after_ok (bag_typed (n + 1) c b) (λ y. after (term_typed (past (n + 1) b) y.columns t) (λ r. settle (scope_rule n (place (length y.columns) j)) (replaced y (index j) r))) x e in
      let (r, q, end) = after_ok (term_typed (past (n + 1) b) y.columns t) (λ r. settle (scope_rule n (place (length y.columns) j)) (replaced y (index j) r)) x rest in
      let s = settle_ok (scope_rule n (place (length y.columns) j)) (replaced y (index j) r) x end in
      let there = unless_none (place (length y.columns) j) (refusal 11 n 0) s.0 in
      let k = bag_kept b (n + 1) y p in
      let cs = y.columns in
      let rs = rows b i.sources in
      let width = length-set cs (index j) r in
      let below = place_below (length cs) j there in
      let typed = λ (row : Row) (f : Fits cs row). term_kept cs k.few_columns row f t (past (n + 1) b) r q in
      subst (BagKept i (put j b t)) s.1
      (record {
        some_rows = All-map (Fits (set cs (index j) r)) (λ (row : Row). with_cell row j (value t row)) rs (All-weaker (Fits cs) (λ row. Fits (set cs (index j) r) (with_cell row j (value t row))) (λ row f. fits_with cs row j r (value t row) there f (in_within r (value t row) (typed row f).0)) rs k.some_rows);
        few_rows = omega (arith, length-map rs (λ (row : Row). with_cell row j (value t row)), k.few_rows);
        few_columns = omega (arith, width, k.few_columns);
        calm = (k.calm, (below.0, below.1, omega (arith, below.2, k.few_columns)), All-weaker (Fits cs) (CalmTerm t) (λ row f. (typed row f).1) rs k.some_rows);
        places = (subst (λ w. PlaceBelow w j) (sym width) below, subst (λ w. BagWithin w b) (sym width) k.places);
      })
  bag_kept (pool a b) n x e =
      let f = λ (y z : BagType). settle (or_else (scope_rule n (eqb (length y.columns) (length z.columns))) (bag_rule n (pooled y z))) (pooled y z) in
      let (y, z, p, q, end) = after_two_ok (bag_typed (n + 1) c a) (bag_typed (past (n + 1) a) c b) f x e in
      let s = settle_ok (or_else (scope_rule n (eqb (length y.columns) (length z.columns))) (bag_rule n (pooled y z))) (pooled y z) x end in
      let rules = both_none (eqb (length y.columns) (length z.columns)) (at_most sensitivity_bound (pooled y z).inputs) (refusal 11 n 0) (refusal 13 n 0) s.0 in
      let widths = eqb-true (length y.columns) (length z.columns) rules.0 in
      let k = bag_kept a (n + 1) y p in
      let l = bag_kept b (past (n + 1) a) z q in
      let cs = y.columns in
      let ds = z.columns in
      let us = rows a i.sources in
      let vs = rows b i.sources in
      let width = hulls_length cs ds widths in
      subst (BagKept i (pool a b)) s.1
      (record {
        some_rows = All-append (Fits (hulls cs ds)) us vs (All-weaker (Fits cs) (Fits (hulls cs ds)) (λ r g. fits_left cs ds r widths g) us k.some_rows) (All-weaker (Fits ds) (Fits (hulls cs ds)) (λ r g. fits_right cs ds r widths g) vs l.some_rows);
        few_rows = omega (arith, length-append us vs, k.few_rows, l.few_rows);
        few_columns = omega (arith, width, k.few_columns);
        calm = (k.calm, l.calm);
        places = (subst (λ w. BagWithin w a) (sym width) k.places, subst (λ w. BagWithin w b) (sym (width ∙ widths)) l.places);
      })
