-- The leaves of a typed bag: each names a source of the plant, of the bag's width, and its rows can be added.
use Rattle.std.proofs.Common.{◌≡◌, ℕ, zero, suc, ◌+◌, ◌<◌, ◌≤◌, eqb, List, [], ◌∷◌, ◌++◌, map, length, get_or, take, ℤ, pos, ◌+ℤ◌, Ok, sym, refl, ap, ◌∙◌, subst, arith}
use Rattle.forms.proofs.Spreading.{spread}
use Rattle.forms.specs.Calm.{CalmTerm}
use Rattle.forms.specs.Leaves.{CalmBag, CalmFrom, CalmStep, CalmWay, Follows, Leaf, Step, WayWithin, carried, leaf_total, leaves, leaves_total, no_leaf, through}
use Rattle.forms.specs.Leaves.Step.{keeps, puts}
use Rattle.forms.specs.Lined.{past}
use Rattle.forms.specs.Table.{BagTree, Part, TermTree, part_at}
use Rattle.forms.specs.Table.Part.{bad, a_term, a_condition, a_bag, a_number}
use Rattle.forms.specs.declared.form.Entry.{Entry}
use Rattle.forms.specs.declared.route.Route.{Route}
use Rattle.refusals.specs.Rules.{or_else, refusal, unless_none}
use Rattle.rules.proofs.Steps.{after_ok, after_two_ok, both_none, place_below, settle_ok}
use Rattle.rules.specs.Amounts.{at_most}
use Rattle.rules.specs.Catalogue.{source_shape}
use Rattle.rules.specs.Sound.{BagKept, Fitting, Plant, inputs_of}
use Rattle.rules.specs.Typing.{BagType, after, bag_rule, bag_typed, condition_typed, index, place, pooled, replaced, scope_rule, sensitivity_bound, settle, source_type, term_typed}
use Rattle.rules.specs.declared.catalogue.Catalogue.{Catalogue}
use Rattle.sources.specs.Shapes.{columns_of}
use Rattle.sources.specs.Source.{Fits}
use Rattle.sources.specs.Unions.{hulls_length}
use Rattle.sources.specs.declared.shapes.Range.{Range}
use Rattle.std.proofs.ByRecursion.{All-append, All-get_or, All-map, All-weaker}
use Rattle.std.proofs.lemmas.List.{get_or-map, length-map, length-set, take_all, take_more}
use Rattle.std.proofs.lemmas.Int.{ints}
use Rattle.std.proofs.lemmas.Bool.{eqb-true}
use Rattle.std.specs.List.{AllByRecursion}
use Rattle.trees.specs.Meaning.{Row, at, rows, total}
use Rattle.trees.specs.Tree.Tree.{bag, keep, put, pool}
use Rattle.evaluation.specs.Addends.{CalmAddends, added}
use Rattle.evaluation.specs.Sums.{AddsBag, AddsLeaf, AddendTyped, sources_of, widths_of}
use Rattle.evaluation.specs.declared.addends.Addend.{Addend}
use Rattle.evaluation.specs.declared.addends.Addend.TheVariants.{One, Clipped}
use Rattle.evaluation.proofs.Adding.{calm_from, calm_split}
use Rattle.evaluation.proofs.Partial.{partial_bounded}

-- the leaf names source k of the catalogue, which has the given width
abbrev Names : Catalogue → ℕ → Leaf → Type 0
Names c width l = (k : ℕ) × (l.source ≡ pos k) × (k < 2) × (length (columns_of (source_shape c k)) ≡ width)

names_through : (c : Catalogue) (v w : ℕ) → v ≡ w → (s : Step) (ls : List Leaf) → AllByRecursion (Names c v) ls → AllByRecursion (Names c w) (map (through s) ls)
names_through c v w e s ls h = All-map (Names c w) (through s) ls (All-weaker (Names c v) (λ l. Names c w (through s l)) (λ l (k, is, below, wide). (k, is, below, wide ∙ e)) ls h)

named : (c : Catalogue) (b : BagTree) (n : ℕ) (x : BagType) → bag_typed n c b ≡ Ok x → AllByRecursion (Names c (length x.columns)) (leaves b)
named c (bag k) n x e =
    let s = settle_ok (scope_rule n (place 2 k)) (source_type c (index k)) x e in
    let (i, is, below) = place_below 2 k (unless_none (place 2 k) (refusal 11 n 0) s.0) in
    ((i, is, below, ap (λ z. length (columns_of (source_shape c (index z)))) (sym is) ∙ ap (λ (y : BagType). length y.columns) s.1), tt)
named c (keep b d) n x e =
    let (y, p, rest) = after_ok (bag_typed (n + 1) c b) (λ y. after (condition_typed (past (n + 1) b) y.columns d) (λ _. Ok y)) x e in
    let (u, q, same) = after_ok (condition_typed (past (n + 1) b) y.columns d) (λ _. Ok y) x rest in
    let is : y ≡ x = cc in
    names_through c (length y.columns) (length x.columns) (ap (λ (z : BagType). length z.columns) is) (keeps d) (leaves b) (named c b (n + 1) y p)
named c (put j b t) n x e =
    let (y, p, rest) = after_ok (bag_typed (n + 1) c b) (λ y. after (term_typed (past (n + 1) b) y.columns t) (λ r. settle (scope_rule n (place (length y.columns) j)) (replaced y (index j) r))) x e in
    let (r, q, end) = after_ok (term_typed (past (n + 1) b) y.columns t) (λ r. settle (scope_rule n (place (length y.columns) j)) (replaced y (index j) r)) x rest in
    let s = settle_ok (scope_rule n (place (length y.columns) j)) (replaced y (index j) r) x end in
    names_through c (length y.columns) (length x.columns) (sym (length-set y.columns (index j) r) ∙ ap (λ (z : BagType). length z.columns) s.1) (puts j t) (leaves b) (named c b (n + 1) y p)
named c (pool a b) n x e =
    let f = λ (y z : BagType). settle (or_else (scope_rule n (eqb (length y.columns) (length z.columns))) (bag_rule n (pooled y z))) (pooled y z) in
    let (y, z, p, q, end) = after_two_ok (bag_typed (n + 1) c a) (bag_typed (past (n + 1) a) c b) f x e in
    let s = settle_ok (or_else (scope_rule n (eqb (length y.columns) (length z.columns))) (bag_rule n (pooled y z))) (pooled y z) x end in
    let rules = both_none (eqb (length y.columns) (length z.columns)) (at_most sensitivity_bound (pooled y z).inputs) (refusal 11 n 0) (refusal 13 n 0) s.0 in
    let widths = eqb-true (length y.columns) (length z.columns) rules.0 in
    let whole = hulls_length y.columns z.columns widths in
    let same : length (pooled y z).columns ≡ length x.columns = ap (λ (u : BagType). length u.columns) s.1 in
    let w = length x.columns in
    All-append (Names c w) (leaves a) (leaves b)
    (All-weaker (Names c (length y.columns)) (Names c w) (λ l (k, is, below, wide). (k, is, below, wide ∙ sym whole ∙ same)) (leaves a) (named c a (n + 1) y p))
    (All-weaker (Names c (length z.columns)) (Names c w) (λ l (k, is, below, wide). (k, is, below, wide ∙ sym widths ∙ sym whole ∙ same)) (leaves b) (named c b (past (n + 1) a) z q))

-- the sources of a plant that fits are as wide as the catalogue says
wide : (c : Catalogue) (p : Plant) → Fitting c p → (k : ℕ) → k < 2 → at (widths_of p) (pos k) 0 ≡ length (columns_of (source_shape c k))
wide c p f zero h = sym f.first_lawful.all_columns ∙ ap length f.first_shape.columns
wide c p f (suc zero) h = sym f.second_lawful.all_columns ∙ ap length f.second_shape.columns
wide c p f (suc (suc k)) h = absurd (omega arith)

-- the term of a sum is calm on what arrives from each leaf: a put of it at the top of the bag would be
calm_addends : (es : List Entry) (a : Addend) (p : Plant) (b : BagTree) (x : BagType) → AddendTyped es a x → BagKept (inputs_of p) b x → ((n : ℕ) (t : TermTree) (y : Range) → term_typed n x.columns t ≡ Ok y → (r : Row) → Fits x.columns r → CalmTerm t r) → (n : ℕ) → n < length (leaves b) → CalmAddends es a (get_or (leaves b) n no_leaf).way (at (sources_of p) (get_or (leaves b) n no_leaf).source [])
calm_addends es One p b x typed kept terms n h = tt
calm_addends es (Clipped lo hi q) p b x (line, t, y, is, typed, order, bound) kept terms n h =
    let ss = sources_of p in
    let s = puts (pos 0) t in
    let ls = leaves b in
    let l = get_or ls n no_leaf in
    let calm : CalmBag (put (pos 0) b t) ss = (kept.calm, (0, refl, omega arith), All-weaker (Fits x.columns) (CalmTerm t) (terms line t y typed) (rows b ss) kept.some_rows) in
    let Calmly = λ (k : Leaf). AllByRecursion (CalmWay k.way) (at ss k.source []) in
    let there : n < length (map (through s) ls) = omega (arith, length-map ls (through s)) in
    let up : Calmly (through s l) = subst Calmly (get_or-map (through s) ls n no_leaf no_leaf h) (All-get_or Calmly (map (through s) ls) n no_leaf there ((spread (put (pos 0) b t)).calm ss calm)) in
    (t, is, All-weaker (CalmWay (l.way ++ s ∷ [])) (λ r. CalmFrom (CalmTerm t) (carried l.way r)) (λ r k. calm_from (CalmStep s) (CalmTerm t) (λ _ m. m.1) (carried l.way r) (calm_split l.way s r k).1) (at ss l.source []) up)

leaves_push : (g : Row → ℤ) (sources : List (List Row)) (ls : List Leaf) (l : Leaf) → leaves_total g sources (ls ++ l ∷ []) ≡ leaves_total g sources ls +ℤ leaf_total g sources l
leaves_push g sources [] l = omega (arith, ints)
leaves_push g sources (k ∷ ls) l = let rest = leaves_push g sources ls l in omega (arith, ints)

-- the leaves of what stands at a position
abbrev pub leaves_of : Part → List Leaf
leaves_of bad = []
leaves_of (a_term t) = []
leaves_of (a_condition c) = []
leaves_of (a_bag b) = leaves b
leaves_of (a_number n) = []

-- leaf n, by its route, is added to what came before
module _ {es : List Entry} {bag : ℕ} {a : Addend} {p : Plant} (h : AddsBag es bag a p) {n : ℕ} (there : n < length (leaves h.tree)) {sum : ℤ} (so_far : sum ≡ leaves_total (added es a) (sources_of p) (take n (leaves_of (part_at es bag)))) where
  before : sum ≡ leaves_total (added es a) (sources_of p) (take n (leaves h.tree))
  before = so_far ∙ ap (λ q. leaves_total (added es a) (sources_of p) (take n (leaves_of q))) h.is

  pub leaf_adds : {route : Route} → Follows es route (get_or (leaves h.tree) n no_leaf) → AddsLeaf es a route p sum (get_or (leaves h.tree) n no_leaf)
  leaf_adds {route} follows =
      let b = h.tree in
      let x = h.type in
      let ss = sources_of p in
      let l = get_or (leaves b) n no_leaf in
      let kept = h.kept.bags h.line b x h.typed in
      let (k, is, below, width) = All-get_or (Names h.catalogue (length x.columns)) (leaves b) n no_leaf there (named h.catalogue b h.line x h.typed) in
      let same : at (widths_of p) l.source 0 ≡ length x.columns = ap (λ z. at (widths_of p) z 0) is ∙ wide h.catalogue p h.fits k below ∙ width in
      let places = All-get_or (λ (m : Leaf). WayWithin (length x.columns) m.way) (leaves b) n no_leaf there ((spread b).within (length x.columns) kept.places) in
      record {
        source = follows.source;
        place = (k, is, below);
        rows = record {
          leads = follows.leads;
          places = subst (λ w. WayWithin w l.way) (sym same) places;
          calm = All-get_or (λ (m : Leaf). AllByRecursion (CalmWay m.way) (at ss m.source [])) (leaves b) n no_leaf there ((spread b).calm ss kept.calm);
          addends = calm_addends es a p b x h.addend kept (λ m t y e. (h.kept.terms m x.columns t y kept.few_columns e).calm) n there;
          bounded = λ i _. rw before (partial_bounded es a x h.addend b ss kept.few_rows n there i);
        };
      }

  pub leaf_added : sum +ℤ leaf_total (added es a) (sources_of p) (get_or (leaves h.tree) n no_leaf) ≡ leaves_total (added es a) (sources_of p) (take (n + 1) (leaves_of (part_at es bag)))
  leaf_added =
      let g = added es a in
      let ss = sources_of p in
      let ls = leaves h.tree in
      rw h.is (ap (λ z. z +ℤ leaf_total g ss (get_or ls n no_leaf)) before ∙ sym (ap (leaves_total g ss) (take_more ls n no_leaf there) ∙ leaves_push g ss (take n ls) (get_or ls n no_leaf)))

-- behind the last leaf everything is added, of whatever bag stands at the position
pub bag_added : {es : List Entry} {bag : ℕ} {a : Addend} {p : Plant} (h : AddsBag es bag a p) {n : ℕ} → length (leaves h.tree) ≤ n → {sum : ℤ} → sum ≡ leaves_total (added es a) (sources_of p) (take n (leaves_of (part_at es bag))) → (b : BagTree) → part_at es bag ≡ a_bag b → sum ≡ total (added es a) (rows b (sources_of p))
bag_added {es} {bag} {a} {p} h {n} end so_far b is =
    let same : h.tree ≡ b = cc (h.is, is) in
    so_far
    ∙ ap (λ q. leaves_total (added es a) (sources_of p) (take n (leaves_of q))) is
    ∙ ap (leaves_total (added es a) (sources_of p)) (take_all n (leaves b) (subst (λ x. length (leaves x) ≤ n) same end))
    ∙ (spread b).arrive (added es a) (sources_of p)
