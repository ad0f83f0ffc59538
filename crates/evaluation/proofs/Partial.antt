-- What has arrived so far is part of what the bag holds, so that partial sums keep within the bound of the whole.
use Rattle.std.proofs.Common.{◌≡◌, ℕ, zero, suc, ◌+◌, ◌<◌, ◌≤◌, leb, List, [], ◌∷◌, ◌++◌, length, get_or, take, ℤ, pos, ◌+ℤ◌, nat_abs, Some, None, Option, sym, refl, ap, ◌∙◌, ap₂, arith}
use Rattle.forms.proofs.Spreading.{spread}
use Rattle.forms.specs.Leaves.{Leaf, Step, arriving, carried, leaves, leaves_total, no_leaf}
use Rattle.forms.specs.Limits.{number_bound}
use Rattle.forms.specs.Table.{BagTree, part_at}
use Rattle.forms.specs.declared.form.Entry.{Entry}
use Rattle.rules.proofs.Bounds.{in_bound, in_clip, in_totals}
use Rattle.rules.specs.Ranges.{totals}
use Rattle.rules.specs.Typing.{BagType}
use Rattle.std.proofs.lemmas.List.{length-append}
use Rattle.std.proofs.lemmas.Int.{ints}
use Rattle.std.proofs.lemmas.Bool.{and_parts, leb-true}
use Rattle.trees.specs.Meaning.{Row, at, rows, total}
use Rattle.evaluation.specs.Addends.{added, term_value}
use Rattle.evaluation.specs.Sums.{AddendTyped}
use Rattle.evaluation.specs.declared.addends.Addend.{Addend}
use Rattle.evaluation.specs.declared.addends.Addend.TheVariants.{One, Clipped}
use Rattle.evaluation.proofs.Adding.{total_append}

arrived : Option Row → List Row
arrived None = []
arrived (Some r) = r ∷ []

-- the rows that arrive, from the rows of a source and from the leaves
arrivals : List Step → List Row → List Row
arrivals way [] = []
arrivals way (r ∷ rs) = arrived (carried way r) ++ arrivals way rs

leaf_arrivals : List (List Row) → Leaf → List Row
leaf_arrivals sources l = arrivals l.way (at sources l.source [])

all_arrivals : List (List Row) → List Leaf → List Row
all_arrivals sources [] = []
all_arrivals sources (l ∷ ls) = leaf_arrivals sources l ++ all_arrivals sources ls

module _ (g : Row → ℤ) where
  total_arrived : (o : Option Row) → arriving g o ≡ total g (arrived o)
  unfolding arrived
  total_arrived None = refl
  total_arrived (Some r) = omega (arith, ints)

  total_arrivals : (way : List Step) (rs : List Row) → total (λ r. arriving g (carried way r)) rs ≡ total g (arrivals way rs)
  unfolding arrivals
  total_arrivals way [] = refl
  total_arrivals way (r ∷ rs) = ap₂ ◌+ℤ◌ (total_arrived (carried way r)) (total_arrivals way rs) ∙ sym (total_append g (arrived (carried way r)) (arrivals way rs))

  total_leaves : (sources : List (List Row)) (ls : List Leaf) → leaves_total g sources ls ≡ total g (all_arrivals sources ls)
  unfolding all_arrivals leaf_arrivals
  total_leaves sources [] = refl
  total_leaves sources (l ∷ ls) = ap₂ ◌+ℤ◌ (total_arrivals l.way (at sources l.source [])) (total_leaves sources ls) ∙ sym (total_append g (leaf_arrivals sources l) (all_arrivals sources ls))

pub counted : (rs : List Row) → total (λ _. pos 1) rs ≡ pos (length rs)
counted [] = refl
counted (r ∷ rs) = let rest = counted rs in omega (arith, ints)

arrivals_before : (way : List Step) (rs : List Row) (i : ℕ) → length (arrivals way (take i rs)) ≤ length (arrivals way rs)
unfolding arrivals
arrivals_before way rs zero = omega arith
arrivals_before way [] (suc i) = omega arith
arrivals_before way (r ∷ rs) (suc i) =
    let a = arrived (carried way r) in
    omega (arith, arrivals_before way rs i, length-append a (arrivals way (take i rs)), length-append a (arrivals way rs))

leaves_before : (sources : List (List Row)) (ls : List Leaf) (n : ℕ) → n < length ls → length (all_arrivals sources (take n ls)) + length (leaf_arrivals sources (get_or ls n no_leaf)) ≤ length (all_arrivals sources ls)
unfolding all_arrivals
leaves_before sources [] n h = absurd (omega arith)
leaves_before sources (l ∷ ls) zero h = omega (arith, length-append (leaf_arrivals sources l) (all_arrivals sources ls))
leaves_before sources (l ∷ ls) (suc n) h =
    let a = leaf_arrivals sources l in
    omega (arith, leaves_before sources ls n (omega arith), length-append a (all_arrivals sources (take n ls)), length-append a (all_arrivals sources ls))

-- the rows that arrive are as many as the bag holds
all_arrived : (b : BagTree) (sources : List (List Row)) → length (all_arrivals sources (leaves b)) ≡ length (rows b sources)
all_arrived b sources =
    let e : pos (length (all_arrivals sources (leaves b))) ≡ pos (length (rows b sources)) = sym (counted (all_arrivals sources (leaves b))) ∙ sym (total_leaves (λ _. pos 1) sources (leaves b)) ∙ (spread b).counted sources in
    ap nat_abs e

-- no more rows than the bag may have add up within the bound
few_bounded : (es : List Entry) (a : Addend) (x : BagType) → AddendTyped es a x → (rs : List Row) → length rs ≤ x.limit → nat_abs (total (added es a) rs) ≤ number_bound
few_bounded es One x e rs few =
    omega (arith, ints, counted rs, leb-true x.limit number_bound (and_parts (leb 0 number_bound) (leb x.limit number_bound) e).1)
few_bounded es (Clipped lo hi q) x (n, t, y, is, typed, order, e) rs few =
    in_bound number_bound (totals x.limit lo hi) (total (added es (Clipped lo hi q)) rs) e (in_totals (added es (Clipped lo hi q)) lo hi (λ r. in_clip lo hi (term_value (part_at es q) r) order) rs x.limit few)

-- so do the leaves before leaf n, and i rows of it
pub partial_bounded : (es : List Entry) (a : Addend) (x : BagType) → AddendTyped es a x → (b : BagTree) (sources : List (List Row)) → length (rows b sources) ≤ x.limit → (n : ℕ) → n < length (leaves b) → (i : ℕ) → nat_abs (leaves_total (added es a) sources (take n (leaves b)) +ℤ total (λ r. arriving (added es a) (carried (get_or (leaves b) n no_leaf).way r)) (take i (at sources (get_or (leaves b) n no_leaf).source []))) ≤ number_bound
unfolding leaf_arrivals
partial_bounded es a x typed b sources few n h i =
    let g = added es a in
    let l = get_or (leaves b) n no_leaf in
    let rs = at sources l.source [] in
    let before = all_arrivals sources (take n (leaves b)) in
    let here = arrivals l.way (take i rs) in
    let same : leaves_total g sources (take n (leaves b)) +ℤ total (λ r. arriving g (carried l.way r)) (take i rs) ≡ total g (before ++ here) = ap₂ ◌+ℤ◌ (total_leaves g sources (take n (leaves b))) (total_arrivals g l.way (take i rs)) ∙ sym (total_append g before here) in
    rw same (few_bounded es a x typed (before ++ here) (omega (arith, length-append before here, arrivals_before l.way rs i, leaves_before sources (leaves b) n h, all_arrived b sources)))
