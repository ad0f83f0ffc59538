-- What arrives from the leaves of a bag is what the bag holds.
use Rattle.std.proofs.Common.{◌≡◌, Bool, true, false, cond, List, [], ◌∷◌, ◌++◌, map, length, ℤ, pos, ◌+ℤ◌, Some, None, filter, Option, sym, refl, ap, ◌∙◌, ap₂, arith}
use mathlib.Core.Path.{fun_ext}
use Rattle.std.proofs.Math.IntN.{+ℤ_idl, +ℤ_idr}
use Rattle.std.proofs.lemmas.Int.{ints}
use Rattle.trees.specs.Meaning.{Row, at, holds, rows, total, value, with_cell}
use Rattle.trees.specs.Tree.Tree.{bag, keep, put, pool}
use Rattle.forms.specs.Leaves.{AllArrive, AllCounted, Leaf, Step, and_then, arriving, carried, leaf_total, leaves, leaves_total, stepped, through}
use Rattle.forms.specs.Leaves.Step.{keeps, puts}
use Rattle.forms.specs.Table.{BagTree}

-- a way with one step more at its end
pub carried_push : (way : List Step) (s : Step) (r : Row) → carried (way ++ s ∷ []) r ≡ and_then (carried way r) (stepped s)
carried_push [] s r = ends (stepped s r)
  where
    ends : (o : Option Row) → and_then o (λ x. Some x) ≡ o
    ends None = refl
    ends (Some x) = refl
carried_push (a ∷ way) s r = go (stepped a r) (carried_push way s)
  where
    go : (o : Option Row) → ((x : Row) → carried (way ++ s ∷ []) x ≡ and_then (carried way x) (stepped s)) → and_then o (carried (way ++ s ∷ [])) ≡ and_then (and_then o (carried way)) (stepped s)
    go None h = refl
    go (Some x) h = h x

arriving_then : (g : Row → ℤ) (s : Step) (o : Option Row) → arriving g (and_then o (stepped s)) ≡ arriving (λ r. arriving g (stepped s r)) o
arriving_then g s None = refl
arriving_then g s (Some r) = refl

leaf_through : (g : Row → ℤ) (sources : List (List Row)) (s : Step) (l : Leaf) → leaf_total g sources (through s l) ≡ leaf_total (λ r. arriving g (stepped s r)) sources l
leaf_through g sources s l =
    ap (λ f. total f (at sources l.source [])) (fun_ext (λ r. ap (arriving g) (carried_push l.way s r) ∙ arriving_then g s (carried l.way r)))

leaves_through : (g : Row → ℤ) (sources : List (List Row)) (s : Step) (ls : List Leaf) → leaves_total g sources (map (through s) ls) ≡ leaves_total (λ r. arriving g (stepped s r)) sources ls
leaves_through g sources s [] = refl
leaves_through g sources s (l ∷ ls) = ap₂ ◌+ℤ◌ (leaf_through g sources s l) (leaves_through g sources s ls)

leaves_append : (g : Row → ℤ) (sources : List (List Row)) (ls ms : List Leaf) → leaves_total g sources (ls ++ ms) ≡ leaves_total g sources ls +ℤ leaves_total g sources ms
leaves_append g sources [] ms = omega (arith, ints)
leaves_append g sources (l ∷ ls) ms = omega (arith, ints, leaves_append g sources ls ms)

total_append : (g : Row → ℤ) (rs ts : List Row) → total g (rs ++ ts) ≡ total g rs +ℤ total g ts
total_append g [] ts = omega (arith, ints)
total_append g (r ∷ rs) ts = omega (arith, ints, total_append g rs ts)

total_map : (g : Row → ℤ) (f : Row → Row) (rs : List Row) → total (λ r. g (f r)) rs ≡ total g (map f rs)
total_map g f [] = refl
total_map g f (r ∷ rs) = ap (λ z. g (f r) +ℤ z) (total_map g f rs)

total_kept : (g : Row → ℤ) (p : Row → Bool) (rs : List Row) → total (λ r. arriving g (cond (p r) (Some r) None)) rs ≡ total g (filter p rs)
total_kept g p [] = refl
total_kept g p (r ∷ rs) = go (p r) (total_kept g p rs)
  where
    go : (b : Bool) → total (λ r. arriving g (cond (p r) (Some r) None)) rs ≡ total g (filter p rs) → arriving g (cond b (Some r) None) +ℤ total (λ r. arriving g (cond (p r) (Some r) None)) rs ≡ total g (cond b (r ∷ filter p rs) (filter p rs))
    go true rest = ap (λ z. g r +ℤ z) rest
    go false rest = +ℤ_idl _ ∙ rest

pub all_arrive : (b : BagTree) → AllArrive b
all_arrive (bag k) g sources = +ℤ_idr (total g (at sources k []))
all_arrive (keep b c) g sources =
    leaves_through g sources (keeps c) (leaves b) ∙ all_arrive b (λ r. arriving g (stepped (keeps c) r)) sources ∙ total_kept g (holds c) (rows b sources)
all_arrive (put j b t) g sources =
    leaves_through g sources (puts j t) (leaves b) ∙ all_arrive b (λ r. arriving g (stepped (puts j t) r)) sources ∙ total_map g (λ r. with_cell r j (value t r)) (rows b sources)
all_arrive (pool a b) g sources =
    leaves_append g sources (leaves a) (leaves b) ∙ ap₂ ◌+ℤ◌ (all_arrive a g sources) (all_arrive b g sources) ∙ sym (total_append g (rows a sources) (rows b sources))

counts : (rs : List Row) → total (λ _. pos 1) rs ≡ pos (length rs)
counts [] = refl
counts (r ∷ rs) = ap (λ z. pos 1 +ℤ z) (counts rs) ∙ ap pos (omega arith)

pub all_counted : (b : BagTree) → AllCounted b
all_counted b sources = all_arrive b (λ _. pos 1) sources ∙ counts (rows b sources)
