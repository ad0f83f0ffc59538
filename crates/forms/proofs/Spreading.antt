-- What is so of every row of a bag is so of what its leaves carry up.
use Rattle.std.proofs.Common.{ℕ, Bool, true, false, cond, List, [], ◌∷◌, ◌++◌, map, Some, None, filter, Option, sym, subst}
use Rattle.std.proofs.ByRecursion.{All-append, All-map, All-weaker}
use Rattle.std.proofs.lemmas.List.Elements.{recursion_from_All}
use Rattle.std.specs.List.{AllByRecursion}
use Rattle.trees.specs.Meaning.{Row, at, holds, rows, value, with_cell}
use Rattle.trees.specs.Tree.Tree.{bag, keep, put, pool}
use Rattle.trees.proofs.Unique.{all_split}
use Rattle.forms.specs.Calm.{CalmTerm}
use Rattle.forms.specs.Leaves.{BagWithin, CalmBag, CalmFrom, CalmStep, CalmWay, Leaf, Spread, Step, WayWithin, and_then, carried, leaves, stepped, through}
use Rattle.forms.specs.Leaves.Step.{keeps, puts}
use Rattle.forms.specs.Table.{BagTree}
use Rattle.forms.proofs.Arrivals.{all_arrive, all_counted, carried_push}

all_both : {X : Type 0} (P Q R : X → Type 0) → ((x : X) → P x → Q x → R x) → (xs : List X) → AllByRecursion P xs → AllByRecursion Q xs → AllByRecursion R xs
all_both P Q R f [] h k = tt
all_both P Q R f (x ∷ xs) h k = (f x h.0 k.0, all_both P Q R f xs h.1 k.1)

unkept : (P : Row → Type 0) (p : Row → Bool) (rs : List Row) → AllByRecursion P (filter p rs) → AllByRecursion (λ r. CalmFrom P (cond (p r) (Some r) None)) rs
unkept P p [] h = tt
unkept P p (r ∷ rs) h = go (p r) h (unkept P p rs)
  where
    go : (b : Bool) → AllByRecursion P (cond b (r ∷ filter p rs) (filter p rs)) → (AllByRecursion P (filter p rs) → AllByRecursion (λ r. CalmFrom P (cond (p r) (Some r) None)) rs) → CalmFrom P (cond b (Some r) None) × AllByRecursion (λ r. CalmFrom P (cond (p r) (Some r) None)) rs
    go true h f = (h.0, f h.1)
    go false h f = (tt, f h)

unmapped : (P : Row → Type 0) (f : Row → Row) (rs : List Row) → AllByRecursion P (map f rs) → AllByRecursion (λ r. P (f r)) rs
unmapped P f [] h = tt
unmapped P f (r ∷ rs) h = (h.0, unmapped P f rs h.1)

-- P of every row that arrives from the leaf
abbrev Up : (Row → Type 0) → List (List Row) → Leaf → Type 0
Up P sources l = AllByRecursion (λ r. CalmFrom P (carried l.way r)) (at sources l.source [])

onward : (P : Row → Type 0) (s : Step) (o : Option Row) → CalmFrom (λ r. CalmFrom P (stepped s r)) o → CalmFrom P (and_then o (stepped s))
onward P s None h = tt
onward P s (Some r) h = h

up_through : (P : Row → Type 0) (sources : List (List Row)) (s : Step) (ls : List Leaf) → AllByRecursion (Up (λ r. CalmFrom P (stepped s r)) sources) ls → AllByRecursion (Up P sources) (map (through s) ls)
up_through P sources s ls h =
    All-map (Up P sources) (through s) ls (All-weaker (Up (λ r. CalmFrom P (stepped s r)) sources) (λ l. Up P sources (through s l)) (λ l k. All-weaker (λ r. CalmFrom (λ x. CalmFrom P (stepped s x)) (carried l.way r)) (λ r. CalmFrom P (carried (l.way ++ s ∷ []) r)) (λ r m. subst (CalmFrom P) (sym (carried_push l.way s r)) (onward P s (carried l.way r) m)) (at sources l.source []) k) ls h)

up : (b : BagTree) (sources : List (List Row)) (P : Row → Type 0) → AllByRecursion P (rows b sources) → AllByRecursion (Up P sources) (leaves b)
up (bag k) sources P h = (h, tt)
up (keep b c) sources P h = up_through P sources (keeps c) (leaves b) (up b sources (λ r. CalmFrom P (stepped (keeps c) r)) (unkept P (holds c) (rows b sources) h))
up (put j b t) sources P h = up_through P sources (puts j t) (leaves b) (up b sources (λ r. CalmFrom P (stepped (puts j t) r)) (unmapped P (λ r. with_cell r j (value t r)) (rows b sources) h))
up (pool a b) sources P h =
    All-append (Up P sources) (leaves a) (leaves b) (up a sources P (all_split P (rows a sources) (rows b sources) h).0) (up b sources P (all_split P (rows a sources) (rows b sources) h).1)

-- a calm way with a calm step more at its end
calm_end : (o : Option Row) → CalmFrom (CalmWay []) o
calm_end None = tt
calm_end (Some r) = tt

calm_push : (way : List Step) (s : Step) (r : Row) → CalmWay way r → CalmFrom (CalmStep s) (carried way r) → CalmWay (way ++ s ∷ []) r
calm_push [] s r h k = (k, calm_end (stepped s r))
calm_push (a ∷ way) s r h k = (h.0, go (stepped a r) h.1 k (calm_push way s))
  where
    go : (o : Option Row) → CalmFrom (CalmWay way) o → CalmFrom (CalmStep s) (and_then o (carried way)) → ((x : Row) → CalmWay way x → CalmFrom (CalmStep s) (carried way x) → CalmWay (way ++ s ∷ []) x) → CalmFrom (CalmWay (way ++ s ∷ [])) o
    go None h k f = tt
    go (Some x) h k f = f x h k

abbrev Calmly : List (List Row) → Leaf → Type 0
Calmly sources l = AllByRecursion (CalmWay l.way) (at sources l.source [])

calm_through : (sources : List (List Row)) (s : Step) (ls : List Leaf) → AllByRecursion (Calmly sources) ls → AllByRecursion (Up (CalmStep s) sources) ls → AllByRecursion (Calmly sources) (map (through s) ls)
calm_through sources s ls h k =
    All-map (Calmly sources) (through s) ls (all_both (Calmly sources) (Up (CalmStep s) sources) (λ l. Calmly sources (through s l)) (λ l x y. all_both (CalmWay l.way) (λ r. CalmFrom (CalmStep s) (carried l.way r)) (CalmWay (l.way ++ s ∷ [])) (λ r m n. calm_push l.way s r m n) (at sources l.source []) x y) ls h k)

calm_leaves : (b : BagTree) (sources : List (List Row)) → CalmBag b sources → AllByRecursion (Calmly sources) (leaves b)
calm_leaves (bag k) sources h = (recursion_from_All (CalmWay []) (at sources k []) (λ i d lt. tt), tt)
calm_leaves (keep b c) sources h = calm_through sources (keeps c) (leaves b) (calm_leaves b sources h.0) (up b sources (CalmStep (keeps c)) h.1)
calm_leaves (put j b t) sources h =
    calm_through sources (puts j t) (leaves b) (calm_leaves b sources h.0) (up b sources (CalmStep (puts j t)) (All-weaker (CalmTerm t) (CalmStep (puts j t)) (λ r k. (h.1, k)) (rows b sources) h.2))
calm_leaves (pool a b) sources h = All-append (Calmly sources) (leaves a) (leaves b) (calm_leaves a sources h.0) (calm_leaves b sources h.1)

within_push : (width : ℕ) (way : List Step) (s : Step) → WayWithin width way → WayWithin width (s ∷ []) → WayWithin width (way ++ s ∷ [])
within_push width [] s h k = k
within_push width (keeps c ∷ way) s h k = within_push width way s h k
within_push width (puts j t ∷ way) s h k = (h.0, within_push width way s h.1 k)

within_through : (width : ℕ) (s : Step) (ls : List Leaf) → WayWithin width (s ∷ []) → AllByRecursion (λ l. WayWithin width l.way) ls → AllByRecursion (λ l. WayWithin width l.way) (map (through s) ls)
within_through width s ls k h =
    All-map (λ l. WayWithin width l.way) (through s) ls (All-weaker (λ l. WayWithin width l.way) (λ l. WayWithin width (l.way ++ s ∷ [])) (λ l x. within_push width l.way s x k) ls h)

within_leaves : (b : BagTree) (width : ℕ) → BagWithin width b → AllByRecursion (λ l. WayWithin width l.way) (leaves b)
within_leaves (bag k) width h = (tt, tt)
within_leaves (keep b c) width h = within_through width (keeps c) (leaves b) tt (within_leaves b width h)
within_leaves (put j b t) width h = within_through width (puts j t) (leaves b) (h.0, tt) (within_leaves b width h.1)
within_leaves (pool a b) width h = All-append (λ l. WayWithin width l.way) (leaves a) (leaves b) (within_leaves a width h.0) (within_leaves b width h.1)

pub spread : (b : BagTree) → Spread b
spread b = record { arrive = all_arrive b; counted = all_counted b; calm = calm_leaves b; within = within_leaves b }
