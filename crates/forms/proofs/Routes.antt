-- The routes of a bag's leaves, along the forms of the table.
use Rattle.std.proofs.Common.{◌≡◌, ℕ, zero, suc, ◌+◌, ◌^◌, ◌<◌, ◌≤◌, ◌⊎◌, List, [], ◌∷◌, ◌++◌, map, length, get_or, drop, ℤ, Some, Ok, Err, Option, Result, sym, refl, ap, ◌∙◌, subst, inl, inr, arith}
use native.Mathlib.Nat.{two-pow-succ}
use Rattle.std.proofs.Math.Pow.{pow_mono}
use Rattle.std.proofs.lemmas.List.{drop_more, get_or-append-add, get_or_append_left, get_or-map, length-append, length-map, length_push}
use Rattle.trees.specs.Meaning.{Row}
use Rattle.trees.specs.Tree.Tree.{keep, pool, put}
use Rattle.forms.specs.declared.form.Entry.{Entry}
use Rattle.forms.specs.declared.form.Form.{Form}
use Rattle.forms.specs.declared.form.Form.TheVariants.{Keep, Pool, Put}
use Rattle.forms.specs.declared.route.Route.{Route}
use Rattle.forms.specs.Leaves.{CalmFrom, CalmStep, CalmWay, Follows, Leads, Leaf, Sought, Step, StepAt, and_then, carried, leaves, no_leaf, stepped, through}
use Rattle.forms.specs.Leaves.Step.{keeps, puts}
use Rattle.forms.specs.Route.{from_source, steps_of}
use Rattle.forms.specs.Table.{BagTree, ConditionTree, Stands, TermTree, build, part_at}
use Rattle.forms.specs.Table.Part.{a_bag, a_condition, a_term}
use Rattle.forms.proofs.Parts.{Two, bags, conditions, reached, terms, two}

-- one step more at the end of a way
leads_push : (es : List Entry) (ps : List ℕ) (way : List Step) (p : ℕ) (s : Step) → Leads es ps way → StepAt es p s → Leads es (ps ++ p ∷ []) (way ++ s ∷ [])
leads_push es [] [] p s l h = (h, tt)
leads_push es [] (x ∷ way) p s l h = absurd l
leads_push es (q ∷ ps) [] p s l h = absurd l
leads_push es (q ∷ ps) (x ∷ way) p s l h = (l.0, leads_push es ps way p s l.1 h)

-- the bag below a keep or put form, and what the form does to its leaves
pub record Upward (es : List Entry) (p q : ℕ) (b : BagTree) : Type 0 where
  pub x : BagTree
  pub s : Step
  pub below : q < p
  pub is : part_at es q ≡ a_bag x
  pub here : StepAt es p s
  pub passes : leaves b ≡ map (through s) (leaves x)

pub upward : (es : List Entry) (p q : ℕ) (f : Form) (b : BagTree) → part_at es p ≡ a_bag b → Stands es p f → ((c : ℕ) × (f ≡ Keep q c)) ⊎ ((j : ℤ) × (t : ℕ) × (f ≡ Put j q t)) → Upward es p q b
upward es p q f b e stands (inl (c, is)) =
    let i = two bags conditions bags keep (λ _. Unit {0}) es p q c (b, e, tt) (stands ∙ ap (build _) is) in
    record { x = i.x; s = keeps i.y; below = i.first.below; is = i.first.is; here = (i.x, e ∙ ap a_bag i.is); passes = ap leaves i.is }
upward es p q f b e stands (inr (j, t, is)) =
    let i = two bags terms bags (put j) (λ _. Unit {0}) es p q t (b, e, tt) (stands ∙ ap (build _) is) in
    record { x = i.x; s = puts j i.y; below = i.first.below; is = i.first.is; here = (i.x, e ∙ ap a_bag i.is); passes = ap leaves i.is }

-- two bags below a position hold at most as many leaves as a bag there
add_pows : (a b p : ℕ) → a < p → b < p → 2 ^ a + 2 ^ b ≤ 2 ^ p
add_pows a b zero h k = absurd (omega arith)
add_pows a b (suc q) h k = omega (arith, two-pow-succ q, pow_mono {i = a} {j = q} (omega arith), pow_mono {i = b} {j = q} (omega arith))

-- the search below a keep or put form, seen from the form
pub sought_up : {es : List Entry} {p q n : ℕ} {b : BagTree} {r t : Route} (u : Upward es p q b) → Sought es q (leaves u.x) n (Ok r) → from_source t ≡ from_source r → steps_of t ≡ steps_of r ++ p ∷ [] → Sought es p (leaves b) n (Ok t)
sought_up {es} {p} {q} {n} {b} {r} {t} u h source steps =
    let ls : List Leaf = leaves u.x in
    let f : Leaf → Leaf = through u.s in
    let there : n < length (map f ls) = omega (arith, h.0, length-map ls f) in
    let same : get_or (map f ls) n no_leaf ≡ f (get_or ls n no_leaf) = get_or-map f ls n no_leaf no_leaf h.0 in
    let leads : Leads es (steps_of t) (f (get_or ls n no_leaf)).way = subst (λ ps. Leads es ps (f (get_or ls n no_leaf)).way) (sym steps) (leads_push es (steps_of r) (get_or ls n no_leaf).way p u.s h.1.leads u.here) in
    let follows : Follows es t (f (get_or ls n no_leaf)) = record { source = source ∙ h.1.source; leads = leads } in
    subst (λ l. Sought es p l n (Ok t)) (sym u.passes) (there, subst (Follows es t) (sym same) follows, omega (arith, ap length steps, length_push (steps_of r) p, h.2, u.below), omega (arith, h.3, pow_mono {i = q} {j = p} (omega (arith, u.below))))

pub sought_up_none : {es : List Entry} {p q n : ℕ} {b : BagTree} (u : Upward es p q b) (m : ℕ) → Sought es q (leaves u.x) n (Err m) → Sought es p (leaves b) n (Err m)
sought_up_none {es} {p} {q} {n} {b} u m h =
    let ls : List Leaf = leaves u.x in
    let f : Leaf → Leaf = through u.s in
    subst (λ l. Sought es p l n (Err m)) (sym u.passes) (omega (arith, h.0, length-map ls f), omega (arith, h.1, length-map ls f, pow_mono {i = q} {j = p} (omega (arith, u.below))))

-- the two bags of a pool, and the search in the first, and then in the second, seen from the pool
abbrev pub Pooled : List Entry → ℕ → ℕ → ℕ → BagTree → Type 0
Pooled es p a b t = Two bags bags pool (λ _. Unit {0}) es p a b t

pub pooled : (es : List Entry) (p a b : ℕ) (t : BagTree) → part_at es p ≡ a_bag t → Stands es p (Pool a b) → Pooled es p a b t
pooled es p a b t e stands = two bags bags bags pool (λ _. Unit {0}) es p a b (t, e, tt) stands

pub sought_first : {es : List Entry} {p a b n : ℕ} {t : BagTree} {r : Route} (i : Pooled es p a b t) → Sought es a (leaves i.x) n (Ok r) → Sought es p (leaves t) n (Ok r)
sought_first {es} {p} {a} {n = n} {r = r} i h =
    let ls : List Leaf = leaves i.x in
    let ms : List Leaf = leaves i.y in
    rw i.is
    (omega (arith, h.0, length-append ls ms), subst (Follows es r) (sym (get_or_append_left ls ms no_leaf n h.0)) h.1, omega (arith, h.2, i.first.below), omega (arith, h.3, pow_mono {i = a} {j = p} (omega (arith, i.first.below))))

pub sought_second : {es : List Entry} {p a b n : ℕ} {t : BagTree} (i : Pooled es p a b t) (m : ℕ) (o : Result Route ℕ) → Sought es a (leaves i.x) n (Err m) → Sought es b (leaves i.y) m o → Sought es p (leaves t) n o
sought_second {es} {p} {a} {b} {n} i m o h g = subst (λ t. Sought es p (leaves t) n o) (sym i.is) (go o g)
  where
    ls : List Leaf
    ls = leaves i.x

    ms : List Leaf
    ms = leaves i.y

    go : (o : Result Route ℕ) → Sought es b ms m o → Sought es p (ls ++ ms) n o
    go (Ok r) g =
        (omega (arith, h.0, g.0, length-append ls ms), subst (Follows es r) (sym (ap (λ x. get_or (ls ++ ms) x no_leaf) (sym h.0) ∙ get_or-append-add ls ms m no_leaf)) g.1, omega (arith, g.2, i.second.below), omega (arith, h.0, h.1, g.3, add_pows a b p i.first.below i.second.below))
    go (Err x) g = (omega (arith, h.0, g.0, length-append ls ms), omega (arith, h.1, g.1, length-append ls ms, add_pows a b p i.first.below i.second.below))

-- the next step of a way
record Next (es : List Entry) (ps : List ℕ) (i : ℕ) (rest : List Step) : Type 0 where
  s : Step
  after : List Step
  is : rest ≡ s ∷ after
  here : StepAt es (get_or ps i 0) s
  leads : Leads es (drop (i + 1) ps) after

next : (es : List Entry) (ps : List ℕ) (i : ℕ) (rest : List Step) → i < length ps → Leads es (drop i ps) rest → Next es ps i rest
next es ps i rest h l = go rest (subst (λ qs. Leads es qs rest) (drop_more ps i 0 h) l)
  where
    go : (way : List Step) → Leads es (get_or ps i 0 ∷ drop (i + 1) ps) way → Next es ps i way
    go [] k = absurd k
    go (s ∷ way) k = record { s = s; after = way; is = refl; here = k.0; leads = k.1 }

-- the table reaches to a step
pub step_inside : (es : List Entry) (p : ℕ) (s : Step) → StepAt es p s → p < length es
step_inside es p (keeps c) h = reached bags (λ _. Unit {0}) es p (keep h.0 c, h.1, tt)
step_inside es p (puts j t) h = reached bags (λ _. Unit {0}) es p (put j h.0 t, h.1, tt)

-- the step at a keep form, and at a put form
pub keep_step : (es : List Entry) (p b q : ℕ) (s : Step) → Stands es p (Keep b q) → StepAt es p s → (c : ConditionTree) × (s ≡ keeps c) × (part_at es q ≡ a_condition c)
keep_step es p b q (keeps c) stands (x, e) =
    let i = two bags conditions bags keep (λ _. Unit {0}) es p b q (keep x c, e, tt) stands in
    let same : c ≡ i.y = cc i.is in
    (c, refl, i.second.is ∙ ap a_condition (sym same))
keep_step es p b q (puts j t) stands (x, e) =
    let i = two bags conditions bags keep (λ _. Unit {0}) es p b q (put j x t, e, tt) stands in
    absurd (cc i.is)

pub put_step : (es : List Entry) (p b q : ℕ) (j : ℤ) (s : Step) → Stands es p (Put j b q) → StepAt es p s → (t : TermTree) × (s ≡ puts j t) × (part_at es q ≡ a_term t)
put_step es p b q j (keeps c) stands (x, e) =
    let i = two bags terms bags (put j) (λ _. Unit {0}) es p b q (keep x c, e, tt) stands in
    absurd (cc i.is)
put_step es p b q j (puts k t) stands (x, e) =
    let i = two bags terms bags (put j) (λ _. Unit {0}) es p b q (put k x t, e, tt) stands in
    let same : t ≡ i.y = cc i.is in
    let column : k ≡ j = cc i.is in
    (t, ap (λ z. puts z t) column, i.second.is ∙ ap a_term (sym same))

-- a way that is left along the positions ps, on which the row arrives as the whole way says
pub record Left (es : List Entry) (ps : List ℕ) (row : Row) (arrives : Option Row) : Type 0 where
  pub way : List Step
  pub leads : Leads es ps way
  pub calm : CalmWay way row
  pub same : carried way row ≡ arrives

-- the next step on it, and what is left behind that
pub record Ahead (es : List Entry) (ps : List ℕ) (i at : ℕ) (row : Row) (arrives : Option Row) : Type 0 where
  pub s : Step
  pub here : StepAt es at s
  pub calm : CalmStep s row
  pub goes : (r : Row) → stepped s row ≡ Some r → Left es (drop (i + 1) ps) r arrives

pub ahead : (es : List Entry) (ps : List ℕ) (i at : ℕ) (row : Row) (arrives : Option Row) → i < length ps → at ≡ get_or ps i 0 → Left es (drop i ps) row arrives → Ahead es ps i at row arrives
ahead es ps i at row arrives h e l =
    let n = next es ps i l.way h l.leads in
    let calm : CalmWay (n.s ∷ n.after) row = subst (λ way. CalmWay way row) n.is l.calm in
    let same : and_then (stepped n.s row) (carried n.after) ≡ arrives = sym (ap (λ way. carried way row) n.is) ∙ l.same in
    record {
      s = n.s;
      here = subst (λ p. StepAt es p n.s) (sym e) n.here;
      calm = calm.0;
      goes = λ r g. record { way = n.after; leads = n.leads; calm = subst (CalmFrom (CalmWay n.after)) g calm.1; same = sym (ap (λ o. and_then o (carried n.after)) g) ∙ same };
    }
