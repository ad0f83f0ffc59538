-- The parts of a tree stand at the positions that its form names.
use Rattle.std.proofs.Common.{◌≡◌, ℕ, ◌<◌, List, [], ◌∷◌, map, length, get_or, take, Some, None, Option, sym, refl, ap, ◌∙◌, ap₂, inl, inr, arith}
use Rattle.forms.proofs.Parts.{Family, bad_past, bags, build_at, conditions, good_bag, good_condition, good_number, good_term, numbers, terms}
use Rattle.forms.specs.Lined.{entry_at, no_entry, part_position, part_positions}
use Rattle.forms.specs.Table.{Part, build, nth, of_one, of_three, of_two, part_at, parts}
use Rattle.forms.specs.Table.Part.{bad, a_term, a_condition, a_bag, a_number}
use Rattle.forms.specs.declared.form.Entry.{Entry}
use Rattle.forms.specs.declared.form.Form.{Form}
use Rattle.forms.specs.declared.form.Form.TheVariants as form
use Rattle.std.proofs.lemmas.List.{get_or-map, get_or_past, get_or-take, length-map, length-take}
use Rattle.std.proofs.lemmas.Bool.{cases_lt}
use Rattle.trees.specs.declared.Kind.{Kind}
use Rattle.trees.specs.declared.Kind.TheVariants.{Term, Condition, Bag, Number}
use Rattle.trees.specs.Tree.{Tree}
use Rattle.trees.specs.Tree.Tree.{bag, keep, put, pool, col, lit, plus, times, pick, less, equal, either, not, num, setting, var, count, sum, add, sub, least, most, scale, clip, let_in}

-- a tree as a part
abbrev pub part_of : {k : Kind} → Tree k → Part
part_of {k = Term} t = a_term t
part_of {k = Condition} t = a_condition t
part_of {k = Bag} t = a_bag t
part_of {k = Number} t = a_number t

pub good : {k : Kind} (t : Tree k) → part_of t ≡ bad → ⊥
good {k = Term} t = good_term t
good {k = Condition} t = good_condition t
good {k = Bag} t = good_bag t
good {k = Number} t = good_number t

-- the parts of a tree, in order
abbrev pub below : {k : Kind} → Tree k → List Part
below (bag k) = []
below (keep b c) = a_bag b ∷ a_condition c ∷ []
below (put j b t) = a_bag b ∷ a_term t ∷ []
below (pool a b) = a_bag a ∷ a_bag b ∷ []
below (col j) = []
below (lit n) = []
below (plus a b) = a_term a ∷ a_term b ∷ []
below (times a b) = a_term a ∷ a_term b ∷ []
below (pick c a b) = a_condition c ∷ a_term a ∷ a_term b ∷ []
below (less a b) = a_term a ∷ a_term b ∷ []
below (equal a b) = a_term a ∷ a_term b ∷ []
below (either c d) = a_condition c ∷ a_condition d ∷ []
below (not c) = a_condition c ∷ []
below (num n) = []
below (setting k) = []
below (var i) = []
below (count b) = a_bag b ∷ []
below (sum lo hi b t) = a_bag b ∷ a_term t ∷ []
below (add a b) = a_number a ∷ a_number b ∷ []
below (sub a b) = a_number a ∷ a_number b ∷ []
below (least a b) = a_number a ∷ a_number b ∷ []
below (most a b) = a_number a ∷ a_number b ∷ []
below (scale n a) = a_number a ∷ []
below (clip lo hi a) = a_number a ∷ []
below (let_in a b) = a_number a ∷ a_number b ∷ []

abbrev beneath : Part → List Part
beneath bad = []
beneath (a_term t) = below t
beneath (a_condition c) = below c
beneath (a_bag b) = below b
beneath (a_number n) = below n

beneath_one : {X : Type 0} (F : Family X) (mk : X → Part) → ((x : X) → beneath (mk x) ≡ F.into x ∷ []) → (q : Part) → (of_one mk (F.back q) ≡ bad → ⊥) → beneath (of_one mk (F.back q)) ≡ q ∷ []
beneath_one {X} F mk h q = go (F.back q) refl
  where
    go : (o : Option X) → F.back q ≡ o → (of_one mk o ≡ bad → ⊥) → beneath (of_one mk o) ≡ q ∷ []
    go None e g = absurd (g refl)
    go (Some x) e g = h x ∙ ap (λ z. z ∷ []) (sym (F.same q x e))

beneath_two : {X Y : Type 0} (F : Family X) (G : Family Y) (mk : X → Y → Part) → ((x : X) (y : Y) → beneath (mk x y) ≡ F.into x ∷ G.into y ∷ []) → (q r : Part) → (of_two mk (F.back q) (G.back r) ≡ bad → ⊥) → beneath (of_two mk (F.back q) (G.back r)) ≡ q ∷ r ∷ []
beneath_two {X} {Y} F G mk h q r = go (F.back q) (G.back r) refl refl
  where
    go : (o : Option X) (u : Option Y) → F.back q ≡ o → G.back r ≡ u → (of_two mk o u ≡ bad → ⊥) → beneath (of_two mk o u) ≡ q ∷ r ∷ []
    go None u e f g = absurd (g refl)
    go (Some x) None e f g = absurd (g refl)
    go (Some x) (Some y) e f g = h x y ∙ ap₂ (λ z w. z ∷ w ∷ []) (sym (F.same q x e)) (sym (G.same r y f))

beneath_three : {X Y Z : Type 0} (F : Family X) (G : Family Y) (K : Family Z) (mk : X → Y → Z → Part) → ((x : X) (y : Y) (z : Z) → beneath (mk x y z) ≡ F.into x ∷ G.into y ∷ K.into z ∷ []) → (q r s : Part) → (of_three mk (F.back q) (G.back r) (K.back s) ≡ bad → ⊥) → beneath (of_three mk (F.back q) (G.back r) (K.back s)) ≡ q ∷ r ∷ s ∷ []
beneath_three {X} {Y} {Z} F G K mk h q r s = go (F.back q) (G.back r) (K.back s) refl refl refl
  where
    go : (o : Option X) (u : Option Y) (w : Option Z) → F.back q ≡ o → G.back r ≡ u → K.back s ≡ w → (of_three mk o u w ≡ bad → ⊥) → beneath (of_three mk o u w) ≡ q ∷ r ∷ s ∷ []
    go None u w e f i g = absurd (g refl)
    go (Some x) None w e f i g = absurd (g refl)
    go (Some x) (Some y) None e f i g = absurd (g refl)
    go (Some x) (Some y) (Some z) e f i g = h x y z ∙ ap₂ (λ k l. k ∷ l) (sym (F.same q x e)) (ap₂ (λ k l. k ∷ l ∷ []) (sym (G.same r y f)) (sym (K.same s z i)))

built : (ps : List Part) (f : Form) → (build ps f ≡ bad → ⊥) → beneath (build ps f) ≡ map (nth ps) (part_positions f)
built ps (form.Bag k) = λ g. refl
built ps (form.Keep b c) = beneath_two bags conditions (λ x y. a_bag (keep x y)) (λ x y. refl) (nth ps b) (nth ps c)
built ps (form.Put j b t) = beneath_two bags terms (λ x y. a_bag (put j x y)) (λ x y. refl) (nth ps b) (nth ps t)
built ps (form.Pool a b) = beneath_two bags bags (λ x y. a_bag (pool x y)) (λ x y. refl) (nth ps a) (nth ps b)
built ps (form.Col j) = λ g. refl
built ps (form.Lit n) = λ g. refl
built ps (form.Plus a b) = beneath_two terms terms (λ x y. a_term (plus x y)) (λ x y. refl) (nth ps a) (nth ps b)
built ps (form.Times a b) = beneath_two terms terms (λ x y. a_term (times x y)) (λ x y. refl) (nth ps a) (nth ps b)
built ps (form.Pick c a b) = beneath_three conditions terms terms (λ x y z. a_term (pick x y z)) (λ x y z. refl) (nth ps c) (nth ps a) (nth ps b)
built ps (form.Less a b) = beneath_two terms terms (λ x y. a_condition (less x y)) (λ x y. refl) (nth ps a) (nth ps b)
built ps (form.Equal a b) = beneath_two terms terms (λ x y. a_condition (equal x y)) (λ x y. refl) (nth ps a) (nth ps b)
built ps (form.Either c d) = beneath_two conditions conditions (λ x y. a_condition (either x y)) (λ x y. refl) (nth ps c) (nth ps d)
built ps (form.Not c) = beneath_one conditions (λ x. a_condition (not x)) (λ x. refl) (nth ps c)
built ps (form.Num n) = λ g. refl
built ps (form.Setting k) = λ g. refl
built ps (form.Var i) = λ g. refl
built ps (form.Count b) = beneath_one bags (λ x. a_number (count x)) (λ x. refl) (nth ps b)
built ps (form.Sum lo hi b t) = beneath_two bags terms (λ x y. a_number (sum lo hi x y)) (λ x y. refl) (nth ps b) (nth ps t)
built ps (form.Add a b) = beneath_two numbers numbers (λ x y. a_number (add x y)) (λ x y. refl) (nth ps a) (nth ps b)
built ps (form.Sub a b) = beneath_two numbers numbers (λ x y. a_number (sub x y)) (λ x y. refl) (nth ps a) (nth ps b)
built ps (form.Least a b) = beneath_two numbers numbers (λ x y. a_number (least x y)) (λ x y. refl) (nth ps a) (nth ps b)
built ps (form.Most a b) = beneath_two numbers numbers (λ x y. a_number (most x y)) (λ x y. refl) (nth ps a) (nth ps b)
built ps (form.Scale n a) = beneath_one numbers (λ x. a_number (scale n x)) (λ x. refl) (nth ps a)
built ps (form.Clip lo hi a) = beneath_one numbers (λ x. a_number (clip lo hi x)) (λ x. refl) (nth ps a)
built ps (form.Let a b) = beneath_two numbers numbers (λ x y. a_number (let_in x y)) (λ x y. refl) (nth ps a) (nth ps b)

-- the table reaches to where something stands
pub stood : (es : List Entry) (p : ℕ) → (part_at es p ≡ bad → ⊥) → p < length es
stood es p g = elim (cases_lt p (length es)) [ inl h ↦ h | inr h ↦ absurd (g (bad_past es p h)) ]

-- what stands in front of p stands in the table
in_front : (es : List Entry) (p a : ℕ) (q : Part) → nth (take p (parts es)) a ≡ q → (q ≡ bad → ⊥) → part_at es a ≡ q
unfolding part_at
in_front es p a q e g = elim (cases_lt a p) [
  | inl h ↦ sym (get_or-take p (parts es) a bad h) ∙ e
  | inr h ↦ absurd (g (sym e ∙ get_or_past (take p (parts es)) a bad (omega (arith, length-take p (parts es)))))
]

beneath_of : {k : Kind} (u : Tree k) → beneath (part_of u) ≡ below u
beneath_of {k = Term} u = refl
beneath_of {k = Condition} u = refl
beneath_of {k = Bag} u = refl
beneath_of {k = Number} u = refl

-- a, which is part i of the tree at p, stands where the form at p says
pub part_below : {j k : Kind} (es : List Entry) (p : ℕ) (u : Tree k) → part_at es p ≡ part_of u → (ws : List Part) → below u ≡ ws → (i : ℕ) → i < length ws → (a : Tree j) → get_or ws i bad ≡ part_of a → part_at es (part_position es p i) ≡ part_of a
part_below es p u e ws is i h a here =
    let ps = take p (parts es) in
    let f = (entry_at es p).form in
    let made : part_at es p ≡ build ps f = build_at es p no_entry (stood es p (λ b. good u (sym e ∙ b))) in
    let xs = part_positions f in
    let list : map (nth ps) xs ≡ ws = sym (built ps f (λ b. good u (sym e ∙ made ∙ b))) ∙ ap beneath (sym made ∙ e) ∙ beneath_of u ∙ is in
    let short : i < length xs = omega (arith, ap length list, length-map xs (nth ps)) in
    in_front es p (get_or xs i 0) (part_of a) (sym (get_or-map (nth ps) xs i 0 bad short) ∙ ap (λ l. get_or l i bad) list ∙ here) (good a)
