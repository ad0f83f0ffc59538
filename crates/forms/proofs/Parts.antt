-- What stands at a position of a table, from the form there and the parts before it.
use Rattle.std.proofs.Common.{◌≡◌, ℕ, zero, suc, ◌+◌, ◌<◌, ◌≤◌, List, [], ◌∷◌, ◌++◌, length, get_or, take, Some, None, Option, sym, refl, ap, ◌∙◌, subst, inl, inr, arith}
use Rattle.std.proofs.lemmas.List.{get_or_past, get_or-take, get_or_push, length_push, length-take, take-append-le, take_at}
use Rattle.std.proofs.lemmas.Bool.{cases_lt}
use Rattle.forms.specs.declared.form.Entry.{Entry}
use Rattle.forms.specs.Table.{TermTree, ConditionTree, BagTree, NumberTree, Part, as_term, as_condition, as_bag, as_number, of_one, of_two, of_three, nth, build, parts_from, parts, part_at}
use Rattle.forms.specs.Table.Part.{bad, a_term, a_condition, a_bag, a_number}

-- the parts so far stay in front
front : (n : ℕ) (ps : List Part) (es : List Entry) → n ≤ length ps → take n (parts_from ps es) ≡ take n ps
unfolding parts_from
front n ps [] h = refl
front n ps (e ∷ es) h =
    let p : Part = build ps e.form in
    front n (ps ++ p ∷ []) es (omega (arith, length_push ps p)) ∙ take-append-le n ps (p ∷ []) h

pub length_parts_from : (ps : List Part) (es : List Entry) → length (parts_from ps es) ≡ length ps + length es
unfolding parts_from
length_parts_from ps [] = omega arith
length_parts_from ps (e ∷ es) =
    let p : Part = build ps e.form in
    omega (arith, length_parts_from (ps ++ p ∷ []) es, length_push ps p)

-- what stands before n in what is taken of n
nth_front : (n i : ℕ) (ps qs : List Part) → i < n → take n ps ≡ take n qs → nth ps i ≡ nth qs i
nth_front n i ps qs h e = sym (get_or-take n ps i bad h) ∙ ap (λ xs. get_or xs i bad) e ∙ get_or-take n qs i bad h

from_at : (ps : List Part) (es : List Entry) (q : ℕ) (d : Entry) (p : ℕ) → length ps + q ≡ p → q < length es → nth (parts_from ps es) p ≡ build (take p (parts_from ps es)) (get_or es q d).form
unfolding parts_from
from_at ps [] q d p e h = absurd (omega arith)
from_at ps (x ∷ es) zero d p e h =
    let one : Part = build ps x.form in
    let here : length ps ≡ p = omega arith in
    let long : length (ps ++ one ∷ []) ≡ length ps + 1 = length_push ps one in
    let kept : take (p + 1) (parts_from (ps ++ one ∷ []) es) ≡ take (p + 1) (ps ++ one ∷ []) = front (p + 1) (ps ++ one ∷ []) es (omega arith) in
    let before : take p (parts_from (ps ++ one ∷ []) es) ≡ take p (ps ++ one ∷ []) = front p (ps ++ one ∷ []) es (omega arith) in
    nth_front (p + 1) p (parts_from (ps ++ one ∷ []) es) (ps ++ one ∷ []) (omega arith) kept ∙ get_or_push ps one bad p here ∙ ap (λ xs. build xs x.form) (sym (before ∙ take_at ps (one ∷ []) p here))
from_at ps (x ∷ es) (suc q) d p e h =
    let one : Part = build ps x.form in
    from_at (ps ++ one ∷ []) es q d p (omega (arith, length_push ps one)) (omega arith)

-- the part at a position is what the form there makes of the parts before
pub build_at : (es : List Entry) (p : ℕ) (d : Entry) → p < length es → part_at es p ≡ build (take p (parts es)) (get_or es p d).form
unfolding part_at parts
build_at es p d h = from_at [] es p d p (omega arith) h

-- beyond the table nothing stands
pub bad_past : (es : List Entry) (p : ℕ) → length es ≤ p → part_at es p ≡ bad
unfolding part_at parts
bad_past es p h = get_or_past (parts_from [] es) p bad (omega (arith, length_parts_from [] es))

-- where something stands, the table reaches
inside : (es : List Entry) (p : ℕ) (q : Part) → part_at es p ≡ q → (q ≡ bad → ⊥) → p < length es
inside es p q e good = elim (cases_lt p (length es)) [ inl h ↦ h | inr h ↦ absurd (good (sym e ∙ bad_past es p h)) ]

-- a kind of tree as parts: how one goes in and comes back
pub record Family (X : Type 0) : Type 0 where
  pub into : X → Part
  pub back : Part → Option X
  pub same : (q : Part) (x : X) → back q ≡ Some x → q ≡ into x
  pub again : (x : X) → back (into x) ≡ Some x
  pub good : (x : X) → into x ≡ bad → ⊥

pub same_term : (q : Part) (x : TermTree) → as_term q ≡ Some x → q ≡ a_term x
same_term bad x e = cc
same_term (a_term t) x e = cc
same_term (a_condition c) x e = cc
same_term (a_bag b) x e = cc
same_term (a_number n) x e = cc

pub good_term : (x : TermTree) → a_term x ≡ bad → ⊥
good_term x e = cc

abbrev pub terms : Family TermTree
terms = record { into = a_term; back = as_term; same = same_term; again = λ x. refl; good = good_term }

pub same_condition : (q : Part) (x : ConditionTree) → as_condition q ≡ Some x → q ≡ a_condition x
same_condition bad x e = cc
same_condition (a_term t) x e = cc
same_condition (a_condition c) x e = cc
same_condition (a_bag b) x e = cc
same_condition (a_number n) x e = cc

pub good_condition : (x : ConditionTree) → a_condition x ≡ bad → ⊥
good_condition x e = cc

abbrev pub conditions : Family ConditionTree
conditions = record { into = a_condition; back = as_condition; same = same_condition; again = λ x. refl; good = good_condition }

pub same_bag : (q : Part) (x : BagTree) → as_bag q ≡ Some x → q ≡ a_bag x
same_bag bad x e = cc
same_bag (a_term t) x e = cc
same_bag (a_condition c) x e = cc
same_bag (a_bag b) x e = cc
same_bag (a_number n) x e = cc

pub good_bag : (x : BagTree) → a_bag x ≡ bad → ⊥
good_bag x e = cc

abbrev pub bags : Family BagTree
bags = record { into = a_bag; back = as_bag; same = same_bag; again = λ x. refl; good = good_bag }

pub same_number : (q : Part) (x : NumberTree) → as_number q ≡ Some x → q ≡ a_number x
same_number bad x e = cc
same_number (a_term t) x e = cc
same_number (a_condition c) x e = cc
same_number (a_bag b) x e = cc
same_number (a_number n) x e = cc

pub good_number : (x : NumberTree) → a_number x ≡ bad → ⊥
good_number x e = cc

abbrev pub numbers : Family NumberTree
numbers = record { into = a_number; back = as_number; same = same_number; again = λ x. refl; good = good_number }

-- x stands at a, before p
pub record Found {X : Type 0} (F : Family X) (es : List Entry) (p a : ℕ) (x : X) : Type 0 where
  pub below : a < p
  pub is : part_at es a ≡ F.into x

found : {X : Type 0} (F : Family X) (es : List Entry) (p a : ℕ) (x : X) → F.back (nth (take p (parts es)) a) ≡ Some x → Found F es p a x
unfolding part_at
found F es p a x e =
    let is : nth (take p (parts es)) a ≡ F.into x = F.same (nth (take p (parts es)) a) x e in
    elim (cases_lt a p) [ inl h ↦ record { below = h; is = sym (get_or-take p (parts es) a bad h) ∙ is } | inr h ↦ absurd (F.good x (sym is ∙ get_or_past (take p (parts es)) a bad (omega (arith, length-take p (parts es))))) ]

-- a whole z of one part, of two, of three, with what is known of it
pub record One {X Z : Type 0} (F : Family X) (mk : X → Z) (C : Z → Type 0) (es : List Entry) (p a : ℕ) (z : Z) : Type 0 where
  pub x : X
  pub is : z ≡ mk x
  pub known : C (mk x)
  pub first : Found F es p a x

pub record Two {X Y Z : Type 0} (F : Family X) (G : Family Y) (mk : X → Y → Z) (C : Z → Type 0) (es : List Entry) (p a b : ℕ) (z : Z) : Type 0 where
  pub x : X
  pub y : Y
  pub is : z ≡ mk x y
  pub known : C (mk x y)
  pub first : Found F es p a x
  pub second : Found G es p b y

pub record Three {X Y W Z : Type 0} (F : Family X) (G : Family Y) (K : Family W) (mk : X → Y → W → Z) (C : Z → Type 0) (es : List Entry) (p a b c : ℕ) (z : Z) : Type 0 where
  pub x : X
  pub y : Y
  pub w : W
  pub is : z ≡ mk x y w
  pub known : C (mk x y w)
  pub first : Found F es p a x
  pub second : Found G es p b y
  pub third : Found K es p c w

-- a tree that stands at a position, with what is known of it
abbrev pub Known : {Z : Type 0} → Family Z → (Z → Type 0) → List Entry → ℕ → Type 0
Known {Z} H C es p = (z : Z) × (part_at es p ≡ H.into z) × C z

whole : {Z : Type 0} (H : Family Z) (q : Part) (z u : Z) → q ≡ H.into z → q ≡ H.into u → z ≡ u
whole H q z u e h = let k : Some z ≡ Some u = sym (H.again z) ∙ ap H.back (sym e ∙ h) ∙ H.again u in cc

pub one : {X Z : Type 0} (F : Family X) (H : Family Z) (mk : X → Z) (C : Z → Type 0) (es : List Entry) (p a : ℕ) (k : Known H C es p) → part_at es p ≡ of_one (λ x. H.into (mk x)) (F.back (nth (take p (parts es)) a)) → One F mk C es p a k.0
one {X} {Z} F H mk C es p a k s = go (F.back (nth (take p (parts es)) a)) refl
  where
    go : (o : Option X) → F.back (nth (take p (parts es)) a) ≡ o → One F mk C es p a k.0
    go None i = absurd (H.good k.0 (sym k.1 ∙ s ∙ ap (of_one (λ x. H.into (mk x))) i))
    go (Some x) i =
        let is : k.0 ≡ mk x = whole H (part_at es p) k.0 (mk x) k.1 (s ∙ ap (of_one (λ x. H.into (mk x))) i) in
        record { x = x; is = is; known = subst C is k.2; first = found F es p a x i }

pub two : {X Y Z : Type 0} (F : Family X) (G : Family Y) (H : Family Z) (mk : X → Y → Z) (C : Z → Type 0) (es : List Entry) (p a b : ℕ) (k : Known H C es p) → part_at es p ≡ of_two (λ x y. H.into (mk x y)) (F.back (nth (take p (parts es)) a)) (G.back (nth (take p (parts es)) b)) → Two F G mk C es p a b k.0
two {X} {Y} {Z} F G H mk C es p a b k s = go (F.back (nth (take p (parts es)) a)) refl
  where
    go : (o : Option X) → F.back (nth (take p (parts es)) a) ≡ o → Two F G mk C es p a b k.0
    go None i = absurd (H.good k.0 (sym k.1 ∙ s ∙ ap (λ o. of_two (λ x y. H.into (mk x y)) o (G.back (nth (take p (parts es)) b))) i))
    go (Some x) i =
        let r : One G (mk x) C es p b k.0 = one G H (mk x) C es p b k (s ∙ ap (λ o. of_two (λ x y. H.into (mk x y)) o (G.back (nth (take p (parts es)) b))) i) in
        record { x = x; y = r.x; is = r.is; known = r.known; first = found F es p a x i; second = r.first }

pub three : {X Y W Z : Type 0} (F : Family X) (G : Family Y) (K : Family W) (H : Family Z) (mk : X → Y → W → Z) (C : Z → Type 0) (es : List Entry) (p a b c : ℕ) (k : Known H C es p) → part_at es p ≡ of_three (λ x y w. H.into (mk x y w)) (F.back (nth (take p (parts es)) a)) (G.back (nth (take p (parts es)) b)) (K.back (nth (take p (parts es)) c)) → Three F G K mk C es p a b c k.0
three {X} {Y} {W} {Z} F G K H mk C es p a b c k s = go (F.back (nth (take p (parts es)) a)) refl
  where
    go : (o : Option X) → F.back (nth (take p (parts es)) a) ≡ o → Three F G K mk C es p a b c k.0
    go None i = absurd (H.good k.0 (sym k.1 ∙ s ∙ ap (λ o. of_three (λ x y w. H.into (mk x y w)) o (G.back (nth (take p (parts es)) b)) (K.back (nth (take p (parts es)) c))) i))
    go (Some x) i =
        let r : Two G K (mk x) C es p b c k.0 = two G K H (mk x) C es p b c k (s ∙ ap (λ o. of_three (λ x y w. H.into (mk x y w)) o (G.back (nth (take p (parts es)) b)) (K.back (nth (take p (parts es)) c))) i) in
        record { x = x; y = r.x; w = r.y; is = r.is; known = r.known; first = found F es p a x i; second = r.first; third = r.second }

-- the table reaches to where something stands
pub reached : {Z : Type 0} (H : Family Z) (C : Z → Type 0) (es : List Entry) (p : ℕ) → Known H C es p → p < length es
reached H C es p k = inside es p (H.into k.0) k.1 (H.good k.0)

-- what is shown of the tree that is known to stand at a position holds of every tree there
pub for_all : {Z Y : Type 0} (H : Family Z) (C : Z → Type 0) (V : Z → Y) (es : List Entry) (p : ℕ) (k : Known H C es p) (r : Y) → r ≡ V k.0 → (u : Z) → part_at es p ≡ H.into u → r ≡ V u
for_all H C V es p k r v u e = v ∙ ap V (whole H (part_at es p) k.0 u k.1 e)
