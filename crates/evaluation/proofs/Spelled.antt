-- A table with one entry for each form of a number, which opens where the written form has it, holds nothing else.
use Rattle.std.proofs.Common.{◌≡◌, ℕ, suc, ◌+◌, ◌-◌, ◌<◌, ◌≤◌, true, false, List, [], ◌∷◌, length, sym, refl, ◌∙◌, subst, inl, inr, arith}
use Rattle.forms.specs.Lined.{AroundOne, AroundThree, AroundTwo, Lined, Opens, entry_at, part_position, past}
use Rattle.forms.specs.Table.{NumberTree, Part, part_at}
use Rattle.forms.specs.Table.Part.{bad, a_term, a_condition, a_bag, a_number}
use Rattle.forms.specs.Totals.{totalled}
use Rattle.forms.specs.declared.form.Entry.{Entry}
use Rattle.std.proofs.lemmas.Bool.{cases_eq, cases_lt, false≢true}
use Rattle.trees.specs.declared.Kind.{Kind}
use Rattle.trees.specs.declared.Kind.TheVariants.{Term, Condition, Bag, Number}
use Rattle.trees.specs.Size.{size}
use Rattle.trees.specs.Tree.{Tree}
use Rattle.trees.specs.Tree.Tree.{bag, keep, put, pool, col, lit, plus, times, pick, less, equal, either, not, num, setting, var, count, sum, add, sub, least, most, scale, clip, let_in}
use Rattle.evaluation.specs.Queries.{LinedSpells, SumsIn}
use Rattle.evaluation.proofs.Below.{below, good, part_below, part_of, stood}
use Rattle.evaluation.proofs.Onto.{onto}

-- a tree that is no number
abbrev Plain : Part → Type 0
Plain bad = ⊥
Plain (a_term t) = Unit {0}
Plain (a_condition c) = Unit {0}
Plain (a_bag b) = Unit {0}
Plain (a_number n) = ⊥

-- a tree, and if it is a count or a sum, then one of those in the number t
abbrev Counts : NumberTree → Part → Type 0
Counts t bad = ⊥
Counts t (a_term u) = Unit {0}
Counts t (a_condition c) = Unit {0}
Counts t (a_bag b) = Unit {0}
Counts t (a_number n) = totalled n ≡ true → SumsIn n t

plain_counts : (t : NumberTree) (q : Part) → Plain q → Counts t q
plain_counts t bad h = h
plain_counts t (a_term u) h = tt
plain_counts t (a_condition c) h = tt
plain_counts t (a_bag b) h = tt
plain_counts t (a_number n) h = absurd h

counts_more : (t u : NumberTree) → ((n : NumberTree) → SumsIn n t → SumsIn n u) → (q : Part) → Counts t q → Counts u q
counts_more t u f bad h = h
counts_more t u f (a_term x) h = tt
counts_more t u f (a_condition c) h = tt
counts_more t u f (a_bag b) h = tt
counts_more t u f (a_number n) h = λ e. f n (h e)

none : {X : Type 0} → false ≡ true → X
none e = absurd (false≢true e)

-- a part of the tree
abbrev Inside : {k : Kind} → Tree k → Part → Type 0
Inside {k = Term} t q = Plain q
Inside {k = Condition} t q = Plain q
Inside {k = Bag} t q = Plain q
Inside {k = Number} t q = Counts t q

module _ (es : List Entry) where
  -- some entry is form j, for each j of the m from o on, and P of the part that stands there
  abbrev Found : (Part → Type 0) → ℕ → Type 0
  Found P j = (q : ℕ) × (q < length es) × ((entry_at es q).order ≡ j) × P (part_at es q)

  abbrev Covers : (Part → Type 0) → (o m : ℕ) → Type 0
  Covers P o m = (j : ℕ) → o ≤ j → j < o + m → Found P j

  -- all forms of the tree are there, where it stands at some position
  abbrev Covered : {k : Kind} → Tree k → Type 0
  Covered u = (p n o : ℕ) → part_at es p ≡ part_of u → Lined es u p n o → Covers (Inside u) o (size u)

  -- what is known of the parts of a tree is known of the tree
  abbrev Into : {j k : Kind} → Tree j → Tree k → Type 0
  Into a u = (q : Part) → Inside a q → Inside u q

  moved : {j k : Kind} (a : Tree j) (u : Tree k) → Into a u → (i : ℕ) → Found (Inside a) i → Found (Inside u) i
  moved a u f i (q, below, order, h) = (q, below, order, f (part_at es q) h)

  module _ {k : Kind} (u : Tree k) (self : Inside u (part_of u)) where
    -- the form of the tree itself
    top : (p n o : ℕ) → part_at es p ≡ part_of u → Opens es p n o → (j : ℕ) → o ≡ j → Found (Inside u) j
    top p n o is opens j e = (p, stood es p (λ b. good u (sym is ∙ b)), opens.order ∙ e, subst (Inside u) (sym is) self)

    covers_leaf : (p n o : ℕ) → part_at es p ≡ part_of u → Opens es p n o → Covers (Inside u) o 1
    covers_leaf p n o is opens j low high = top p n o is opens j (omega arith)

    module _ (p n o : ℕ) (is : part_at es p ≡ part_of u) where
      covers_one : {i : Kind} (a : Tree i) → below u ≡ part_of a ∷ [] → Into a u → Covered a → AroundOne es (Lined es a) p n o → Covers (Inside u) o (suc (0 + size a))
      covers_one a e f first (opens, l) j low high = elim (cases_eq o j) [
        | inl same ↦ top p n o is opens j same
        | inr other ↦ moved a u f j (first (part_position es p 0) (n + 1) (o + 1) (part_below es p u is (part_of a ∷ []) e 0 (omega arith) a refl) l j (omega (arith, other)) (omega arith))
      ]

      covers_two : {h i : Kind} (a : Tree h) (b : Tree i) → below u ≡ part_of a ∷ part_of b ∷ [] → Into a u → Into b u → Covered a → Covered b → AroundTwo es a (Lined es a) (Lined es b) p n o → Covers (Inside u) o (suc (0 + size a + size b))
      covers_two a b e f g first second (opens, l, m) j low high =
          let ws = part_of a ∷ part_of b ∷ [] in
          elim (cases_eq o j) [
            | inl same ↦ top p n o is opens j same
            | inr other ↦ elim (cases_lt j (o + 1 + size a)) [
              | inl in_first ↦ moved a u f j (first (part_position es p 0) (n + 1) (o + 1) (part_below es p u is ws e 0 (omega arith) a refl) l j (omega (arith, other)) in_first)
              | inr behind ↦ moved b u g j (second (part_position es p 1) (past (n + 1) a) (o + 1 + size a) (part_below es p u is ws e 1 (omega arith) b refl) m j behind (omega arith))
            ]
          ]

      covers_three : {h i k : Kind} (c : Tree h) (a : Tree i) (b : Tree k) → below u ≡ part_of c ∷ part_of a ∷ part_of b ∷ [] → Into c u → Into a u → Into b u → Covered c → Covered a → Covered b → AroundThree es c a (Lined es c) (Lined es a) (Lined es b) p n o → Covers (Inside u) o (suc (0 + size c + size a + size b))
      covers_three c a b e f g h first second third (opens, l, m, r) j low high =
          let ws = part_of c ∷ part_of a ∷ part_of b ∷ [] in
          elim (cases_eq o j) [
            | inl same ↦ top p n o is opens j same
            | inr other ↦ elim (cases_lt j (o + 1 + size c)) [
              | inl in_first ↦ moved c u f j (first (part_position es p 0) (n + 1) (o + 1) (part_below es p u is ws e 0 (omega arith) c refl) l j (omega (arith, other)) in_first)
              | inr behind ↦ elim (cases_lt j (o + 1 + size c + size a)) [
                | inl in_second ↦ moved a u g j (second (part_position es p 1) (past (n + 1) c) (o + 1 + size c) (part_below es p u is ws e 1 (omega arith) a refl) m j behind in_second)
                | inr last ↦ moved b u h j (third (part_position es p 2) (past (past (n + 1) c) a) (o + 1 + size c + size a) (part_below es p u is ws e 2 (omega arith) b refl) r j last (omega arith))
              ]
            ]
          ]

  covered : {k : Kind} (u : Tree k) → Covered u
  covered (bag k) p n o is l = covers_leaf (bag k) tt p n o is l
  covered (keep b c) p n o is l = covers_two (keep b c) tt p n o is b c refl (λ q h. h) (λ q h. h) (covered b) (covered c) l
  covered (put j b t) p n o is l = covers_two (put j b t) tt p n o is b t refl (λ q h. h) (λ q h. h) (covered b) (covered t) l
  covered (pool a b) p n o is l = covers_two (pool a b) tt p n o is a b refl (λ q h. h) (λ q h. h) (covered a) (covered b) l
  covered (col j) p n o is l = covers_leaf (col j) tt p n o is l
  covered (lit v) p n o is l = covers_leaf (lit v) tt p n o is l
  covered (plus a b) p n o is l = covers_two (plus a b) tt p n o is a b refl (λ q h. h) (λ q h. h) (covered a) (covered b) l
  covered (times a b) p n o is l = covers_two (times a b) tt p n o is a b refl (λ q h. h) (λ q h. h) (covered a) (covered b) l
  covered (pick c a b) p n o is l = covers_three (pick c a b) tt p n o is c a b refl (λ q h. h) (λ q h. h) (λ q h. h) (covered c) (covered a) (covered b) l
  covered (less a b) p n o is l = covers_two (less a b) tt p n o is a b refl (λ q h. h) (λ q h. h) (covered a) (covered b) l
  covered (equal a b) p n o is l = covers_two (equal a b) tt p n o is a b refl (λ q h. h) (λ q h. h) (covered a) (covered b) l
  covered (either c d) p n o is l = covers_two (either c d) tt p n o is c d refl (λ q h. h) (λ q h. h) (covered c) (covered d) l
  covered (not c) p n o is l = covers_one (not c) tt p n o is c refl (λ q h. h) (covered c) l
  covered (num v) p n o is l = covers_leaf (num v) none p n o is l
  covered (setting k) p n o is l = covers_leaf (setting k) none p n o is l
  covered (var i) p n o is l = covers_leaf (var i) none p n o is l
  covered (count b) p n o is l = covers_one (count b) (λ _. refl) p n o is b refl (plain_counts (count b)) (covered b) l
  covered (sum lo hi b t) p n o is l = covers_two (sum lo hi b t) (λ _. refl) p n o is b t refl (plain_counts (sum lo hi b t)) (plain_counts (sum lo hi b t)) (covered b) (covered t) l
  covered (add a b) p n o is l = covers_two (add a b) none p n o is a b refl (counts_more a (add a b) (λ _ h. inl h)) (counts_more b (add a b) (λ _ h. inr h)) (covered a) (covered b) l
  covered (sub a b) p n o is l = covers_two (sub a b) none p n o is a b refl (counts_more a (sub a b) (λ _ h. inl h)) (counts_more b (sub a b) (λ _ h. inr h)) (covered a) (covered b) l
  covered (least a b) p n o is l = covers_two (least a b) none p n o is a b refl (counts_more a (least a b) (λ _ h. inl h)) (counts_more b (least a b) (λ _ h. inr h)) (covered a) (covered b) l
  covered (most a b) p n o is l = covers_two (most a b) none p n o is a b refl (counts_more a (most a b) (λ _ h. inl h)) (counts_more b (most a b) (λ _ h. inr h)) (covered a) (covered b) l
  covered (scale v a) p n o is l = covers_one (scale v a) none p n o is a refl (counts_more a (scale v a) (λ _ h. h)) (covered a) l
  covered (clip lo hi a) p n o is l = covers_one (clip lo hi a) none p n o is a refl (counts_more a (clip lo hi a) (λ _ h. h)) (covered a) l
  covered (let_in a b) p n o is l = covers_two (let_in a b) none p n o is a b refl (counts_more a (let_in a b) (λ _ h. inl h)) (counts_more b (let_in a b) (λ _ h. inr h)) (covered a) (covered b) l

counts_whole : (t : NumberTree) (q : Part) → Counts t q → q ≡ bad → ⊥
counts_whole t q h e = subst (Counts t) e h

counts_sum : (t u : NumberTree) (q : Part) → Counts t q → q ≡ a_number u → totalled u ≡ true → SumsIn u t
counts_sum t u q h e = subst (Counts t) e h

pub lined_spells : LinedSpells
lined_spells es t n is same l =
    let forms = covered es t (length es - 1) n 0 is l in
    let each = onto (length es) (λ j q. ((entry_at es q).order ≡ j) × Counts t (part_at es q))
    (λ j h. let (q, below, order, k) = forms j (omega arith) (omega (arith, same)) in (q, below, (order, k)), λ i j q r s. sym r.0 ∙ s.0) in
    record {
      is = is;
      whole = λ q h. counts_whole t (part_at es q) (each q h).1.1;
      sums = λ q u e k. counts_sum t u (part_at es q) (each q (stood es q (λ b. good u (sym e ∙ b)))).1.1 e k;
    }
