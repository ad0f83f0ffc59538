-- A count or sum form: the number that stands there, its value as a sum over its bag, and its typing.
use Rattle.std.proofs.Common.{◌≡◌, ℕ, ◌+◌, ◌<◌, max, Bool, true, false, ◌⊎◌, List, [], length, get_or, take, set, ℤ, pos, nat_abs, Some, None, Ok, Option, sym, refl, ap, ◌∙◌, subst, inl, inr, arith}
use lib.Signed.{le_z}
use Rattle.forms.proofs.Parts.{bags, numbers, one, terms, two}
use Rattle.forms.specs.Calm.{inputs}
use Rattle.forms.specs.Limits.{room}
use Rattle.forms.specs.Lined.{past}
use Rattle.forms.specs.Table.{BagTree, NumberTree, Part, Stands, TermTree, bag_in, build, condition_in, number_in, of_one, of_three, of_two, part_at, parts, term_in}
use Rattle.forms.specs.Table.Part.{bad, a_term, a_condition, a_bag, a_number}
use Rattle.forms.specs.Totals.{RightBelow, totalled}
use Rattle.forms.specs.declared.form.Entry.{Entry}
use Rattle.forms.specs.declared.form.Form.{Form}
use Rattle.forms.specs.declared.form.Form.TheVariants as form
use Rattle.rules.proofs.Numbers.{number_settled}
use Rattle.rules.proofs.Steps.{after_ok}
use Rattle.rules.specs.Amounts.{times as multiplied}
use Rattle.rules.specs.Ranges.{counts, totals}
use Rattle.rules.specs.Sound.{Plant}
use Rattle.rules.specs.Typing.{BagType, NumberType, after, bag_typed, number_typed, settled, term_typed, unbound}
use Rattle.sources.specs.declared.shapes.Range.{Range}
use Rattle.std.proofs.lemmas.List.{get_or-set_other, get_or-set_same, length-set}
use Rattle.std.proofs.lemmas.Bool.{both_ways, cases_eq}
use Rattle.trees.specs.Meaning.{Row, clipped, number, rows, total}
use Rattle.trees.specs.Tree.Tree.{keep, put, pool, plus, times, pick, less, equal, either, not, count, sum, add, sub, least, most, scale, clip, let_in}
use Rattle.evaluation.specs.Addends.{added, tally_of, term_value}
use Rattle.evaluation.specs.Sums.{AddsBag, SumsTyped}
use Rattle.evaluation.specs.declared.addends.Addend.{Addend}
use Rattle.evaluation.specs.declared.addends.Addend.TheVariants.{One, Clipped}
use Rattle.evaluation.specs.declared.addends.Tally.{Tally}
use Rattle.evaluation.proofs.Partial.{counted}

-- whether a count or a sum stands there
abbrev summed : Part → Bool
summed bad = false
summed (a_term t) = false
summed (a_condition c) = false
summed (a_bag b) = false
summed (a_number n) = totalled n

none_one : {X : Type 0} (f : X → Part) (o : Option X) → ((x : X) → summed (f x) ≡ false) → summed (of_one f o) ≡ false
none_one f None h = refl
none_one f (Some x) h = h x

none_two : {X Y : Type 0} (f : X → Y → Part) (o : Option X) (p : Option Y) → ((x : X) (y : Y) → summed (f x y) ≡ false) → summed (of_two f o p) ≡ false
none_two f None p h = refl
none_two f (Some x) p h = none_one (f x) p (h x)

none_three : {X Y Z : Type 0} (f : X → Y → Z → Part) (o : Option X) (p : Option Y) (q : Option Z) → ((x : X) (y : Y) (z : Z) → summed (f x y z) ≡ false) → summed (of_three f o p q) ≡ false
none_three f None p q h = refl
none_three f (Some x) p q h = none_two (f x) p q (h x)

-- a form is a count, a sum, or neither, and then spells neither
abbrev Viewed : Form → Type 0
Viewed f = ((b : ℕ) × (f ≡ form.Count b)) ⊎ (((lo hi : ℤ) × (b t : ℕ) × (f ≡ form.Sum lo hi b t)) ⊎ ((tally_of f ≡ None) × ((ps : List Part) → summed (build ps f) ≡ false)))

viewed : (f : Form) → Viewed f
viewed (form.Bag k) = inr (inr (refl, λ ps. refl))
viewed (form.Keep b c) = inr (inr (refl, λ ps. none_two (λ x y. a_bag (keep x y)) (bag_in ps b) (condition_in ps c) (λ x y. refl)))
viewed (form.Put j b t) = inr (inr (refl, λ ps. none_two (λ x y. a_bag (put j x y)) (bag_in ps b) (term_in ps t) (λ x y. refl)))
viewed (form.Pool a b) = inr (inr (refl, λ ps. none_two (λ x y. a_bag (pool x y)) (bag_in ps a) (bag_in ps b) (λ x y. refl)))
viewed (form.Col j) = inr (inr (refl, λ ps. refl))
viewed (form.Lit n) = inr (inr (refl, λ ps. refl))
viewed (form.Plus a b) = inr (inr (refl, λ ps. none_two (λ x y. a_term (plus x y)) (term_in ps a) (term_in ps b) (λ x y. refl)))
viewed (form.Times a b) = inr (inr (refl, λ ps. none_two (λ x y. a_term (times x y)) (term_in ps a) (term_in ps b) (λ x y. refl)))
viewed (form.Pick c a b) = inr (inr (refl, λ ps. none_three (λ x y z. a_term (pick x y z)) (condition_in ps c) (term_in ps a) (term_in ps b) (λ x y z. refl)))
viewed (form.Less a b) = inr (inr (refl, λ ps. none_two (λ x y. a_condition (less x y)) (term_in ps a) (term_in ps b) (λ x y. refl)))
viewed (form.Equal a b) = inr (inr (refl, λ ps. none_two (λ x y. a_condition (equal x y)) (term_in ps a) (term_in ps b) (λ x y. refl)))
viewed (form.Either a b) = inr (inr (refl, λ ps. none_two (λ x y. a_condition (either x y)) (condition_in ps a) (condition_in ps b) (λ x y. refl)))
viewed (form.Not c) = inr (inr (refl, λ ps. none_one (λ x. a_condition (not x)) (condition_in ps c) (λ x. refl)))
viewed (form.Num n) = inr (inr (refl, λ ps. refl))
viewed (form.Setting k) = inr (inr (refl, λ ps. refl))
viewed (form.Var i) = inr (inr (refl, λ ps. refl))
viewed (form.Count b) = inl (b, refl)
viewed (form.Sum lo hi b t) = inr (inl (lo, hi, b, t, refl))
viewed (form.Add a b) = inr (inr (refl, λ ps. none_two (λ x y. a_number (add x y)) (number_in ps a) (number_in ps b) (λ x y. refl)))
viewed (form.Sub a b) = inr (inr (refl, λ ps. none_two (λ x y. a_number (sub x y)) (number_in ps a) (number_in ps b) (λ x y. refl)))
viewed (form.Least a b) = inr (inr (refl, λ ps. none_two (λ x y. a_number (least x y)) (number_in ps a) (number_in ps b) (λ x y. refl)))
viewed (form.Most a b) = inr (inr (refl, λ ps. none_two (λ x y. a_number (most x y)) (number_in ps a) (number_in ps b) (λ x y. refl)))
viewed (form.Scale n a) = inr (inr (refl, λ ps. none_one (λ x. a_number (scale n x)) (number_in ps a) (λ x. refl)))
viewed (form.Clip lo hi a) = inr (inr (refl, λ ps. none_one (λ x. a_number (clip lo hi x)) (number_in ps a) (λ x. refl)))
viewed (form.Let a b) = inr (inr (refl, λ ps. none_two (λ x y. a_number (let_in x y)) (number_in ps a) (number_in ps b) (λ x y. refl)))

-- n is the count or sum over the bag at q that adds a for each row
abbrev pub Tallied : List Entry → ℕ → Addend → NumberTree → Type 0
Tallied es q One n = (b : BagTree) × (n ≡ count b) × (part_at es q ≡ a_bag b)
Tallied es q (Clipped lo hi r) n = (b : BagTree) × (t : TermTree) × (n ≡ sum lo hi b t) × (part_at es q ≡ a_bag b) × (part_at es r ≡ a_term t)

module _ (es : List Entry) (p : ℕ) (good : part_at es p ≡ bad → ⊥) where
  count_stands : (b : ℕ) → Stands es p (form.Count b) → (n : NumberTree) × (part_at es p ≡ a_number n) × Tallied es b One n
  count_stands b s = go (bag_in (take p (parts es)) b) refl
    where
      go : (o : Option BagTree) → bag_in (take p (parts es)) b ≡ o → (n : NumberTree) × (part_at es p ≡ a_number n) × Tallied es b One n
      go None e = absurd (good (s ∙ ap (of_one (λ x. a_number (count x))) e))
      go (Some x) e =
          let is = s ∙ ap (of_one (λ x. a_number (count x))) e in
          let i = one bags numbers count (λ _. Unit {0}) es p b (count x, is, tt) s in
          (count i.x, is ∙ ap a_number i.is, (i.x, refl, i.first.is))

  sum_stands : (lo hi : ℤ) (b t : ℕ) → Stands es p (form.Sum lo hi b t) → (n : NumberTree) × (part_at es p ≡ a_number n) × Tallied es b (Clipped lo hi t) n
  sum_stands lo hi b t s = go (bag_in (take p (parts es)) b) (term_in (take p (parts es)) t) refl refl
    where
      go : (o : Option BagTree) (u : Option TermTree) → bag_in (take p (parts es)) b ≡ o → term_in (take p (parts es)) t ≡ u → (n : NumberTree) × (part_at es p ≡ a_number n) × Tallied es b (Clipped lo hi t) n
      go None u e f = absurd (good (s ∙ ap (λ z. of_two (λ x y. a_number (sum lo hi x y)) z (term_in (take p (parts es)) t)) e))
      go (Some x) None e f = absurd (good (s ∙ ap (λ z. of_two (λ x y. a_number (sum lo hi x y)) z (term_in (take p (parts es)) t)) e ∙ ap (of_one (λ y. a_number (sum lo hi x y))) f))
      go (Some x) (Some y) e f =
          let is = s ∙ ap (λ z. of_two (λ x y. a_number (sum lo hi x y)) z (term_in (take p (parts es)) t)) e ∙ ap (of_one (λ y. a_number (sum lo hi x y))) f in
          let i = two bags terms numbers (sum lo hi) (λ _. Unit {0}) es p b t (sum lo hi x y, is, tt) s in
          (sum lo hi i.x i.y, is ∙ ap a_number i.is, (i.x, i.y, refl, i.first.is, i.second.is))

  -- the form at a position adds up
  tallied : (f : Form) (t : Tally) → Stands es p f → Some t ≡ tally_of f → (n : NumberTree) × (part_at es p ≡ a_number n) × Tallied es t.bag t.addend n
  tallied f t s e = go (viewed f)
    where
      go : Viewed f → (n : NumberTree) × (part_at es p ≡ a_number n) × Tallied es t.bag t.addend n
      go (inl (b, is)) =
          let same : ◌≡◌ {A = Tally} (record { bag = b; addend = One }) t = cc (ap tally_of is) in
          subst (λ (u : Tally). (n : NumberTree) × (part_at es p ≡ a_number n) × Tallied es u.bag u.addend n) same (count_stands b (s ∙ ap (build (take p (parts es))) is))
      go (inr (inl (lo, hi, b, r, is))) =
          let same : ◌≡◌ {A = Tally} (record { bag = b; addend = Clipped lo hi r }) t = cc (ap tally_of is) in
          subst (λ (u : Tally). (n : NumberTree) × (part_at es p ≡ a_number n) × Tallied es u.bag u.addend n) same (sum_stands lo hi b r (s ∙ ap (build (take p (parts es))) is))
      go (inr (inr (none, other))) = cc (none, e)

-- or neither a count nor a sum stands there
pub not_summed : (es : List Entry) (p : ℕ) (f : Form) → Stands es p f → None ≡ tally_of f → (n : NumberTree) → part_at es p ≡ a_number n → totalled n ≡ true → ⊥
not_summed es p f s e n is tallies = go (viewed f)
  where
    go : Viewed f → ⊥
    go (inl (b, same)) = cc (ap tally_of same)
    go (inr (inl (lo, hi, b, r, same))) = cc (ap tally_of same)
    go (inr (inr (none, other))) = both_ways (totalled n) (ap summed (sym is) ∙ ap summed s ∙ other (take p (parts es))) tallies

tally_totalled : (es : List Entry) (q : ℕ) (a : Addend) (n : NumberTree) → Tallied es q a n → totalled n ≡ true
tally_totalled es q One n (b, e, is) = ap totalled e
tally_totalled es q (Clipped lo hi p) n (b, t, e, is, term) = ap totalled e

-- what is added for all rows of the bag is the value of the number
tally_value : (es : List Entry) (q : ℕ) (a : Addend) (n : NumberTree) → Tallied es q a n → (sources : List (List Row)) (r : ℤ) → ((b : BagTree) → part_at es q ≡ a_bag b → r ≡ total (added es a) (rows b sources)) → r ≡ number n (inputs sources []) []
tally_value es q One n (b, e, is) sources r h = h b is ∙ counted (rows b sources) ∙ sym (ap (λ z. number z (inputs sources []) []) e)
tally_value es q (Clipped lo hi p) n (b, t, e, is, term) sources r h =
    h b is ∙ ap (λ z. total (λ x. clipped lo hi (term_value z x)) (rows b sources)) term ∙ sym (ap (λ z. number z (inputs sources []) []) e)

-- a typed count or sum has a typed bag, and a typed addend
tally_typed : (es : List Entry) (p : Plant) (h : SumsTyped es p) (q : ℕ) (a : Addend) (n : NumberTree) → Tallied es q a n → (m : ℕ) (rs : List Range) (x : NumberType) → number_typed m h.catalogue rs n ≡ Ok x → AddsBag es q a p
tally_typed es p h q One n (b, e, is) m rs x typed =
    let c = h.catalogue in
    let f = λ (y : BagType). settled m true (unbound rs (counts y.limit) y.inputs) in
    let (y, t, end) = after_ok (bag_typed (m + 1) c b) f x (ap (number_typed m c rs) (sym e) ∙ typed) in
    record {
      catalogue = c;
      line = m + 1;
      tree = b;
      type = y;
      is = is;
      typed = t;
      addend = (number_settled m true (unbound rs (counts y.limit) y.inputs) x end).1;
      fits = h.fits;
      kept = h.kept;
    }
tally_typed es p h q (Clipped lo hi k) n (b, t, e, is, term) m rs x typed =
    let c = h.catalogue in
    let f = λ (y : BagType). unbound rs (totals y.limit lo hi) (multiplied (max (nat_abs lo) (nat_abs hi)) y.inputs) in
    let (y, u, rest) = after_ok (bag_typed (m + 1) c b) (λ (y : BagType). after (term_typed (past (m + 1) b) y.columns t) (λ _. settled m (le_z lo hi) (f y))) x (ap (number_typed m c rs) (sym e) ∙ typed) in
    let (r, v, end) = after_ok (term_typed (past (m + 1) b) y.columns t) (λ _. settled m (le_z lo hi) (f y)) x rest in
    let (order, bound, _) = number_settled m (le_z lo hi) (f y) x end in
    record {
      catalogue = c;
      line = m + 1;
      tree = b;
      type = y;
      is = is;
      typed = u;
      addend = (past (m + 1) b, t, r, term, v, order, bound);
      fits = h.fits;
      kept = h.kept;
    }

-- a form of a typed table that adds up
module _ {es : List Entry} {p : Plant} (h : SumsTyped es p) {i : ℕ} (there : i < length es) (f : Form) (stands : Stands es i f) {t : Tally} (adds : Some t ≡ tally_of f) where
  spelled : (n : NumberTree) × (part_at es i ≡ a_number n) × Tallied es t.bag t.addend n
  spelled = tallied es i (h.whole i there) f t stands adds

  pub tally_adds : AddsBag es t.bag t.addend p
  tally_adds =
      let (n, is, k) = spelled in
      let (m, rs, x, e) = h.typed i n is (tally_totalled es t.bag t.addend n k) in
      tally_typed es p h t.bag t.addend n k m rs x e

  -- what is added for its bag is the value of every number that stands there
  pub tally_right : {sources : List (List Row)} {r : ℤ} → ((b : BagTree) → part_at es t.bag ≡ a_bag b → r ≡ total (added es t.addend) (rows b sources)) → (m : NumberTree) → part_at es i ≡ a_number m → r ≡ number m (inputs sources []) []
  tally_right {sources} {r} all m at =
      let (n, is, k) = spelled in
      let same : n ≡ m = cc (is, at) in
      tally_value es t.bag t.addend n k sources r all ∙ ap (λ z. number z (inputs sources []) []) same

-- the totals are right at one position more
module _ (es : List Entry) (ts : List ℤ) (sources : List (List Row)) (p : ℕ) (right : (length ts ≡ room) × RightBelow es ts sources p) where
  pub right_put : p < room → {z : ℤ} → ((n : NumberTree) → part_at es p ≡ a_number n → totalled n ≡ true → z ≡ number n (inputs sources []) []) → (length (set ts p z) ≡ room) × RightBelow es (set ts p z) sources (p + 1)
  right_put small {z} here = (
    length-set ts p z ∙ right.0,
    λ q n below is k. elim (cases_eq q p) [
      | inl e ↦ ap (λ i. get_or (set ts p z) i (pos 0)) e ∙ get_or-set_same ts p z (pos 0) (omega (arith, right.0)) ∙ here n (sym (ap (part_at es) e) ∙ is) k
      | inr other ↦ get_or-set_other ts p q z (pos 0) other ∙ right.1 q n (omega arith) is k
    ],
  )

  pub right_skip : ((n : NumberTree) → part_at es p ≡ a_number n → totalled n ≡ true → ⊥) → (length ts ≡ room) × RightBelow es ts sources (p + 1)
  right_skip none = (
    right.0,
    λ q n below is k. elim (cases_eq q p) [
      | inl e ↦ absurd (none n (sym (ap (part_at es) e) ∙ is) k)
      | inr other ↦ right.1 q n (omega arith) is k
    ],
  )
