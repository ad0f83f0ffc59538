-- A form that is typed is taken apart: its parts stand before it, and open behind it one after the other.
use Rattle.std.proofs.Common.{◌≡◌, ℕ, suc, ◌+◌, ◌<◌, ◌≤◌, List, length, get_or, take, sym, refl, ap, ◌∙◌, subst, arith}
use Rattle.trees.specs.declared.Kind.{Kind}
use Rattle.trees.specs.declared.Kind.TheVariants.{Bag, Condition, Number, Term}
use Rattle.trees.specs.Size.{size}
use Rattle.trees.specs.Tree.{Tree}
use Rattle.trees.specs.Tree.Tree.{bag, keep, put, pool, col, lit, plus, times, pick, less, equal, either, not, num, setting, var, count, sum, add, sub, least, most, scale, clip, let_in}
use Rattle.forms.proofs.Parts.{Family, Known, bags, build_at, conditions, numbers, one, reached, terms, three, two}
use Rattle.forms.specs.declared.form.Entry.{Entry}
use Rattle.forms.specs.declared.form.Form.{Form}
use Rattle.forms.specs.Limits.{room}
use Rattle.forms.specs.Lined.{AroundOne, AroundThree, AroundTwo, Lined, Opens, entry_at, no_entry, part_position, part_positions, past}
use Rattle.forms.specs.Table.{build, nth, of_one, of_three, of_two, part_at, parts}
use Rattle.typing.specs.Told.{FormAt, into_part}

abbrev pub family : (k : Kind) → Family (Tree k)
family Term = terms
family Condition = conditions
family Bag = bags
family Number = numbers

pub into_family : {k : Kind} (t : Tree k) → (family k).into t ≡ into_part t
into_family {k = Term} t = refl
into_family {k = Condition} t = refl
into_family {k = Bag} t = refl
into_family {k = Number} t = refl

-- where position i of the form's parts is
abbrev pub spot : Form → ℕ → ℕ
spot f i = get_or (part_positions f) i 0

module _ {k : Kind} {es : List Entry} {p n o : ℕ} {t : Tree k} (at : FormAt es p n o t) where
  abbrev pub Here : Tree k → Type 0
  Here z = Lined es z p n o × (o + size z ≤ room)

  abbrev pub known : Known (family k) Here es p
  known = (t, at.is ∙ sym (into_family t), (at.lined, at.room))

  -- the table reaches to the form
  pub within : p < length es
  within = reached (family k) Here es p known

  -- and what stands there is made by the form
  pub stands : {f : Form} → f ≡ (entry_at es p).form → part_at es p ≡ build (take p (parts es)) f
  stands e = build_at es p no_entry within ∙ ap (build (take p (parts es))) (sym e)

-- the form itself opens where it is said to
opens : {k : Kind} (t : Tree k) (es : List Entry) (p n o : ℕ) → Lined es t p n o → Opens es p n o
opens (bag k) es p n o h = h
opens (col j) es p n o h = h
opens (lit v) es p n o h = h
opens (num v) es p n o h = h
opens (setting k) es p n o h = h
opens (var i) es p n o h = h
opens (keep b c) es p n o h = h.0
opens (put j b t) es p n o h = h.0
opens (pool a b) es p n o h = h.0
opens (plus a b) es p n o h = h.0
opens (times a b) es p n o h = h.0
opens (pick c a b) es p n o h = h.0
opens (less a b) es p n o h = h.0
opens (equal a b) es p n o h = h.0
opens (either c d) es p n o h = h.0
opens (sum lo hi b t) es p n o h = h.0
opens (add a b) es p n o h = h.0
opens (sub a b) es p n o h = h.0
opens (least a b) es p n o h = h.0
opens (most a b) es p n o h = h.0
opens (let_in a b) es p n o h = h.0
opens (not c) es p n o h = h.0
opens (count b) es p n o h = h.0
opens (scale v a) es p n o h = h.0
opens (clip lo hi a) es p n o h = h.0

module _ {k : Kind} {es : List Entry} {p n o : ℕ} {t : Tree k} (at : FormAt es p n o t) {e : Entry} (is : e ≡ entry_at es p) where
  pub line_of : e.line ≡ n
  line_of = ap (λ (x : Entry). x.line) is ∙ (opens t es p n o at.lined).line

  pub order_of : e.order ≡ o
  order_of = ap (λ (x : Entry). x.order) is ∙ (opens t es p n o at.lined).order

-- a part that stands where the form has it
part_at_spot : {j : Kind} {es : List Entry} (p : ℕ) {m i : ℕ} (x : Tree j) (f : Form) → f ≡ (entry_at es p).form → (nth_part : ℕ) → part_at es (spot f nth_part) ≡ (family j).into x → Lined es x (part_position es p nth_part) m i → i + size x ≤ room → FormAt es (spot f nth_part) m i x
part_at_spot {j} {es} p {m} {i} x f v q is lined fits =
    record { is = is ∙ into_family x; lined = subst (λ (a : ℕ). Lined es x a m i) (ap (λ (g : Form). spot g q) (sym v)) lined; room = fits }

pub record SplitOne {j k : Kind} (mk : Tree j → Tree k) (es : List Entry) (p n o : ℕ) (f : Form) (t : Tree k) : Type 0 where
  pub a : Tree j
  pub is : t ≡ mk a
  pub first : FormAt es (spot f 0) (n + 1) (o + 1) a
  pub first_below : spot f 0 < p

pub split_one : {j k : Kind} (mk : Tree j → Tree k) {es : List Entry} {p n o : ℕ} {t : Tree k} (at : FormAt es p n o t) (f : Form) → f ≡ (entry_at es p).form → part_at es p ≡ of_one (λ x. (family k).into (mk x)) ((family j).back (nth (take p (parts es)) (spot f 0))) → ((x : Tree j) → Lined es (mk x) p n o → AroundOne es (Lined es x) p n o) → ((x : Tree j) → size (mk x) ≡ suc (size x)) → SplitOne mk es p n o f t
split_one {j} {k} mk {es} {p} {n} {o} {t} at f v stands around larger =
    let i = one (family j) (family k) mk (Here at) es p (spot f 0) (known at) stands in
    let l = around i.x i.known.0 in
    record { a = i.x; is = i.is; first = part_at_spot p i.x f v 0 i.first.is l.1 (omega (arith, i.known.1, larger i.x)); first_below = i.first.below }

pub record SplitTwo {j k l : Kind} (mk : Tree j → Tree k → Tree l) (es : List Entry) (p n o : ℕ) (f : Form) (t : Tree l) : Type 0 where
  pub a : Tree j
  pub b : Tree k
  pub is : t ≡ mk a b
  pub first : FormAt es (spot f 0) (n + 1) (o + 1) a
  pub first_below : spot f 0 < p
  pub second : FormAt es (spot f 1) (past (n + 1) a) (o + 1 + size a) b
  pub second_below : spot f 1 < p

pub split_two : {j k l : Kind} (mk : Tree j → Tree k → Tree l) {es : List Entry} {p n o : ℕ} {t : Tree l} (at : FormAt es p n o t) (f : Form) → f ≡ (entry_at es p).form → part_at es p ≡ of_two (λ x y. (family l).into (mk x y)) ((family j).back (nth (take p (parts es)) (spot f 0))) ((family k).back (nth (take p (parts es)) (spot f 1))) → ((x : Tree j) (y : Tree k) → Lined es (mk x y) p n o → AroundTwo es x (Lined es x) (Lined es y) p n o) → ((x : Tree j) (y : Tree k) → size (mk x y) ≡ suc (size x + size y)) → SplitTwo mk es p n o f t
split_two {j} {k} {l} mk {es} {p} {n} {o} {t} at f v stands around larger =
    let i = two (family j) (family k) (family l) mk (Here at) es p (spot f 0) (spot f 1) (known at) stands in
    let w = around i.x i.y i.known.0 in
    let left = rooms (size i.x) (size i.y) i.known.1 (larger i.x i.y) in
    record { a = i.x; b = i.y; is = i.is; first = part_at_spot p i.x f v 0 i.first.is w.1 left.0; first_below = i.first.below; second = part_at_spot p i.y f v 1 i.second.is w.2 left.1; second_below = i.second.below }
  where
    rooms : {s : ℕ} (x y : ℕ) → o + s ≤ room → s ≡ suc (x + y) → (o + 1 + x ≤ room) × (o + 1 + x + y ≤ room)
    rooms x y h e = (omega arith, omega arith)

pub record SplitThree {h j k l : Kind} (mk : Tree h → Tree j → Tree k → Tree l) (es : List Entry) (p n o : ℕ) (f : Form) (t : Tree l) : Type 0 where
  pub a : Tree h
  pub b : Tree j
  pub c : Tree k
  pub is : t ≡ mk a b c
  pub first : FormAt es (spot f 0) (n + 1) (o + 1) a
  pub first_below : spot f 0 < p
  pub second : FormAt es (spot f 1) (past (n + 1) a) (o + 1 + size a) b
  pub second_below : spot f 1 < p
  pub third : FormAt es (spot f 2) (past (past (n + 1) a) b) (o + 1 + size a + size b) c
  pub third_below : spot f 2 < p

pub split_three : {h j k l : Kind} (mk : Tree h → Tree j → Tree k → Tree l) {es : List Entry} {p n o : ℕ} {t : Tree l} (at : FormAt es p n o t) (f : Form) → f ≡ (entry_at es p).form → part_at es p ≡ of_three (λ x y z. (family l).into (mk x y z)) ((family h).back (nth (take p (parts es)) (spot f 0))) ((family j).back (nth (take p (parts es)) (spot f 1))) ((family k).back (nth (take p (parts es)) (spot f 2))) → ((x : Tree h) (y : Tree j) (z : Tree k) → Lined es (mk x y z) p n o → AroundThree es x y (Lined es x) (Lined es y) (Lined es z) p n o) → ((x : Tree h) (y : Tree j) (z : Tree k) → size (mk x y z) ≡ suc (size x + size y + size z)) → SplitThree mk es p n o f t
split_three {h} {j} {k} {l} mk {es} {p} {n} {o} {t} at f v stands around larger =
    let i = three (family h) (family j) (family k) (family l) mk (Here at) es p (spot f 0) (spot f 1) (spot f 2) (known at) stands in
    let q = around i.x i.y i.w i.known.0 in
    let left = rooms (size i.x) (size i.y) (size i.w) i.known.1 (larger i.x i.y i.w) in
    record {
      a = i.x;
      b = i.y;
      c = i.w;
      is = i.is;
      first = part_at_spot p i.x f v 0 i.first.is q.1 left.0;
      first_below = i.first.below;
      second = part_at_spot p i.y f v 1 i.second.is q.2 left.1;
      second_below = i.second.below;
      third = part_at_spot p i.w f v 2 i.third.is q.3 left.2;
      third_below = i.third.below;
    }
  where
    rooms : {s : ℕ} (x y z : ℕ) → o + s ≤ room → s ≡ suc (x + y + z) → (o + 1 + x ≤ room) × (o + 1 + x + y ≤ room) × (o + 1 + x + y + z ≤ room)
    rooms x y z r e = (omega arith, omega arith, omega arith)
