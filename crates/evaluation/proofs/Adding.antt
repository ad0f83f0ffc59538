-- One row more of a leaf's source is added to the total.
use Rattle.std.proofs.Common.{◌≡◌, ℕ, ◌+◌, ◌<◌, ◌≤◌, List, [], ◌∷◌, ◌++◌, length, get_or, take, ℤ, pos, ◌+ℤ◌, Some, None, Option, sym, refl, ap, ◌∙◌, subst, arith, w64, SFits, to_z, of_z}
use Rattle.forms.proofs.Padding.{unseen}
use Rattle.forms.specs.Calm.{CalmTerm, CalmTermAt, PlaceBelow, Within}
use Rattle.forms.specs.Leaves.{CalmFrom, CalmStep, CalmWay, Step, WayWithin, and_then, carried, stepped}
use Rattle.forms.specs.Leaves.Step.{keeps, puts}
use Rattle.forms.specs.Limits.{number_bound}
use Rattle.forms.specs.Padding.{Blind, padded}
use Rattle.forms.specs.Table.{Part, TermTree, part_at}
use Rattle.forms.specs.Table.Part.{bad, a_term, a_condition, a_bag, a_number}
use Rattle.forms.specs.declared.form.Entry.{Entry}
use Rattle.sources.specs.Source.{Lawful, Meaning}
use Rattle.sources.specs.Widths.{row_wide}
use Rattle.std.proofs.ByRecursion.{All-get_or}
use Rattle.std.proofs.lemmas.List.{take_more}
use Rattle.std.proofs.lemmas.Int.{ints, to_z-of_z}
use Rattle.trees.specs.Meaning.{Row, clipped, total}
use Rattle.evaluation.specs.Addends.{AddsRow, AddsRows, CalmAddend, CalmAddends, added, from_leaf, term_value}
use Rattle.evaluation.specs.declared.addends.Addend.{Addend}
use Rattle.evaluation.specs.declared.addends.Addend.TheVariants.{One, Clipped}

pub total_append : (f : Row → ℤ) (rs ts : List Row) → total f (rs ++ ts) ≡ total f rs +ℤ total f ts
total_append f [] ts = omega (arith, ints)
total_append f (r ∷ rs) ts = let rest = total_append f rs ts in omega (arith, ints)

total_more : (f : Row → ℤ) (rs : List Row) (i : ℕ) → i < length rs → total f (take (i + 1) rs) ≡ total f (take i rs) +ℤ f (get_or rs i [])
total_more f rs i h =
    let r = get_or rs i [] in
    ap (total f) (take_more rs i [] h) ∙ total_append f (take i rs) (r ∷ []) ∙ ap (λ z. total f (take i rs) +ℤ z) (alone (f r))
  where
    alone : (z : ℤ) → z +ℤ pos 0 ≡ z
    alone z = omega (arith, ints)

-- padding changes nothing that is added
blind_part : (q : Part) → Blind (term_value q)
blind_part bad r = refl
blind_part (a_term t) r = unseen.terms t r
blind_part (a_condition c) r = refl
blind_part (a_bag b) r = refl
blind_part (a_number n) r = refl

blind : (es : List Entry) (a : Addend) → Blind (added es a)
blind es One r = refl
blind es (Clipped lo hi p) r = ap (clipped lo hi) (blind_part (part_at es p) r)

pub calm_from : (P Q : Row → Type 0) → ((r : Row) → P r → Q r) → (o : Option Row) → CalmFrom P o → CalmFrom Q o
calm_from P Q f None h = tt
calm_from P Q f (Some r) h = f r h

-- a way with a step more at its end is calm where the way is, and the step on what arrives
calm_push : (way : List Step) (s : Step) (r : Row) → CalmWay way r → CalmFrom (CalmStep s) (carried way r) → CalmWay (way ++ s ∷ []) r
calm_push [] s r h k = (k, calm_from (λ _. Unit {0}) (CalmWay []) (λ _ _. tt) (stepped s r) (all_calm (stepped s r)))
  where
    all_calm : (o : Option Row) → CalmFrom (λ _. Unit {0}) o
    all_calm None = tt
    all_calm (Some x) = tt
calm_push (a ∷ way) s r h k = (h.0, go (stepped a r) h.1 k (calm_push way s))
  where
    go : (o : Option Row) → CalmFrom (CalmWay way) o → CalmFrom (CalmStep s) (and_then o (carried way)) → ((x : Row) → CalmWay way x → CalmFrom (CalmStep s) (carried way x) → CalmWay (way ++ s ∷ []) x) → CalmFrom (CalmWay (way ++ s ∷ [])) o
    go None h k f = tt
    go (Some x) h k f = f x h k

pub calm_split : (way : List Step) (s : Step) (r : Row) → CalmWay (way ++ s ∷ []) r → CalmWay way r × CalmFrom (CalmStep s) (carried way r)
calm_split [] s r h = (tt, h.0)
calm_split (a ∷ way) s r h = let k = go (stepped a r) h.1 (calm_split way s) in ((h.0, k.0), k.1)
  where
    go : (o : Option Row) → CalmFrom (CalmWay (way ++ s ∷ [])) o → ((x : Row) → CalmWay (way ++ s ∷ []) x → CalmWay way x × CalmFrom (CalmStep s) (carried way x)) → CalmFrom (CalmWay way) o × CalmFrom (CalmStep s) (and_then o (carried way))
    go None h f = (tt, tt)
    go (Some x) h f = f x h

within_push : (width : ℕ) (way : List Step) (j : ℤ) (t : TermTree) → WayWithin width way → PlaceBelow width j → WayWithin width (way ++ puts j t ∷ [])
within_push width [] j t h k = (k, tt)
within_push width (keeps c ∷ way) j t h k = within_push width way j t h k
within_push width (puts i u ∷ way) j t h k = (h.0, within_push width way j t h.1 k)

-- what is added for a padded row is calm: a put of the term at the end of the way would be
addend_padded : (es : List Entry) (a : Addend) (way : List Step) (rs : List Row) (i : ℕ) → i < length rs → 1 ≤ length (get_or rs i []) → WayWithin (length (get_or rs i [])) way → CalmWay way (get_or rs i []) → CalmAddends es a way rs → CalmFrom (CalmAddend es a) (carried way (padded (get_or rs i [])))
addend_padded es One way rs i h some places calm k = any (carried way (padded (get_or rs i [])))
  where
    any : (o : Option Row) → CalmFrom (λ _. Unit {0}) o
    any None = tt
    any (Some x) = tt
addend_padded es (Clipped lo hi p) way rs i h some places calm (t, is, k) =
    let r = get_or rs i [] in
    let put = puts (pos 0) t in
    let here = All-get_or (λ x. CalmFrom (CalmTerm t) (carried way x)) rs i [] h k in
    let last = calm_from (CalmTerm t) (CalmStep put) (λ x c. ((0, refl, omega arith), c)) (carried way r) here in
    let longer = unseen.calm (way ++ put ∷ []) r (within_push (length r) way (pos 0) t places (0, refl, some)) (calm_push way put r calm last) in
    calm_from (CalmStep put) (CalmTermAt es p) (λ x c. record { tree = t; is = is; calm = c.1 }) (carried way (padded r)) (calm_split way put (padded r) longer).1

-- row i of a source, which is added to what the sum was
module _ {es : List Entry} {a : Addend} {steps : List ℕ} {m : Meaning} {start : ℤ} {way : List Step} (law : Lawful m) (h : AddsRows es a steps m.width m.rows start way) {i : ℕ} (there : i < length m.rows) {row : Row} (copied : row ≡ padded (get_or m.rows i [])) {sum : ℤ} (so_far : sum ≡ start +ℤ total (from_leaf es a way) (take i m.rows)) where
  places : WayWithin (length (get_or m.rows i [])) way
  places = subst (λ w. WayWithin w way) (sym (row_wide m law i there)) h.places

  pub row_added : sum +ℤ from_leaf es a way row ≡ start +ℤ total (from_leaf es a way) (take (i + 1) m.rows)
  row_added =
      let f = from_leaf es a way in
      let same : f row ≡ f (get_or m.rows i []) = ap f copied ∙ unseen.arrives (added es a) (blind es a) way (get_or m.rows i []) places in
      let more = total_more f m.rows i there in
      omega (arith, ints)

  pub row_adds : AddsRow es a steps row sum way
  row_adds =
      let r = get_or m.rows i [] in
      let calm : CalmWay way r = All-get_or (CalmWay way) m.rows i [] there h.calm in
      record {
        leads = h.leads;
        calm = subst (CalmWay way) (sym copied) (unseen.calm way r places calm);
        addend = subst (λ (x : Row). CalmFrom (CalmAddend es a) (carried way x)) (sym copied) (addend_padded es a way m.rows i there (omega (arith, row_wide m law i there, law.some_width)) places calm h.addends);
        bounded = subst (Within number_bound) (sym row_added) (h.bounded (i + 1) (omega arith));
      }

-- the same of the sum by its bits
pub adds_bits : {es : List Entry} {a : Addend} {steps : List ℕ} {width : ℕ} {rows : List Row} {z : ℤ} {way : List Step} → SFits w64 z → AddsRows es a steps width rows z way → AddsRows es a steps width rows (to_z w64 (of_z w64 z)) way
adds_bits {es} {a} {steps} {width} {rows} {z} {way} f h = subst (λ x. AddsRows es a steps width rows x way) (sym (to_z-of_z w64 z f)) h
