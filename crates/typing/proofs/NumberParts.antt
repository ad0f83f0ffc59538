-- A number of numbers, taken apart: each part is small and shallow enough to be typed in the scope of the whole.
use Rattle.std.proofs.Common.{◌≡◌, ℕ, suc, ◌+◌, ◌<◌, ◌≤◌, max, List, [], ◌++◌, ℤ, nat_abs, refl, ap, ◌∙◌, subst, arith}
use Rattle.sources.specs.declared.shapes.Range.{Range}
use Rattle.std.specs.List.{AllByRecursion}
use Rattle.forms.specs.declared.form.Entry.{Entry}
use Rattle.forms.specs.declared.form.Form.{Form}
use Rattle.forms.specs.declared.form.Form.TheVariants as form
use Rattle.forms.specs.Lined.{entry_at, past}
use Rattle.forms.specs.Table.{NumberTree}
use Rattle.stacks.specs.Stack.{spare}
use Rattle.stacks.specs.declared.stack.Stack.{Stack}
use Rattle.trees.proofs.Unique.{all_split}
use Rattle.trees.specs.Size.{NumbersWithin, depth, literal_bound, max_depth, numbers, size}
use Rattle.trees.specs.Tree.Tree.{add, sub, least, most, scale, clip, let_in}
use Rattle.typing.specs.Numbers.{NumberAt}
use Rattle.typing.proofs.Lengths.{sum_one, sum_two}
use Rattle.typing.proofs.Splits.{SplitOne, SplitTwo, split_one, split_two, spot, stands}

abbrev Near : ℤ → Type 0
Near z = nat_abs z ≤ literal_bound

pub record OneNumber (mk : NumberTree → NumberTree) (es : List Entry) (v : Stack Range max_depth) (p n o i : ℕ) (t : NumberTree) : Type 0 where
  pub a : NumberTree
  pub is : t ≡ mk a
  pub first : NumberAt es v i (n + 1) (o + 1) a
  pub first_below : i < p

pub record TwoNumbers (mk : NumberTree → NumberTree → NumberTree) (es : List Entry) (v : Stack Range max_depth) (p n o i j : ℕ) (t : NumberTree) : Type 0 where
  pub a : NumberTree
  pub b : NumberTree
  pub is : t ≡ mk a b
  pub first : NumberAt es v i (n + 1) (o + 1) a
  pub first_below : i < p
  pub second : NumberAt es v j (past (n + 1) a) (o + 1 + size a) b
  pub second_below : j < p
  pub second_deep : depth b < spare v

module _ {es : List Entry} {v : Stack Range max_depth} {p n o : ℕ} {t : NumberTree} (at : NumberAt es v p n o t) where
  one_number : (mk : NumberTree → NumberTree) {f : Form} → SplitOne mk es p n o f t → ((a : NumberTree) → NumbersWithin literal_bound (mk a) → AllByRecursion Near (numbers a ++ [])) → ((a : NumberTree) → depth (mk a) ≡ suc (max (depth a) 0)) → OneNumber mk es v p n o (spot f 0) t
  one_number mk i own depths =
      let small = subst (NumbersWithin literal_bound) i.is at.small in
      let deep : depth t ≡ suc (max (depth i.a) 0) = ap depth i.is ∙ depths i.a in
      record { a = i.a; is = i.is; first = record { form = i.first; small = (all_split Near (numbers i.a) [] (own i.a small)).0; shallow = omega (arith, at.shallow) }; first_below = i.first_below }

  two_numbers : (mk : NumberTree → NumberTree → NumberTree) {f : Form} → SplitTwo mk es p n o f t → ((a b : NumberTree) → NumbersWithin literal_bound (mk a b) → AllByRecursion Near (numbers a ++ (numbers b ++ []))) → ((a b : NumberTree) → depth (mk a b) ≡ suc (max (depth a) (max (depth b) 0))) → TwoNumbers mk es v p n o (spot f 0) (spot f 1) t
  two_numbers mk i own depths =
      let small = all_split Near (numbers i.a) (numbers i.b ++ []) (own i.a i.b (subst (NumbersWithin literal_bound) i.is at.small)) in
      let deep : depth t ≡ suc (max (depth i.a) (max (depth i.b) 0)) = ap depth i.is ∙ depths i.a i.b in
      record {
        a = i.a;
        b = i.b;
        is = i.is;
        first = record { form = i.first; small = small.0; shallow = omega (arith, at.shallow) };
        first_below = i.first_below;
        second = record { form = i.second; small = (all_split Near (numbers i.b) [] small.1).0; shallow = omega (arith, at.shallow) };
        second_below = i.second_below;
        second_deep = omega (arith, at.shallow);
      }

  pub of_add : {i j : ℕ} → form.Add i j ≡ (entry_at es p).form → TwoNumbers add es v p n o i j t
  of_add {i} {j} e = two_numbers add (split_two add at.form (form.Add i j) e (stands at.form e) (λ x y h. h) (λ x y. ap suc (sum_two (size x) (size y)))) (λ a b h. h) (λ a b. refl)

  pub of_sub : {i j : ℕ} → form.Sub i j ≡ (entry_at es p).form → TwoNumbers sub es v p n o i j t
  of_sub {i} {j} e = two_numbers sub (split_two sub at.form (form.Sub i j) e (stands at.form e) (λ x y h. h) (λ x y. ap suc (sum_two (size x) (size y)))) (λ a b h. h) (λ a b. refl)

  pub of_least : {i j : ℕ} → form.Least i j ≡ (entry_at es p).form → TwoNumbers least es v p n o i j t
  of_least {i} {j} e = two_numbers least (split_two least at.form (form.Least i j) e (stands at.form e) (λ x y h. h) (λ x y. ap suc (sum_two (size x) (size y)))) (λ a b h. h) (λ a b. refl)

  pub of_most : {i j : ℕ} → form.Most i j ≡ (entry_at es p).form → TwoNumbers most es v p n o i j t
  of_most {i} {j} e = two_numbers most (split_two most at.form (form.Most i j) e (stands at.form e) (λ x y h. h) (λ x y. ap suc (sum_two (size x) (size y)))) (λ a b h. h) (λ a b. refl)

  pub of_let : {i j : ℕ} → form.Let i j ≡ (entry_at es p).form → TwoNumbers let_in es v p n o i j t
  of_let {i} {j} e = two_numbers let_in (split_two let_in at.form (form.Let i j) e (stands at.form e) (λ x y h. h) (λ x y. ap suc (sum_two (size x) (size y)))) (λ a b h. h) (λ a b. refl)

  pub of_scale : {z : ℤ} {i : ℕ} → form.Scale z i ≡ (entry_at es p).form → OneNumber (scale z) es v p n o i t
  of_scale {z} {i} e = one_number (scale z) (split_one (scale z) at.form (form.Scale z i) e (stands at.form e) (λ x h. h) (λ x. ap suc (sum_one (size x)))) (λ a h. h.1) (λ a. refl)

  pub of_clip : {lo hi : ℤ} {i : ℕ} → form.Clip lo hi i ≡ (entry_at es p).form → OneNumber (clip lo hi) es v p n o i t
  of_clip {lo} {hi} {i} e = one_number (clip lo hi) (split_one (clip lo hi) at.form (form.Clip lo hi i) e (stands at.form e) (λ x h. h) (λ x. ap suc (sum_one (size x)))) (λ a h. h.1.1) (λ a. refl)

-- the second of two numbers in a scope with one variable more
pub inside : {mk : NumberTree → NumberTree → NumberTree} {es : List Entry} {v : Stack Range max_depth} {p n o i j : ℕ} {t : NumberTree} (k : TwoNumbers mk es v p n o i j t) (w : Stack Range max_depth) → spare w + 1 ≡ spare v → NumberAt es w j (past (n + 1) k.a) (o + 1 + size k.a) k.b
inside k w e = record { form = k.second.form; small = k.second.small; shallow = omega (arith, k.second_deep, e) }
