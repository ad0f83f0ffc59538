-- A form of each word, taken apart.
use Rattle.std.proofs.Common.{◌≡◌, ℕ, suc, List, ℤ, sym, ap, ◌∙◌}
use Rattle.trees.specs.declared.Kind.{Kind}
use Rattle.trees.specs.declared.Kind.TheVariants.{Bag, Condition, Number, Term}
use Rattle.trees.specs.Size.{size}
use Rattle.trees.specs.Tree.{Tree}
use Rattle.trees.specs.Tree.Tree.{keep, put, pool, plus, times, pick, less, equal, either, not, count, sum}
use Rattle.forms.specs.declared.form.Entry.{Entry}
use Rattle.forms.specs.declared.form.Form.TheVariants as form
use Rattle.forms.specs.Lined.{entry_at}
use Rattle.forms.specs.Table.{part_at}
use Rattle.typing.specs.Told.{FormAt, into_part}
use Rattle.typing.proofs.Lengths.{sum_one, sum_three, sum_two}
use Rattle.typing.proofs.Splits.{SplitOne, SplitThree, SplitTwo, split_one, split_three, split_two, stands}

-- a form without parts
same_tree : {k : Kind} (t u : Tree k) → into_part t ≡ into_part u → t ≡ u
same_tree {k = Term} t u e = cc
same_tree {k = Condition} t u e = cc
same_tree {k = Bag} t u e = cc
same_tree {k = Number} t u e = cc

pub of_leaf : {k : Kind} {es : List Entry} {p n o : ℕ} {t : Tree k} (at : FormAt es p n o t) (u : Tree k) → part_at es p ≡ into_part u → t ≡ u
of_leaf {t = t} at u e = same_tree t u (sym at.is ∙ e)

module _ {es : List Entry} {p n o : ℕ} where
  pub of_keep : {t : Tree Bag} (at : FormAt es p n o t) {a b : ℕ} → form.Keep a b ≡ (entry_at es p).form → SplitTwo keep es p n o (form.Keep a b) t
  of_keep at {a} {b} e = split_two keep at (form.Keep a b) e (stands at e) (λ x y h. h) (λ x y. ap suc (sum_two (size x) (size y)))

  pub of_pool : {t : Tree Bag} (at : FormAt es p n o t) {a b : ℕ} → form.Pool a b ≡ (entry_at es p).form → SplitTwo pool es p n o (form.Pool a b) t
  of_pool at {a} {b} e = split_two pool at (form.Pool a b) e (stands at e) (λ x y h. h) (λ x y. ap suc (sum_two (size x) (size y)))

  pub of_plus : {t : Tree Term} (at : FormAt es p n o t) {a b : ℕ} → form.Plus a b ≡ (entry_at es p).form → SplitTwo plus es p n o (form.Plus a b) t
  of_plus at {a} {b} e = split_two plus at (form.Plus a b) e (stands at e) (λ x y h. h) (λ x y. ap suc (sum_two (size x) (size y)))

  pub of_times : {t : Tree Term} (at : FormAt es p n o t) {a b : ℕ} → form.Times a b ≡ (entry_at es p).form → SplitTwo times es p n o (form.Times a b) t
  of_times at {a} {b} e = split_two times at (form.Times a b) e (stands at e) (λ x y h. h) (λ x y. ap suc (sum_two (size x) (size y)))

  pub of_less : {t : Tree Condition} (at : FormAt es p n o t) {a b : ℕ} → form.Less a b ≡ (entry_at es p).form → SplitTwo less es p n o (form.Less a b) t
  of_less at {a} {b} e = split_two less at (form.Less a b) e (stands at e) (λ x y h. h) (λ x y. ap suc (sum_two (size x) (size y)))

  pub of_equal : {t : Tree Condition} (at : FormAt es p n o t) {a b : ℕ} → form.Equal a b ≡ (entry_at es p).form → SplitTwo equal es p n o (form.Equal a b) t
  of_equal at {a} {b} e = split_two equal at (form.Equal a b) e (stands at e) (λ x y h. h) (λ x y. ap suc (sum_two (size x) (size y)))

  pub of_either : {t : Tree Condition} (at : FormAt es p n o t) {a b : ℕ} → form.Either a b ≡ (entry_at es p).form → SplitTwo either es p n o (form.Either a b) t
  of_either at {a} {b} e = split_two either at (form.Either a b) e (stands at e) (λ x y h. h) (λ x y. ap suc (sum_two (size x) (size y)))

  pub of_put : {t : Tree Bag} (at : FormAt es p n o t) {j : ℤ} {a b : ℕ} → form.Put j a b ≡ (entry_at es p).form → SplitTwo (put j) es p n o (form.Put j a b) t
  of_put at {j} {a} {b} e = split_two (put j) at (form.Put j a b) e (stands at e) (λ x y h. h) (λ x y. ap suc (sum_two (size x) (size y)))

  pub of_sum : {t : Tree Number} (at : FormAt es p n o t) {lo hi : ℤ} {a b : ℕ} → form.Sum lo hi a b ≡ (entry_at es p).form → SplitTwo (sum lo hi) es p n o (form.Sum lo hi a b) t
  of_sum at {lo} {hi} {a} {b} e = split_two (sum lo hi) at (form.Sum lo hi a b) e (stands at e) (λ x y h. h) (λ x y. ap suc (sum_two (size x) (size y)))

  pub of_pick : {t : Tree Term} (at : FormAt es p n o t) {c a b : ℕ} → form.Pick c a b ≡ (entry_at es p).form → SplitThree pick es p n o (form.Pick c a b) t
  of_pick at {c} {a} {b} e = split_three pick at (form.Pick c a b) e (stands at e) (λ x y z h. h) (λ x y z. ap suc (sum_three (size x) (size y) (size z)))

  pub of_not : {t : Tree Condition} (at : FormAt es p n o t) {a : ℕ} → form.Not a ≡ (entry_at es p).form → SplitOne not es p n o (form.Not a) t
  of_not at {a} e = split_one not at (form.Not a) e (stands at e) (λ x h. h) (λ x. ap suc (sum_one (size x)))

  pub of_count : {t : Tree Number} (at : FormAt es p n o t) {a : ℕ} → form.Count a ≡ (entry_at es p).form → SplitOne count es p n o (form.Count a) t
  of_count at {a} e = split_one count at (form.Count a) e (stands at e) (λ x h. h) (λ x. ap suc (sum_one (size x)))
