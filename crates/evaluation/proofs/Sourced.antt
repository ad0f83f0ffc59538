-- The source that a leaf names, and its rows added.
use Rattle.std.proofs.Common.{◌≡◌, zero, suc, List, [], ℤ, pos, ◌+ℤ◌, sym, ap, ◌∙◌, subst, arith, w64, SFits, to_z, of_z}
use Rattle.forms.specs.Calm.{PlaceBelow}
use Rattle.forms.specs.Leaves.{Leaf, leaf_total}
use Rattle.forms.specs.Route.{from_source, steps_of}
use Rattle.forms.specs.declared.form.Entry.{Entry}
use Rattle.forms.specs.declared.route.Route.{Route}
use Rattle.rules.specs.Sound.{Plant}
use Rattle.std.proofs.lemmas.Int.{to_z-of_z}
use Rattle.trees.specs.Meaning.{at, total}
use Rattle.evaluation.specs.Addends.{AddsRows, added, from_leaf}
use Rattle.evaluation.specs.Sums.{AddsLeaf, sources_of, widths_of}
use Rattle.evaluation.specs.declared.addends.Addend.{Addend}
use Rattle.evaluation.proofs.Adding.{adds_bits}

zero_bits : (s : ℤ) → SFits w64 s → of_z w64 s ≡ 0 → s ≡ pos 0
zero_bits s f e = sym (to_z-of_z w64 s f) ∙ ap (to_z w64) e

one : (s : ℤ) → PlaceBelow 2 s → (of_z w64 s ≡ 0 → ⊥) → s ≡ pos 1
one s (zero, e, h) other = absurd (other (ap (of_z w64) e))
one s (suc k, e, h) other = e ∙ ap pos (omega arith)

module _ {es : List Entry} {a : Addend} {route : Route} {p : Plant} {sum : ℤ} {l : Leaf} (h : AddsLeaf es a route p sum l) where
  -- s is what the route names
  pub first_source : {s : ℤ} → SFits w64 s → s ≡ from_source route → of_z w64 s ≡ 0 → l.source ≡ pos 0
  first_source {s} f e test = sym h.source ∙ sym e ∙ zero_bits s f test

  pub second_source : {s : ℤ} → s ≡ from_source route → (of_z w64 s ≡ 0 → ⊥) → l.source ≡ pos 1
  second_source e test = one l.source h.place (λ z. test (ap (of_z w64) (e ∙ h.source) ∙ z))

  -- the leaf is of source k
  module _ {k : ℤ} (at_k : l.source ≡ k) (fits : SFits w64 sum) where
    pub leaf_rows : AddsRows es a (steps_of route) (at (widths_of p) k 0) (at (sources_of p) k []) (to_z w64 (of_z w64 sum)) l.way
    leaf_rows = adds_bits fits (subst (λ z. AddsRows es a (steps_of route) (at (widths_of p) z 0) (at (sources_of p) z []) sum l.way) at_k h.rows)

    pub leaf_sum : {r : ℤ} → SFits w64 r → r ≡ to_z w64 (of_z w64 sum) +ℤ total (from_leaf es a l.way) (at (sources_of p) k []) → to_z w64 (of_z w64 r) ≡ sum +ℤ leaf_total (added es a) (sources_of p) l
    leaf_sum {r} f e =
        to_z-of_z w64 r f
        ∙ e
        ∙ ap (λ z. z +ℤ total (from_leaf es a l.way) (at (sources_of p) k [])) (to_z-of_z w64 sum fits)
        ∙ ap (λ z. sum +ℤ total (from_leaf es a l.way) (at (sources_of p) z [])) (sym at_k)
