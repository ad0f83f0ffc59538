-- What is read of a text that is not empty: a tree, which stands in the table where typing looks for it.
use Rattle.std.proofs.Common.{◌≡◌, ℕ, ◌-◌, ◌<◌, ◌⊎◌, List, [], length, Ok, sym, refl, ap, subst, inl, inr, arith}
use Rattle.trees.specs.Size.{WithinLimits, max_depth}
use Rattle.trees.specs.Written.{written}
use Rattle.forms.specs.declared.form.Entry.{Entry}
use Rattle.forms.specs.Table.{NumberTree}
use Rattle.reading.specs.Law.{Holds, HoldsLined, OpensLines, ReadsTrees}
use Rattle.sources.specs.declared.shapes.Range.{Range}
use Rattle.stacks.specs.Stack.{spare}
use Rattle.stacks.specs.declared.stack.Stack.{Stack}
use Rattle.typing.specs.Numbers.{NumberAt}
use Rattle.checking.specs.Check.{Spells}

pub record Whole (text : List ℕ) (es : List Entry) : Type 0 where
  pub tree : NumberTree
  pub spells : Spells text tree
  pub holds : HoldsLined es tree

pub whole : {text : List ℕ} {es entries : List Entry} → ReadsTrees text (Ok tt) es → OpensLines text es → 0 < length text → entries ≡ es → Whole text entries
whole {text} {es} {entries} law lines some same = go (law.only refl)
  where
    go : (text ≡ []) ⊎ ((t : NumberTree) × WithinLimits t × (text ≡ written t) × Holds es t) → Whole text entries
    go (inl none) = absurd (omega (arith, ap length none))
    go (inr x) = record { tree = x.0; spells = record { limits = x.1; is = x.2 }; holds = subst (λ (l : List Entry). HoldsLined l x.0) (sym same) (x.3, lines x.0 x.1 x.2) }

-- the tree can be typed, with no variable in scope
pub at_start : {text : List ℕ} {es : List Entry} (v : Stack Range max_depth) (w : Whole text es) → spare v ≡ max_depth → NumberAt es v (length es - 1) 1 0 w.tree
at_start v w free =
    let limits = w.spells.limits in
    record {
      form = record { is = w.holds.0.0; lined = w.holds.1; room = omega (arith, limits.few) };
      small = limits.small;
      shallow = omega (arith, limits.shallow);
    }
