-- Each arm takes the bag apart, and joins what the calls on its parts ensure.
use Rattle.std.proofs.Common.{◌≡◌, ℕ, ◌+◌, ◌*◌, ◌≤◌, true, eqb, [], ◌∷◌, length, drop, ℤ, Result, sym, refl, ap, ◌∙◌, ap₂, arith, w64, rules}
use Rattle.refusals.specs.Rules.{or_else}
use Rattle.refusals.specs.declared.Refusal.{Refusal}
use Rattle.sources.specs.Shapes.{columns_of, max_rows}
use Rattle.std.proofs.lemmas.Result.{err_from_is_err_and, IfOk-weaker}
use Rattle.std.proofs.lemmas.Int.{to_z-of_z}
use Rattle.forms.specs.Lined.{no_entry}
use Rattle.rules.specs.Amounts.{at_most}
use Rattle.rules.specs.Typing.{BagType, bag_rule, bag_typed, index, place, pooled, replaced, scope_rule, sensitivity_bound, settle, source_type}
use Rattle.trees.specs.Size.{size}
use Rattle.trees.specs.Tree.Tree.{bag, pool, put}
use Rattle.types.specs.Shown.{BagGood, bag_shown}
use Rattle.types.specs.declared.bag.TypedBag.{TypedBag}
use Rattle.typing.specs.Bags.{Few}
use Rattle.typing.specs.Notes.{bag_note, bag_notes, noted, of_bag}
use Rattle.typing.proofs.BagSteps.{bag_own, bag_some}
use Rattle.typing.proofs.Lengths.{bag_count, sum_two}
use Rattle.typing.proofs.Noting.{noted_both, noted_none, noted_whole}
use Rattle.typing.proofs.Replies.{replied}
use Rattle.typing.proofs.Splits.{line_of, order_of, within}
use Rattle.typing.proofs.Words.{of_keep, of_leaf, of_pool, of_put}
use Rattle.typing.proofs.basis.Basis.+typed_bags.Goals as goal

-- more forms allow for more rows
wider : (i j : ℕ) (x y : TypedBag) → i ≤ j → y.shape.width ≡ x.shape.width → y.shape.limit ≡ x.shape.limit → y.inputs ≡ x.inputs → BagGood (max_rows * i) x → BagGood (max_rows * j) y
wider i j x y h w l e g = record { narrow = omega (arith, g.narrow); few = omega (arith, g.few); small = ap (at_most sensitivity_bound) e ∙ g.small }

pub bag-entry_at-entry-requires : goal.bag-entry_at-entry-requires
bag-entry_at-entry-requires t c = within c.requires.3

pub bag-offset_bounds-notes-entry : goal.bag-offset_bounds-notes-entry
bag-offset_bounds-notes-entry t c =
    let k = c.requires.3 in
    omega (arith, k.room, order_of k c.entry_at-entry.ensures)

pub bag-bounds-notes-entry : goal.bag-bounds-notes-entry
bag-bounds-notes-entry t c =
    let k = c.requires.3 in
    omega (arith, bag_some c.requires.2 0 c.args.self.now.catalogue.now, k.room, order_of k c.entry_at-entry.ensures)

pub bag-returns : goal.bag-returns
bag-returns t c =
    λ n o tr at.
    let k = c.args.self.now.catalogue.now in
    let x = c.in_ok-typed.typed in
    let d = c.in_ok-typed.ensures n o tr at in
    let own : bag_notes n k tr ≡ bag_note x.shape.limit x.inputs ∷ drop 1 (bag_notes n k tr) = bag_own tr n k ∙ ap (λ (r : Result BagType Refusal). noted of_bag r ∷ drop 1 (bag_notes n k tr)) d.0 in
    (d.0, noted_whole c.args.notes.now o (bag_note x.shape.limit x.inputs) (bag_notes n k tr) _ (omega (arith, bag_some tr n k, at.room)) own d.1 _ _ (order_of at c.entry_at-entry.ensures) c.of_bag.ensures, d.2)

pub draft_bag-entry_at-line-requires : goal.draft_bag-entry_at-line-requires
draft_bag-entry_at-line-requires t c = within c.requires.3

pub draft_bag-form_at-requires : goal.draft_bag-form_at-requires
draft_bag-form_at-requires t c = within c.requires.3

pub draft_bag-returns-in-Bag : goal.draft_bag-returns-in-Bag
draft_bag-returns-in-Bag t c =
    λ n o tr at.
    let k = c.args.self.now.catalogue.now in
    let z = c.in-Bag.source in
    let line = line_of at c.entry_at-line.ensures in
    let is = of_leaf at (bag z) c.in-Bag.ensures.stands in
    let value = ap₂ (λ (i : ℕ) (w : ℤ). settle (scope_rule i (place 2 w)) (source_type k (index w))) (sym line) (sym (to_z-of_z w64 z (search rules))) ∙ sym c.of_source.ensures.value in
    rw is
    (replied bag_shown (Few (bag z)) (bag_typed n k (bag z)) c.args.notes.now (o + 1) [] c.of_source.result c.args.notes.now value (sym (noted_none c.args.notes.now (o + 1))) (c.of_source.ensures.good c.args.self.now.sound))

pub draft_bag-bag-requires : goal.draft_bag-bag-requires
draft_bag-bag-requires t c =
    let i = of_keep c.requires.3 (c.in-Keep.ensures.value no_entry) in
    (omega (arith, c.decreases), (_, _, i.a, i.first))

pub draft_bag-bag-requires-in-Put : goal.draft_bag-bag-requires-in-Put
draft_bag-bag-requires-in-Put t c =
    let i = of_put c.requires.3 (c.in-Put.ensures.value no_entry) in
    (omega (arith, c.decreases), (_, _, i.a, i.first))

pub draft_bag-bag-requires-in-Pool : goal.draft_bag-bag-requires-in-Pool
draft_bag-bag-requires-in-Pool t c =
    let i = of_pool c.requires.3 (c.in-Pool.ensures.value no_entry) in
    (omega (arith, c.decreases), (_, _, i.a, i.first))

pub draft_bag-returns-in_err-typed-in-Keep : goal.draft_bag-returns-in_err-typed-in-Keep
draft_bag-returns-in_err-typed-in-Keep t c =
    let p = err_from_is_err_and c.from_residual.result c.from_residual.ensures.1 in
    rw (p.1, p.2)
    (λ n o tr at.
    let i = of_keep at (c.in-Keep.ensures.value no_entry) in
    rw (i.is, c.in_err-typed-in-Keep.ensures _ _ _ i.first))

pub draft_bag-columns-requires : goal.draft_bag-columns-requires
draft_bag-columns-requires t c =
    let i = of_keep c.requires.3 (c.in-Keep.ensures.value no_entry) in
    (c.in_ok-typed-in-Keep.ensures _ _ _ i.first).2.narrow

pub draft_bag-condition-requires : goal.draft_bag-condition-requires
draft_bag-condition-requires t c =
    let i = of_keep c.requires.3 (c.in-Keep.ensures.value no_entry) in
    (_, _, i.b, i.second)

pub draft_bag-returns-in_err-condition-in-Keep : goal.draft_bag-returns-in_err-condition-in-Keep
draft_bag-returns-in_err-condition-in-Keep t c =
    let p = err_from_is_err_and c.from_residual-in_err-condition-in-Keep.result c.from_residual-in_err-condition-in-Keep.ensures.1 in
    rw (p.1, p.2)
    (λ n o tr at.
    let i = of_keep at (c.in-Keep.ensures.value no_entry) in
    rw (i.is, (c.in_ok-typed-in-Keep.ensures _ _ _ i.first).0, ← c.columns.ensures, c.in_err-condition-in-Keep.ensures _ _ _ i.second))

pub draft_bag-returns-in_ok-condition-in-Keep : goal.draft_bag-returns-in_ok-condition-in-Keep
draft_bag-returns-in_ok-condition-in-Keep t c =
    λ n o tr at.
    let i = of_keep at (c.in-Keep.ensures.value no_entry) in
    let x = c.in_ok-typed-in-Keep.ensures _ _ _ i.first in
    let y = c.in_ok-condition-in-Keep.ensures _ _ _ i.second in
    rw (i.is, x.0, ← c.columns.ensures, y.0)
    (refl, noted_both c.args.notes.now (o + 1) _ _ _ _ _ x.1 y.1 (bag_count i.a _ _) (omega (arith, i.first.room)), wider (size i.a) _ c.in_ok-typed-in-Keep.typed _ (omega (arith, sum_two (size i.a) (size i.b))) refl refl refl x.2)

pub draft_bag-returns-in_err-typed-in-Put : goal.draft_bag-returns-in_err-typed-in-Put
draft_bag-returns-in_err-typed-in-Put t c =
    let p = err_from_is_err_and c.from_residual-in_err-typed-in-Put.result c.from_residual-in_err-typed-in-Put.ensures.1 in
    rw (p.1, p.2)
    (λ n o tr at.
    let i = of_put at (c.in-Put.ensures.value no_entry) in
    rw (i.is, c.in_err-typed-in-Put.ensures _ _ _ i.first))

pub draft_bag-columns-requires-in-Put : goal.draft_bag-columns-requires-in-Put
draft_bag-columns-requires-in-Put t c =
    let i = of_put c.requires.3 (c.in-Put.ensures.value no_entry) in
    (c.in_ok-typed-in-Put.ensures _ _ _ i.first).2.narrow

pub draft_bag-term-requires : goal.draft_bag-term-requires
draft_bag-term-requires t c =
    let i = of_put c.requires.3 (c.in-Put.ensures.value no_entry) in
    (_, _, i.b, i.second)

pub draft_bag-returns-in_err-range-in-Put : goal.draft_bag-returns-in_err-range-in-Put
draft_bag-returns-in_err-range-in-Put t c =
    let p = err_from_is_err_and c.from_residual-in_err-range-in-Put.result c.from_residual-in_err-range-in-Put.ensures.1 in
    rw (p.1, p.2)
    (λ n o tr at.
    let i = of_put at (c.in-Put.ensures.value no_entry) in
    rw (i.is, (c.in_ok-typed-in-Put.ensures _ _ _ i.first).0, ← c.columns-in-Put.ensures, c.in_err-range-in-Put.ensures _ _ _ i.second))

pub draft_bag-with_column-requires : goal.draft_bag-with_column-requires
draft_bag-with_column-requires t c =
    let i = of_put c.requires.3 (c.in-Put.ensures.value no_entry) in
    (c.in_ok-typed-in-Put.ensures _ _ _ i.first).2.narrow

pub draft_bag-returns-in_ok-range-in-Put : goal.draft_bag-returns-in_ok-range-in-Put
draft_bag-returns-in_ok-range-in-Put t c =
    λ n o tr at.
    let i = of_put at (c.in-Put.ensures.value no_entry) in
    let z = c.in-Put.column in
    let v = c.in_ok-typed-in-Put.typed in
    let x = c.in_ok-typed-in-Put.ensures _ _ _ i.first in
    let y = c.in_ok-range-in-Put.ensures _ _ _ i.second in
    let value = rw (← c.columns-in-Put.ensures) at (ap₂ (λ (l : ℕ) (w : ℤ). settle (scope_rule l (place (length (columns_of v.shape)) w)) (replaced (bag_shown v) (index w) c.in_ok-range-in-Put.range)) (sym (line_of at c.entry_at-line.ensures)) (sym (to_z-of_z w64 z (search rules))) ∙ sym c.with_column.ensures.value) in
    rw (i.is, x.0, ← c.columns-in-Put.ensures, y.0)
    (replied bag_shown (Few (put z i.a i.b)) _ c.args.notes.now (o + 1) _ c.with_column.result _ value (noted_both c.args.notes.now (o + 1) _ _ _ _ _ x.1 y.1 (bag_count i.a _ _) (omega (arith, i.first.room)))
    (IfOk-weaker c.with_column.result (λ w. (w.shape.width ≡ v.shape.width) × (w.shape.limit ≡ v.shape.limit) × (w.inputs ≡ v.inputs)) (Few (put z i.a i.b)) (λ w h. wider (size i.a) _ v w (omega (arith, sum_two (size i.a) (size i.b))) h.0 h.1 h.2 x.2) c.with_column.ensures.kept))

pub draft_bag-returns-in_err-x-in-Pool : goal.draft_bag-returns-in_err-x-in-Pool
draft_bag-returns-in_err-x-in-Pool t c =
    let p = err_from_is_err_and c.from_residual-in_err-x-in-Pool.result c.from_residual-in_err-x-in-Pool.ensures.1 in
    rw (p.1, p.2)
    (λ n o tr at.
    let i = of_pool at (c.in-Pool.ensures.value no_entry) in
    rw (i.is, c.in_err-x-in-Pool.ensures _ _ _ i.first))

pub draft_bag-bag-requires-in-Pool-2 : goal.draft_bag-bag-requires-in-Pool-2
draft_bag-bag-requires-in-Pool-2 t c =
    let i = of_pool c.requires.3 (c.in-Pool.ensures.value no_entry) in
    (omega (arith, c.decreases), (_, _, i.b, i.second))

pub draft_bag-returns-in_err-y-in-Pool : goal.draft_bag-returns-in_err-y-in-Pool
draft_bag-returns-in_err-y-in-Pool t c =
    let p = err_from_is_err_and c.from_residual-in_err-y-in-Pool.result c.from_residual-in_err-y-in-Pool.ensures.1 in
    rw (p.1, p.2)
    (λ n o tr at.
    let i = of_pool at (c.in-Pool.ensures.value no_entry) in
    rw (i.is, (c.in_ok-x-in-Pool.ensures _ _ _ i.first).0, c.in_err-y-in-Pool.ensures _ _ _ i.second))

pub draft_bag-pooled-requires : goal.draft_bag-pooled-requires
draft_bag-pooled-requires t c =
    let i = of_pool c.requires.3 (c.in-Pool.ensures.value no_entry) in
    let x = (c.in_ok-x-in-Pool.ensures _ _ _ i.first).2 in
    let y = (c.in_ok-y-in-Pool.ensures _ _ _ i.second).2 in
    record { rows = omega (arith, x.few, y.few, i.second.room); first_small = x.small; second_small = y.small }

pub draft_bag-returns-in_ok-y-in-Pool : goal.draft_bag-returns-in_ok-y-in-Pool
draft_bag-returns-in_ok-y-in-Pool t c =
    λ n o tr at.
    let i = of_pool at (c.in-Pool.ensures.value no_entry) in
    let v = c.in_ok-x-in-Pool.x in
    let w = c.in_ok-y-in-Pool.y in
    let x = c.in_ok-x-in-Pool.ensures _ _ _ i.first in
    let y = c.in_ok-y-in-Pool.ensures _ _ _ i.second in
    let value = ap (λ (l : ℕ). settle (or_else (scope_rule l (eqb (length (columns_of v.shape)) (length (columns_of w.shape)))) (bag_rule l (pooled (bag_shown v) (bag_shown w)))) (pooled (bag_shown v) (bag_shown w))) (sym (line_of at c.entry_at-line.ensures)) ∙ sym c.pooled.ensures.value in
    rw (i.is, x.0, y.0)
    (replied bag_shown (Few (pool i.a i.b)) _ c.args.notes.now (o + 1) _ c.pooled.result _ value (noted_both c.args.notes.now (o + 1) _ _ _ _ _ x.1 y.1 (bag_count i.a _ _) (omega (arith, i.first.room)))
    (IfOk-weaker c.pooled.result (λ u. (u.shape.width ≡ v.shape.width) × (u.shape.limit ≡ v.shape.limit + w.shape.limit) × (at_most sensitivity_bound u.inputs ≡ true)) (Few (pool i.a i.b)) (λ u h. record { narrow = omega (arith, h.0, x.2.narrow); few = omega (arith, h.1, x.2.few, y.2.few, sum_two (size i.a) (size i.b)); small = h.2 }) c.pooled.ensures.kept))
