-- Each arm takes the number apart, and joins what the calls on its parts ensure.
use Rattle.std.proofs.Common.{◌≡◌, ℕ, ◌+◌, ◌-◌, ◌≤◌, max, [], ◌∷◌, length, drop, ℤ, nat_abs, None, Ok, Option, Result, sym, ap, ◌∙◌, subst, ap₂, arith, w64, rules}
use lib.Signed.{le_z}
use Rattle.refusals.specs.declared.Refusal.{Refusal}
use Rattle.sources.specs.declared.shapes.Range.{Range}
use Rattle.std.proofs.lemmas.Result.{err_from_is_err_and}
use Rattle.std.proofs.lemmas.Int.{to_z-of_z}
use Rattle.forms.specs.Lined.{no_entry, past}
use Rattle.rules.specs.Amounts.{none, one_at, times as multiplied}
use Rattle.rules.specs.Catalogue.{setting_range}
use Rattle.rules.specs.Ranges.{point, totals}
use Rattle.rules.specs.Typing.{NumberType, cut, index, multiple, number_rule, number_typed, place, scope_rule, settle, unbound, variable}
use Rattle.trees.specs.Size.{NumbersWithin, literal_bound, size}
use Rattle.trees.specs.Tree.Tree.{num, setting, var}
use Rattle.stacks.specs.Stack.{spare, stacked}
use Rattle.types.specs.Shown.{NumberGood, number_shown}
use Rattle.typing.specs.Notes.{noted, number_note, number_notes, of_number}
use Rattle.typing.proofs.Lengths.{bag_count, number_count}
use Rattle.typing.proofs.Noting.{noted_both, noted_none, noted_whole}
use Rattle.typing.proofs.NumberSteps.{number_own, number_some, numbers_two, settled_good}
use Rattle.typing.proofs.Stages.{pair_stopped, pair_went, settled}
use Rattle.typing.proofs.Replies.{drafted}
use Rattle.typing.proofs.Splits.{line_of, order_of, within}
use Rattle.typing.proofs.NumberParts.{inside, of_add, of_clip, of_least, of_let, of_most, of_scale, of_sub}
use Rattle.typing.proofs.Words.{of_count, of_leaf, of_sum}
use Rattle.typing.proofs.basis.Basis.+typed_numbers.Goals as goal

pub number-entry_at-entry-requires : goal.number-entry_at-entry-requires
number-entry_at-entry-requires t c = within c.requires.3.form

pub number-returns-in_err-settle : goal.number-returns-in_err-settle
number-returns-in_err-settle t c =
    let p = err_from_is_err_and c.from_residual-in_err-settle.result c.from_residual-in_err-settle.ensures.1 in
    rw (p.1, p.2)
    (λ n o tr at.
    let x = number_shown (spare c.args.scope.now) c.in_ok-typed.typed in
    let line = line_of at.form c.entry_at-entry.ensures in
    (c.in_ok-typed.ensures n o tr at).0 ∙ ap (λ (r : Option Refusal). settle r x) (sym (c.in_err-settle.ensures ∙ ap (λ (i : ℕ). number_rule i x) line)))

pub number-offset_bounds-notes-entry : goal.number-offset_bounds-notes-entry
number-offset_bounds-notes-entry t c =
    let k = c.requires.3.form in
    omega (arith, k.room, order_of k c.entry_at-entry.ensures)

pub number-bounds-notes-entry : goal.number-bounds-notes-entry
number-bounds-notes-entry t c =
    let k = c.requires.3.form in
    omega (arith, number_some c.requires.2 c.args.self.now.catalogue.now, k.room, order_of k c.entry_at-entry.ensures)

pub number-returns : goal.number-returns
number-returns t c =
    λ n o tr at.
    let k = c.args.self.now.catalogue.now in
    let v = c.args.scope.now in
    let rs = stacked v in
    let x = number_shown (spare v) c.in_ok-typed.typed in
    let d = c.in_ok-typed.ensures n o tr at in
    let nothing : None ≡ number_rule n x = c.in_ok-settle.ensures ∙ ap (λ (i : ℕ). number_rule i x) (line_of at.form c.entry_at-entry.ensures) in
    let ok : number_typed n k rs tr ≡ Ok x = d.0 ∙ ap (λ (r : Option Refusal). settle r x) (sym nothing) in
    let own : number_notes n k rs tr ≡ number_note x.range x.inputs ∷ drop 1 (number_notes n k rs tr) = number_own tr n k rs ∙ ap (λ (r : Result NumberType Refusal). noted of_number r ∷ drop 1 (number_notes n k rs tr)) ok in
    (ok, noted_whole c.args.notes.now o (number_note x.range x.inputs) (number_notes n k rs tr) _ (omega (arith, number_some tr k, at.form.room)) own d.1 _ _ (order_of at.form c.entry_at-entry.ensures) c.of_number.ensures, settled_good n (spare v) c.in_ok-typed.typed nothing)

pub two_numbers-returns : goal.two_numbers-returns
two_numbers-returns t c =
    λ n o a b at bt.
    let k = c.args.self.now.catalogue.now in
    let rs = stacked c.args.scope.now in
    let x = c.in_ok-x.ensures n o a at in
    let y = c.in_ok-y.ensures (past n a) (o + size a) b bt in
    (numbers_two n k rs a b _ _ x.0 y.0, noted_both c.args.notes.now o (size a) (number_notes n k rs a) (number_notes (past n a) k rs b) _ _ x.1 y.1 (number_count a n k rs) (omega (arith, at.form.room)), (x.2, y.2))

pub draft_number-entry_at-line-requires : goal.draft_number-entry_at-line-requires
draft_number-entry_at-line-requires t c = within c.requires.3.form

pub draft_number-form_at-requires : goal.draft_number-form_at-requires
draft_number-form_at-requires t c = within c.requires.3.form

pub draft_number-returns-in-Num : goal.draft_number-returns-in-Num
draft_number-returns-in-Num t c =
    λ n o tr at.
    let v = c.args.scope.now in
    let z = c.in-Num.value in
    let is = of_leaf at.form (num z) c.in-Num.ensures.stands in
    let value = c.unbound.ensures v ∙ ap (λ (r : Range). unbound (stacked v) r none) (c.point.ensures ∙ ap point (to_z-of_z w64 z (search rules))) in
    rw is
    (ap (λ (w : NumberType). settle (number_rule n w) w) (sym value), sym (noted_none c.args.notes.now (o + 1)), tt)

pub draft_number-returns-in-Setting : goal.draft_number-returns-in-Setting
draft_number-returns-in-Setting t c =
    λ n o tr at.
    let k = c.args.self.now.catalogue.now in
    let v = c.args.scope.now in
    let z = c.in-Setting.input in
    let line = line_of at.form c.entry_at-line.ensures in
    let is = of_leaf at.form (setting z) c.in-Setting.ensures.stands in
    let type = λ (w : ℤ). unbound (stacked v) (setting_range k (index w)) (one_at (2 + index w)) in
    let value = c.of_setting.ensures v ∙ ap₂ (λ (i : ℕ) (w : ℤ). settle (scope_rule i (place 2 w)) (type w)) line (to_z-of_z w64 z (search rules)) in
    rw is
    (drafted (number_shown (spare v)) (number_rule n) n (place 2 z) (type z) c.args.notes.now (o + 1) [] c.of_setting.result _ value (sym (noted_none c.args.notes.now (o + 1))))

pub draft_number-returns-in-Var : goal.draft_number-returns-in-Var
draft_number-returns-in-Var t c =
    λ n o tr at.
    let v = c.args.scope.now in
    let z = c.in-Var.index in
    let line = line_of at.form c.entry_at-line.ensures in
    let is = of_leaf at.form (var z) c.in-Var.ensures.stands in
    let value = c.of_variable.ensures ∙ ap₂ (λ (i : ℕ) (w : ℤ). settle (scope_rule i (place (length (stacked v)) w)) (variable (stacked v) (index w))) line (to_z-of_z w64 z (search rules)) in
    rw is
    (drafted (number_shown (spare v)) (number_rule n) n (place (length (stacked v)) z) (variable (stacked v) (index z)) c.args.notes.now (o + 1) [] c.of_variable.result _ value (sym (noted_none c.args.notes.now (o + 1))))

pub draft_number-bag-requires : goal.draft_number-bag-requires
draft_number-bag-requires t c =
    let i = of_count c.requires.3.form (c.in-Count.ensures.value no_entry) in
    (_, _, i.a, i.first)

pub draft_number-returns-in_err-rows-in-Count : goal.draft_number-returns-in_err-rows-in-Count
draft_number-returns-in_err-rows-in-Count t c =
    let p = err_from_is_err_and c.from_residual.result c.from_residual.ensures.1 in
    rw (p.1, p.2)
    (λ n o tr at.
    let i = of_count at.form (c.in-Count.ensures.value no_entry) in
    rw (i.is, c.in_err-rows-in-Count.ensures _ _ _ i.first))

pub draft_number-of_count-requires : goal.draft_number-of_count-requires
draft_number-of_count-requires t c =
    let i = of_count c.requires.3.form (c.in-Count.ensures.value no_entry) in
    omega (arith, i.first.room, (c.in_ok-rows-in-Count.ensures _ _ _ i.first).2.few)

pub draft_number-returns-in_ok-rows-in-Count : goal.draft_number-returns-in_ok-rows-in-Count
draft_number-returns-in_ok-rows-in-Count t c =
    λ n o tr at.
    let v = c.args.scope.now in
    let i = of_count at.form (c.in-Count.ensures.value no_entry) in
    let x = c.in_ok-rows-in-Count.ensures _ _ _ i.first in
    rw (i.is, x.0) (settled (number_rule n) (c.of_count.ensures v), x.1, tt)

pub draft_number-bag-requires-in-Sum : goal.draft_number-bag-requires-in-Sum
draft_number-bag-requires-in-Sum t c =
    let i = of_sum c.requires.3.form (c.in-Sum.ensures.value no_entry) in
    (_, _, i.a, i.first)

pub draft_number-returns-in_err-rows-in-Sum : goal.draft_number-returns-in_err-rows-in-Sum
draft_number-returns-in_err-rows-in-Sum t c =
    let p = err_from_is_err_and c.from_residual-in_err-rows-in-Sum.result c.from_residual-in_err-rows-in-Sum.ensures.1 in
    rw (p.1, p.2)
    (λ n o tr at.
    let i = of_sum at.form (c.in-Sum.ensures.value no_entry) in
    rw (i.is, c.in_err-rows-in-Sum.ensures _ _ _ i.first))

pub draft_number-columns-requires : goal.draft_number-columns-requires
draft_number-columns-requires t c =
    let i = of_sum c.requires.3.form (c.in-Sum.ensures.value no_entry) in
    (c.in_ok-rows-in-Sum.ensures _ _ _ i.first).2.narrow

pub draft_number-term-requires : goal.draft_number-term-requires
draft_number-term-requires t c =
    let i = of_sum c.requires.3.form (c.in-Sum.ensures.value no_entry) in
    (_, _, i.b, i.second)

pub draft_number-returns-in_err-term-in-Sum : goal.draft_number-returns-in_err-term-in-Sum
draft_number-returns-in_err-term-in-Sum t c =
    let p = err_from_is_err_and c.from_residual-in_err-term-in-Sum.result c.from_residual-in_err-term-in-Sum.ensures.1 in
    rw (p.1, p.2)
    (λ n o tr at.
    let i = of_sum at.form (c.in-Sum.ensures.value no_entry) in
    rw (i.is, (c.in_ok-rows-in-Sum.ensures _ _ _ i.first).0, ← c.columns.ensures, c.in_err-term-in-Sum.ensures _ _ _ i.second))

pub draft_number-of_sum-requires : goal.draft_number-of_sum-requires
draft_number-of_sum-requires t c =
    let i = of_sum c.requires.3.form (c.in-Sum.ensures.value no_entry) in
    let x = (c.in_ok-rows-in-Sum.ensures _ _ _ i.first).2 in
    let small = subst (NumbersWithin literal_bound) i.is c.requires.3.small in
    let low : nat_abs c.in-Sum.low ≤ literal_bound = small.0 in
    let high : nat_abs c.in-Sum.high ≤ literal_bound = small.1.0 in
    let lows = to_z-of_z w64 c.in-Sum.low (search rules) in
    let highs = to_z-of_z w64 c.in-Sum.high (search rules) in
    record { rows = omega (arith, i.first.room, x.few); low = omega (arith, ap nat_abs lows); high = omega (arith, ap nat_abs highs); small = x.small }

pub draft_number-returns-in_ok-term-in-Sum : goal.draft_number-returns-in_ok-term-in-Sum
draft_number-returns-in_ok-term-in-Sum t c =
    λ n o tr at.
    let v = c.args.scope.now in
    let i = of_sum at.form (c.in-Sum.ensures.value no_entry) in
    let lo = c.in-Sum.low in
    let hi = c.in-Sum.high in
    let w = c.in_ok-rows-in-Sum.rows in
    let x = c.in_ok-rows-in-Sum.ensures _ _ _ i.first in
    let y = c.in_ok-term-in-Sum.ensures _ _ _ i.second in
    let line = line_of at.form c.entry_at-line.ensures in
    let type = λ (p q : ℤ). unbound (stacked v) (totals w.shape.limit p q) (multiplied (max (nat_abs p) (nat_abs q)) w.inputs) in
    let value = c.of_sum.ensures v ∙ ap₂ (λ (p q : ℤ). settle (scope_rule c.entry_at-line.result.line (le_z p q)) (type p q)) (to_z-of_z w64 lo (search rules)) (to_z-of_z w64 hi (search rules)) ∙ ap (λ (l : ℕ). settle (scope_rule l (le_z lo hi)) (type lo hi)) line in
    rw (i.is, x.0, ← c.columns.ensures, y.0)
    (drafted (number_shown (spare v)) (number_rule n) n (le_z lo hi) (type lo hi) c.args.notes.now (o + 1) _ c.of_sum.result _ value (noted_both c.args.notes.now (o + 1) _ _ _ _ _ x.1 y.1 (bag_count i.a _ _) (omega (arith, i.first.room))))

pub draft_number-two_numbers-requires : goal.draft_number-two_numbers-requires
draft_number-two_numbers-requires t c =
    let i = of_add c.requires.3 (c.in-Add.ensures.value no_entry) in
    (omega (arith, c.decreases), (_, _, i.a, i.b, i.first, i.second))

pub draft_number-returns-in_err-x-in-Add : goal.draft_number-returns-in_err-x-in-Add
draft_number-returns-in_err-x-in-Add t c =
    let p = err_from_is_err_and c.from_residual-in_err-x-in-Add.result c.from_residual-in_err-x-in-Add.ensures.1 in
    rw (p.1, p.2)
    (λ n o tr at.
    let i = of_add at (c.in-Add.ensures.value no_entry) in
    rw i.is (pair_stopped _ _ _ _ (c.in_err-x-in-Add.ensures _ _ _ _ i.first i.second)))

pub draft_number-plus-requires : goal.draft_number-plus-requires
draft_number-plus-requires t c =
    let i = of_add c.requires.3 (c.in-Add.ensures.value no_entry) in
    let e = c.in_ok-x-in-Add.ensures _ _ _ _ i.first i.second in
    (_, e.2.0, e.2.1)

pub draft_number-returns-in_ok-x-in-Add : goal.draft_number-returns-in_ok-x-in-Add
draft_number-returns-in_ok-x-in-Add t c =
    λ n o tr at.
    let i = of_add at (c.in-Add.ensures.value no_entry) in
    let e = c.in_ok-x-in-Add.ensures _ _ _ _ i.first i.second in
    rw i.is (pair_went _ _ _ _ e.0 ∙ settled (number_rule n) (c.plus.ensures _ e.2.0 e.2.1), e.1, tt)

pub draft_number-two_numbers-requires-in-Sub : goal.draft_number-two_numbers-requires-in-Sub
draft_number-two_numbers-requires-in-Sub t c =
    let i = of_sub c.requires.3 (c.in-Sub.ensures.value no_entry) in
    (omega (arith, c.decreases), (_, _, i.a, i.b, i.first, i.second))

pub draft_number-returns-in_err-x-in-Sub : goal.draft_number-returns-in_err-x-in-Sub
draft_number-returns-in_err-x-in-Sub t c =
    let p = err_from_is_err_and c.from_residual-in_err-x-in-Sub.result c.from_residual-in_err-x-in-Sub.ensures.1 in
    rw (p.1, p.2)
    (λ n o tr at.
    let i = of_sub at (c.in-Sub.ensures.value no_entry) in
    rw i.is (pair_stopped _ _ _ _ (c.in_err-x-in-Sub.ensures _ _ _ _ i.first i.second)))

pub draft_number-minus-requires : goal.draft_number-minus-requires
draft_number-minus-requires t c =
    let i = of_sub c.requires.3 (c.in-Sub.ensures.value no_entry) in
    let e = c.in_ok-x-in-Sub.ensures _ _ _ _ i.first i.second in
    (_, e.2.0, e.2.1)

pub draft_number-returns-in_ok-x-in-Sub : goal.draft_number-returns-in_ok-x-in-Sub
draft_number-returns-in_ok-x-in-Sub t c =
    λ n o tr at.
    let i = of_sub at (c.in-Sub.ensures.value no_entry) in
    let e = c.in_ok-x-in-Sub.ensures _ _ _ _ i.first i.second in
    rw i.is (pair_went _ _ _ _ e.0 ∙ settled (number_rule n) (c.minus.ensures _ e.2.0 e.2.1), e.1, tt)

pub draft_number-two_numbers-requires-in-Least : goal.draft_number-two_numbers-requires-in-Least
draft_number-two_numbers-requires-in-Least t c =
    let i = of_least c.requires.3 (c.in-Least.ensures.value no_entry) in
    (omega (arith, c.decreases), (_, _, i.a, i.b, i.first, i.second))

pub draft_number-returns-in_err-x-in-Least : goal.draft_number-returns-in_err-x-in-Least
draft_number-returns-in_err-x-in-Least t c =
    let p = err_from_is_err_and c.from_residual-in_err-x-in-Least.result c.from_residual-in_err-x-in-Least.ensures.1 in
    rw (p.1, p.2)
    (λ n o tr at.
    let i = of_least at (c.in-Least.ensures.value no_entry) in
    rw i.is (pair_stopped _ _ _ _ (c.in_err-x-in-Least.ensures _ _ _ _ i.first i.second)))

pub draft_number-least-requires : goal.draft_number-least-requires
draft_number-least-requires t c =
    let i = of_least c.requires.3 (c.in-Least.ensures.value no_entry) in
    let e = c.in_ok-x-in-Least.ensures _ _ _ _ i.first i.second in
    (_, e.2.0, e.2.1)

pub draft_number-returns-in_ok-x-in-Least : goal.draft_number-returns-in_ok-x-in-Least
draft_number-returns-in_ok-x-in-Least t c =
    λ n o tr at.
    let i = of_least at (c.in-Least.ensures.value no_entry) in
    let e = c.in_ok-x-in-Least.ensures _ _ _ _ i.first i.second in
    rw i.is (pair_went _ _ _ _ e.0 ∙ settled (number_rule n) (c.least.ensures _ e.2.0 e.2.1), e.1, tt)

pub draft_number-two_numbers-requires-in-Most : goal.draft_number-two_numbers-requires-in-Most
draft_number-two_numbers-requires-in-Most t c =
    let i = of_most c.requires.3 (c.in-Most.ensures.value no_entry) in
    (omega (arith, c.decreases), (_, _, i.a, i.b, i.first, i.second))

pub draft_number-returns-in_err-x-in-Most : goal.draft_number-returns-in_err-x-in-Most
draft_number-returns-in_err-x-in-Most t c =
    let p = err_from_is_err_and c.from_residual-in_err-x-in-Most.result c.from_residual-in_err-x-in-Most.ensures.1 in
    rw (p.1, p.2)
    (λ n o tr at.
    let i = of_most at (c.in-Most.ensures.value no_entry) in
    rw i.is (pair_stopped _ _ _ _ (c.in_err-x-in-Most.ensures _ _ _ _ i.first i.second)))

pub draft_number-most-requires : goal.draft_number-most-requires
draft_number-most-requires t c =
    let i = of_most c.requires.3 (c.in-Most.ensures.value no_entry) in
    let e = c.in_ok-x-in-Most.ensures _ _ _ _ i.first i.second in
    (_, e.2.0, e.2.1)

pub draft_number-returns-in_ok-x-in-Most : goal.draft_number-returns-in_ok-x-in-Most
draft_number-returns-in_ok-x-in-Most t c =
    λ n o tr at.
    let i = of_most at (c.in-Most.ensures.value no_entry) in
    let e = c.in_ok-x-in-Most.ensures _ _ _ _ i.first i.second in
    rw i.is (pair_went _ _ _ _ e.0 ∙ settled (number_rule n) (c.most.ensures _ e.2.0 e.2.1), e.1, tt)

pub draft_number-number-requires : goal.draft_number-number-requires
draft_number-number-requires t c =
    let i = of_scale c.requires.3 (c.in-Scale.ensures.value no_entry) in
    (omega (arith, c.decreases), (_, _, i.a, i.first))

pub draft_number-returns-in_err-x-in-Scale : goal.draft_number-returns-in_err-x-in-Scale
draft_number-returns-in_err-x-in-Scale t c =
    let p = err_from_is_err_and c.from_residual-in_err-x-in-Scale.result c.from_residual-in_err-x-in-Scale.ensures.1 in
    rw (p.1, p.2)
    (λ n o tr at.
    let i = of_scale at (c.in-Scale.ensures.value no_entry) in
    rw (i.is, c.in_err-x-in-Scale.ensures _ _ _ i.first))

pub draft_number-scaled-requires-clause-good : goal.draft_number-scaled-requires-clause-good
draft_number-scaled-requires-clause-good t c =
    let i = of_scale c.requires.3 (c.in-Scale.ensures.value no_entry) in
    (_, (c.in_ok-x-in-Scale.ensures _ _ _ i.first).2)

pub draft_number-returns-in_ok-x-in-Scale : goal.draft_number-returns-in_ok-x-in-Scale
draft_number-returns-in_ok-x-in-Scale t c =
    λ n o tr at.
    let i = of_scale at (c.in-Scale.ensures.value no_entry) in
    let e = c.in_ok-x-in-Scale.ensures _ _ _ i.first in
    let x = number_shown (spare c.args.scope.now) c.in_ok-x-in-Scale.x in
    rw (i.is, e.0) (settled (number_rule n) (c.scaled.ensures c.args.scope.now e.2 ∙ ap (λ (z : ℤ). multiple z x) (to_z-of_z w64 c.in-Scale.factor (search rules))), e.1, tt)

pub draft_number-number-requires-in-Clip : goal.draft_number-number-requires-in-Clip
draft_number-number-requires-in-Clip t c =
    let i = of_clip c.requires.3 (c.in-Clip.ensures.value no_entry) in
    (omega (arith, c.decreases), (_, _, i.a, i.first))

pub draft_number-returns-in_err-x-in-Clip : goal.draft_number-returns-in_err-x-in-Clip
draft_number-returns-in_err-x-in-Clip t c =
    let p = err_from_is_err_and c.from_residual-in_err-x-in-Clip.result c.from_residual-in_err-x-in-Clip.ensures.1 in
    rw (p.1, p.2)
    (λ n o tr at.
    let i = of_clip at (c.in-Clip.ensures.value no_entry) in
    rw (i.is, c.in_err-x-in-Clip.ensures _ _ _ i.first))

pub draft_number-returns-in_ok-x-in-Clip : goal.draft_number-returns-in_ok-x-in-Clip
draft_number-returns-in_ok-x-in-Clip t c =
    λ n o tr at.
    let v = c.args.scope.now in
    let i = of_clip at (c.in-Clip.ensures.value no_entry) in
    let lo = c.in-Clip.low in
    let hi = c.in-Clip.high in
    let e = c.in_ok-x-in-Clip.ensures _ _ _ i.first in
    let x = number_shown (spare v) c.in_ok-x-in-Clip.x in
    let line = line_of at.form c.entry_at-line.ensures in
    let value = c.clipped.ensures (spare v) ∙ ap₂ (λ (p q : ℤ). settle (scope_rule c.entry_at-line.result.line (le_z p q)) (cut p q x)) (to_z-of_z w64 lo (search rules)) (to_z-of_z w64 hi (search rules)) ∙ ap (λ (l : ℕ). settle (scope_rule l (le_z lo hi)) (cut lo hi x)) line in
    rw (i.is, e.0)
    (drafted (number_shown (spare v)) (number_rule n) n (le_z lo hi) (cut lo hi x) c.args.notes.now (o + 1) _ c.clipped.result _ value e.1)

pub draft_number-number-requires-in-Let : goal.draft_number-number-requires-in-Let
draft_number-number-requires-in-Let t c =
    let i = of_let c.requires.3 (c.in-Let.ensures.value no_entry) in
    (omega (arith, c.decreases), (_, _, i.a, i.first))

pub draft_number-returns-in_err-x-in-Let : goal.draft_number-returns-in_err-x-in-Let
draft_number-returns-in_err-x-in-Let t c =
    let p = err_from_is_err_and c.from_residual-in_err-x-in-Let.result c.from_residual-in_err-x-in-Let.ensures.1 in
    rw (p.1, p.2)
    (λ n o tr at.
    let i = of_let at (c.in-Let.ensures.value no_entry) in
    rw (i.is, c.in_err-x-in-Let.ensures _ _ _ i.first))

pub draft_number-number-requires-in-Let-2 : goal.draft_number-number-requires-in-Let-2
draft_number-number-requires-in-Let-2 t c =
    let i = of_let c.requires.3 (c.in-Let.ensures.value no_entry) in
    let second = inside i c.with-inner.result c.with-inner.ensures.spare in
    (omega (arith, c.decreases), (_, _, i.b, second))

pub draft_number-returns-in_err-y-in-Let : goal.draft_number-returns-in_err-y-in-Let
draft_number-returns-in_err-y-in-Let t c =
    let p = err_from_is_err_and c.from_residual-in_err-y-in-Let.result c.from_residual-in_err-y-in-Let.ensures.1 in
    rw (p.1, p.2)
    (λ n o tr at.
    let i = of_let at (c.in-Let.ensures.value no_entry) in
    let second = inside i c.with-inner.result c.with-inner.ensures.spare in
    rw (i.is, (c.in_ok-x-in-Let.ensures _ _ _ i.first).0, ← c.with-inner.ensures.items, c.in_err-y-in-Let.ensures _ _ _ second))

pub draft_number-named-requires-clause-bound : goal.draft_number-named-requires-clause-bound
draft_number-named-requires-clause-bound t c =
    let i = of_let c.requires.3 (c.in-Let.ensures.value no_entry) in
    (c.in_ok-x-in-Let.ensures _ _ _ i.first).2

pub draft_number-named-requires-clause-body : goal.draft_number-named-requires-clause-body
draft_number-named-requires-clause-body t c =
    let i = of_let c.requires.3 (c.in-Let.ensures.value no_entry) in
    let inner : spare c.with-inner.result ≡ spare c.args.scope.now - 1 = omega (arith, c.with-inner.ensures.spare) in
    subst (λ (j : ℕ). NumberGood j c.in_ok-y-in-Let.y) inner (c.in_ok-y-in-Let.ensures _ _ _ (inside i c.with-inner.result c.with-inner.ensures.spare)).2

pub draft_number-returns-in_ok-y-in-Let : goal.draft_number-returns-in_ok-y-in-Let
draft_number-returns-in_ok-y-in-Let t c =
    λ n o tr at.
    let i = of_let at (c.in-Let.ensures.value no_entry) in
    let second = inside i c.with-inner.result c.with-inner.ensures.spare in
    let inner : spare c.with-inner.result ≡ spare c.args.scope.now - 1 = omega (arith, c.with-inner.ensures.spare) in
    let x = c.in_ok-x-in-Let.ensures _ _ _ i.first in
    let y = c.in_ok-y-in-Let.ensures _ _ _ second in
    let body = y.0 ∙ ap (λ (j : ℕ). Ok (number_shown j c.in_ok-y-in-Let.y)) inner in
    rw (i.is, x.0, ← c.with-inner.ensures.items, body)
    (settled (number_rule n) c.named.ensures, noted_both c.args.notes.now (o + 1) _ _ _ _ _ x.1 y.1 (number_count i.a _ _ _) (omega (arith, i.first.form.room)), tt)
