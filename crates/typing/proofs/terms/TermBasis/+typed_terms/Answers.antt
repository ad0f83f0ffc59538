-- Each arm takes the form apart, and joins what the calls on its parts ensure.
use Rattle.std.proofs.Common.{◌≡◌, ℕ, ◌+◌, [], ◌∷◌, length, drop, ℤ, None, Ok, Option, Result, sym, refl, ap, ◌∙◌, ap₂, arith, w64, rules}
use Rattle.refusals.specs.declared.Refusal.{Refusal}
use Rattle.sources.specs.Shapes.{column}
use Rattle.std.proofs.lemmas.Result.{err_from_is_err_and}
use Rattle.std.proofs.lemmas.Int.{to_z-of_z}
use Rattle.forms.specs.Lined.{no_entry}
use Rattle.rules.specs.Ranges.{point}
use Rattle.rules.specs.Typing.{index, place, scope_rule, settle, term_rule, term_typed}
use Rattle.trees.specs.Tree.Tree.{col, lit}
use Rattle.sources.specs.declared.shapes.Range.{Range}
use Rattle.typing.specs.Notes.{condition_note, condition_notes, noted, term_note, term_notes}
use Rattle.typing.proofs.Lengths.{condition_count, term_count}
use Rattle.typing.proofs.Noting.{noted_both, noted_none, noted_whole}
use Rattle.typing.proofs.Replies.{drafted}
use Rattle.typing.proofs.Splits.{line_of, order_of, within}
use Rattle.typing.proofs.Stages.{pair_stopped, pair_went, settled}
use Rattle.typing.proofs.TermSteps.{behind, condition_own, condition_some, only, settled_within, term_own, term_some, terms_two, wider}
use Rattle.typing.proofs.Words.{of_either, of_equal, of_leaf, of_less, of_not, of_pick, of_plus, of_times}
use Rattle.typing.proofs.terms.TermBasis.+typed_terms.Goals as goal

pub term-entry_at-entry-requires : goal.term-entry_at-entry-requires
term-entry_at-entry-requires t c = within c.requires.3

pub term-returns-in_err-settle_term : goal.term-returns-in_err-settle_term
term-returns-in_err-settle_term t c =
    let p = err_from_is_err_and c.from_residual-in_err-settle_term.result c.from_residual-in_err-settle_term.ensures.1 in
    rw (p.1, p.2)
    (λ n o tr at.
    let x = c.in_ok-range.range in
    let line = line_of at c.entry_at-entry.ensures in
    (c.in_ok-range.ensures n o tr at).0 ∙ ap (λ (r : Option Refusal). settle r x) (sym (c.in_err-settle_term.ensures ∙ ap (λ (i : ℕ). term_rule i x) line)))

pub term-offset_bounds-notes-entry : goal.term-offset_bounds-notes-entry
term-offset_bounds-notes-entry t c =
    let k = c.requires.3 in
    omega (arith, k.room, order_of k c.entry_at-entry.ensures)

pub term-bounds-notes-entry : goal.term-bounds-notes-entry
term-bounds-notes-entry t c =
    let k = c.requires.3 in
    omega (arith, term_some c.requires.2, k.room, order_of k c.entry_at-entry.ensures)

pub term-returns : goal.term-returns
term-returns t c =
    λ n o tr at.
    let cs = c.args.self.now.columns.now in
    let x = c.in_ok-range.range in
    let d = c.in_ok-range.ensures n o tr at in
    let none : None ≡ term_rule n x = c.in_ok-settle_term.ensures ∙ ap (λ (i : ℕ). term_rule i x) (line_of at c.entry_at-entry.ensures) in
    let ok : term_typed n cs tr ≡ Ok x = d.0 ∙ ap (λ (r : Option Refusal). settle r x) (sym none) in
    let own : term_notes n cs tr ≡ term_note x ∷ drop 1 (term_notes n cs tr) = term_own tr n cs ∙ ap (λ (r : Result Range Refusal). noted term_note r ∷ drop 1 (term_notes n cs tr)) ok in
    (ok, noted_whole c.args.notes.now o (term_note x) (term_notes n cs tr) _ (omega (arith, term_some tr, at.room)) own d.1 _ _ (order_of at c.entry_at-entry.ensures) c.of_term.ensures, settled_within n x none)

pub two_terms-returns : goal.two_terms-returns
two_terms-returns t c =
    λ n o a b at bt.
    let x = c.in_ok-x.ensures n o a at in
    let y = c.in_ok-y.ensures _ _ b bt in
    (terms_two n _ a b _ _ x.0 y.0, noted_both c.args.notes.now o _ _ _ _ _ x.1 y.1 (term_count a _ _) (omega (arith, at.room)), (x.2, y.2))

pub draft_term-form_at-requires : goal.draft_term-form_at-requires
draft_term-form_at-requires t c = within c.requires.3

pub draft_term-returns-in-Col : goal.draft_term-returns-in-Col
draft_term-returns-in-Col t c =
    λ n o tr at.
    let cs = c.args.self.now.columns.now in
    let j = c.in-Col.column in
    let is = of_leaf at (col j) c.in-Col.ensures.stands in
    let line = line_of at c.entry_at.ensures in
    rw is
    (drafted (λ x. x) (term_rule n) n (place (length cs) j) (column cs (index j)) c.args.notes.now (o + 1) [] c.column_range.result c.args.notes.now
    (c.column_range.ensures ∙ ap₂ (λ (i : ℕ) (z : ℤ). settle (scope_rule i (place (length cs) z)) (column cs (index z))) line (to_z-of_z w64 j (search rules)))
    (sym (noted_none c.args.notes.now (o + 1))))

pub draft_term-returns-in-Lit : goal.draft_term-returns-in-Lit
draft_term-returns-in-Lit t c =
    λ n o tr at.
    let is = of_leaf at (lit c.in-Lit.value) c.in-Lit.ensures.stands in
    rw is (ap (λ (w : Range). settle (term_rule n w) w) (sym (c.point.ensures ∙ ap point (to_z-of_z w64 c.in-Lit.value (search rules)))), sym (noted_none c.args.notes.now (o + 1)), tt)

pub draft_term-two_terms-requires : goal.draft_term-two_terms-requires
draft_term-two_terms-requires t c =
    let i = of_plus c.requires.3 (c.in-Plus.ensures.value no_entry) in
    (omega (arith, c.decreases), (_, _, i.a, i.b, i.first, i.second))

pub draft_term-returns-in_err-x-in-Plus : goal.draft_term-returns-in_err-x-in-Plus
draft_term-returns-in_err-x-in-Plus t c =
    let p = err_from_is_err_and c.from_residual.result c.from_residual.ensures.1 in
    rw (p.1, p.2)
    (λ n o tr at.
    let i = of_plus at (c.in-Plus.ensures.value no_entry) in
    rw i.is (pair_stopped _ _ _ _ (c.in_err-x-in-Plus.ensures _ _ _ _ i.first i.second)))

pub draft_term-sums-requires : goal.draft_term-sums-requires
draft_term-sums-requires t c =
    let i = of_plus c.requires.3 (c.in-Plus.ensures.value no_entry) in
    let e = c.in_ok-x-in-Plus.ensures _ _ _ _ i.first i.second in
    record { first = wider c.in_ok-x-in-Plus.x e.2.0; second = wider c.in_ok-x-in-Plus.y e.2.1 }

pub draft_term-returns-in_ok-x-in-Plus : goal.draft_term-returns-in_ok-x-in-Plus
draft_term-returns-in_ok-x-in-Plus t c =
    λ n o tr at.
    let i = of_plus at (c.in-Plus.ensures.value no_entry) in
    let e = c.in_ok-x-in-Plus.ensures _ _ _ _ i.first i.second in
    rw i.is (pair_went _ _ _ _ e.0 ∙ settled (term_rule n) c.sums.ensures, e.1, tt)

pub draft_term-two_terms-requires-in-Times : goal.draft_term-two_terms-requires-in-Times
draft_term-two_terms-requires-in-Times t c =
    let i = of_times c.requires.3 (c.in-Times.ensures.value no_entry) in
    (omega (arith, c.decreases), (_, _, i.a, i.b, i.first, i.second))

pub draft_term-returns-in_err-x-in-Times : goal.draft_term-returns-in_err-x-in-Times
draft_term-returns-in_err-x-in-Times t c =
    let p = err_from_is_err_and c.from_residual-in_err-x-in-Times.result c.from_residual-in_err-x-in-Times.ensures.1 in
    rw (p.1, p.2)
    (λ n o tr at.
    let i = of_times at (c.in-Times.ensures.value no_entry) in
    rw i.is (pair_stopped _ _ _ _ (c.in_err-x-in-Times.ensures _ _ _ _ i.first i.second)))

pub draft_term-products-requires : goal.draft_term-products-requires
draft_term-products-requires t c =
    let i = of_times c.requires.3 (c.in-Times.ensures.value no_entry) in
    let e = c.in_ok-x-in-Times.ensures _ _ _ _ i.first i.second in
    record { first = e.2.0; second = e.2.1 }

pub draft_term-returns-in_ok-x-in-Times : goal.draft_term-returns-in_ok-x-in-Times
draft_term-returns-in_ok-x-in-Times t c =
    λ n o tr at.
    let i = of_times at (c.in-Times.ensures.value no_entry) in
    let e = c.in_ok-x-in-Times.ensures _ _ _ _ i.first i.second in
    rw i.is (pair_went _ _ _ _ e.0 ∙ settled (term_rule n) c.products.ensures, e.1, tt)

pub draft_term-condition-requires : goal.draft_term-condition-requires
draft_term-condition-requires t c =
    let i = of_pick c.requires.3 (c.in-Pick.ensures.value no_entry) in
    (omega (arith, c.decreases), (_, _, i.a, i.first))

pub draft_term-returns-in_err-condition-in-Pick : goal.draft_term-returns-in_err-condition-in-Pick
draft_term-returns-in_err-condition-in-Pick t c =
    let p = err_from_is_err_and c.from_residual-in_err-condition-in-Pick.result c.from_residual-in_err-condition-in-Pick.ensures.1 in
    rw (p.1, p.2)
    (λ n o tr at.
    let i = of_pick at (c.in-Pick.ensures.value no_entry) in
    rw (i.is, c.in_err-condition-in-Pick.ensures _ _ _ i.first))

pub draft_term-two_terms-requires-in-Pick : goal.draft_term-two_terms-requires-in-Pick
draft_term-two_terms-requires-in-Pick t c =
    let i = of_pick c.requires.3 (c.in-Pick.ensures.value no_entry) in
    (omega (arith, c.decreases), (_, _, i.b, i.c, i.second, i.third))

pub draft_term-returns-in_err-x-in-Pick : goal.draft_term-returns-in_err-x-in-Pick
draft_term-returns-in_err-x-in-Pick t c =
    let p = err_from_is_err_and c.from_residual-in_err-x-in-Pick.result c.from_residual-in_err-x-in-Pick.ensures.1 in
    rw (p.1, p.2)
    (λ n o tr at.
    let i = of_pick at (c.in-Pick.ensures.value no_entry) in
    rw (i.is, (c.in_ok-condition-in-Pick.ensures _ _ _ i.first).0) (pair_stopped _ _ _ _ (c.in_err-x-in-Pick.ensures _ _ _ _ i.second i.third)))

pub draft_term-returns-in_ok-x-in-Pick : goal.draft_term-returns-in_ok-x-in-Pick
draft_term-returns-in_ok-x-in-Pick t c =
    λ n o tr at.
    let i = of_pick at (c.in-Pick.ensures.value no_entry) in
    let d = c.in_ok-condition-in-Pick.ensures _ _ _ i.first in
    let e = c.in_ok-x-in-Pick.ensures _ _ _ _ i.second i.third in
    rw (i.is, d.0)
    (pair_went _ _ _ _ e.0 ∙ settled (term_rule n) c.hull.ensures, noted_both c.args.notes.now (o + 1) _ _ _ _ _ d.1 e.1 (condition_count i.a _ _) (omega (arith, i.first.room)), tt)

pub condition-entry_at-entry-requires : goal.condition-entry_at-entry-requires
condition-entry_at-entry-requires t c = within c.requires.3

pub condition-offset_bounds-notes-entry : goal.condition-offset_bounds-notes-entry
condition-offset_bounds-notes-entry t c =
    let k = c.requires.3 in
    omega (arith, k.room, order_of k c.entry_at-entry.ensures)

pub condition-bounds-notes-entry : goal.condition-bounds-notes-entry
condition-bounds-notes-entry t c =
    let k = c.requires.3 in
    omega (arith, condition_some c.requires.2, k.room, order_of k c.entry_at-entry.ensures)

pub condition-returns : goal.condition-returns
condition-returns t c =
    λ n o tr at.
    let cs = c.args.self.now.columns.now in
    let d = c.in_ok-condition_parts.ensures n o tr at in
    (d.0, noted_whole c.args.notes.now o condition_note (condition_notes n cs tr) _ (omega (arith, condition_some tr, at.room)) (condition_own tr n cs) d.1 _ _ (order_of at c.entry_at-entry.ensures) refl, tt)

pub condition_parts-form_at-requires : goal.condition_parts-form_at-requires
condition_parts-form_at-requires t c = within c.requires.3

pub condition_parts-two_terms-requires : goal.condition_parts-two_terms-requires
condition_parts-two_terms-requires t c =
    let i = of_less c.requires.3 (c.in-Less.ensures.value no_entry) in
    (omega (arith, c.decreases), (_, _, i.a, i.b, i.first, i.second))

pub condition_parts-returns-in_err-two_terms-in-Less : goal.condition_parts-returns-in_err-two_terms-in-Less
condition_parts-returns-in_err-two_terms-in-Less t c =
    let p = err_from_is_err_and c.from_residual.result c.from_residual.ensures.1 in
    rw (p.1, p.2)
    (λ n o tr at.
    let i = of_less at (c.in-Less.ensures.value no_entry) in
    rw i.is (pair_stopped _ _ _ _ (c.in_err-two_terms-in-Less.ensures _ _ _ _ i.first i.second)))

pub condition_parts-returns-in_ok-two_terms-in-Less : goal.condition_parts-returns-in_ok-two_terms-in-Less
condition_parts-returns-in_ok-two_terms-in-Less t c =
    λ n o tr at.
    let i = of_less at (c.in-Less.ensures.value no_entry) in
    let e = c.in_ok-two_terms-in-Less.ensures _ _ _ _ i.first i.second in
    rw i.is (pair_went _ _ _ _ e.0, e.1, tt)

pub condition_parts-two_terms-requires-in-Equal : goal.condition_parts-two_terms-requires-in-Equal
condition_parts-two_terms-requires-in-Equal t c =
    let i = of_equal c.requires.3 (c.in-Equal.ensures.value no_entry) in
    (omega (arith, c.decreases), (_, _, i.a, i.b, i.first, i.second))

pub condition_parts-returns-in_err-two_terms-in-Equal : goal.condition_parts-returns-in_err-two_terms-in-Equal
condition_parts-returns-in_err-two_terms-in-Equal t c =
    let p = err_from_is_err_and c.from_residual-in_err-two_terms-in-Equal.result c.from_residual-in_err-two_terms-in-Equal.ensures.1 in
    rw (p.1, p.2)
    (λ n o tr at.
    let i = of_equal at (c.in-Equal.ensures.value no_entry) in
    rw i.is (pair_stopped _ _ _ _ (c.in_err-two_terms-in-Equal.ensures _ _ _ _ i.first i.second)))

pub condition_parts-returns-in_ok-two_terms-in-Equal : goal.condition_parts-returns-in_ok-two_terms-in-Equal
condition_parts-returns-in_ok-two_terms-in-Equal t c =
    λ n o tr at.
    let i = of_equal at (c.in-Equal.ensures.value no_entry) in
    let e = c.in_ok-two_terms-in-Equal.ensures _ _ _ _ i.first i.second in
    rw i.is (pair_went _ _ _ _ e.0, e.1, tt)

pub condition_parts-condition-requires : goal.condition_parts-condition-requires
condition_parts-condition-requires t c =
    let i = of_either c.requires.3 (c.in-Either.ensures.value no_entry) in
    (omega (arith, c.decreases), (_, _, i.a, i.first))

pub condition_parts-returns-in_err-condition-in-Either : goal.condition_parts-returns-in_err-condition-in-Either
condition_parts-returns-in_err-condition-in-Either t c =
    let p = err_from_is_err_and c.from_residual-in_err-condition-in-Either.result c.from_residual-in_err-condition-in-Either.ensures.1 in
    rw (p.1, p.2)
    (λ n o tr at.
    let i = of_either at (c.in-Either.ensures.value no_entry) in
    rw (i.is, c.in_err-condition-in-Either.ensures _ _ _ i.first))

pub condition_parts-condition-requires-in-Either : goal.condition_parts-condition-requires-in-Either
condition_parts-condition-requires-in-Either t c =
    let i = of_either c.requires.3 (c.in-Either.ensures.value no_entry) in
    (omega (arith, c.decreases), (_, _, i.b, i.second))

pub condition_parts-returns-in_ok-condition-in-Either : goal.condition_parts-returns-in_ok-condition-in-Either
condition_parts-returns-in_ok-condition-in-Either t c =
    λ n o tr at.
    let i = of_either at (c.in-Either.ensures.value no_entry) in
    let d = c.in_ok-condition-in-Either.ensures _ _ _ i.first in
    rw (i.is, d.0)
    (behind c.args.notes.now (o + 1) _ _ _ _ d.1 (condition_count i.a _ _) (omega (arith, i.first.room)) _ (only _) c.condition-in-Either.result _ (c.condition-in-Either.ensures _ _ _ i.second))

pub condition_parts-condition-requires-in-Not : goal.condition_parts-condition-requires-in-Not
condition_parts-condition-requires-in-Not t c =
    let i = of_not c.requires.3 (c.in-Not.ensures.value no_entry) in
    (omega (arith, c.decreases), (_, _, i.a, i.first))

pub condition_parts-returns-in-Not : goal.condition_parts-returns-in-Not
condition_parts-returns-in-Not t c =
    λ n o tr at.
    let i = of_not at (c.in-Not.ensures.value no_entry) in
    rw i.is (c.condition-in-Not.ensures _ _ _ i.first)
