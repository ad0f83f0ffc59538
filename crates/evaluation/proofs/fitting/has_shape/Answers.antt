use Rattle.std.proofs.Common.{◌≡◌, ℕ, ◌<◌, ◌==◌, Bool, true, refl, subst, ◌∙◌, zero-add, arith, rules, tests}
use Rattle.std.proofs.lemmas.Bool.Decides.{same_from_decides}
use Rattle.std.proofs.lemmas.Iterator.{YieldsList-from_range}
use Rattle.std.proofs.lemmas.Iterator.Search.{all_from_yields_List}
use Rattle.std.proofs.lemmas.List.FromFn.{get_or-range_with_len, length-range_with_len}
use Rattle.std.proofs.lemmas.List.Sums.{AllPass-from_list_all, list_all-from_AllPass}
use Rattle.std.specs.List.{list_all, range_with_len}
use Rattle.sources.specs.Indexed.{each, each_at, each_from}
use Rattle.sources.specs.Shapes.{column}
use Rattle.rules.specs.Ranges.{same_range}
use Rattle.evaluation.proofs.fitting.has_shape.Goals as goal

-- a test of each number below n
range_each : (q : ℕ → Bool) (n : ℕ) → list_all q (range_with_len 0 n) ≡ each q n
range_each q n =
    same_from_decides (list_all q (range_with_len 0 n)) (each q n) (
      λ e k h. subst (λ j. q j ≡ true) (get_or-range_with_len 0 n k 0 h ∙ zero-add k) (AllPass-from_list_all q (range_with_len 0 n) e k 0 (rw length-range_with_len h)),
      λ h. list_all-from_AllPass q (range_with_len 0 n) (λ k e l. let below : k < n = rw length-range_with_len at l in rw (get_or-range_with_len 0 n k e below, zero-add) (h k below)),
    )
    (each_at q n, each_from q n)

pub returns-then-limit-shape : goal.returns-then-limit-shape
returns-then-limit-shape g c =
    let s = c.args.shape.now in
    let m = g.S.Source.meaning c.args.source.now in
    let q = λ (j : ℕ). same_range (column m.columns j) (column s.columns j) in
    let wide : (m.width == s.width) ≡ true = search (rules, tests) in
    let long : (m.limit == s.limit) ≡ true = search (rules, tests) in
    let ran : c.all.result ≡ list_all q (range_with_len 0 s.width) = all_from_yields_List q _ _ _ c.all.ensures.ran (YieldsList-from_range 0 s.width s.width refl (omega arith)) (λ x b f k. search (rules, tests)) in
    rw (wide, long) (ran ∙ range_each q s.width)
