use Rattle.std.proofs.Common.{◌≡◌, ℕ, Bool, true, false, cond, eqb, ltb, leb, sym, refl, ap, ◌∙◌, arith}
use Rattle.rules.specs.Amounts.{at_most, one_at}
use Rattle.rules.specs.Catalogue.{source_shape, source_sound}
use Rattle.rules.specs.Typing.{sensitivity_bound}
use Rattle.sources.specs.Shapes.{column, shaped, sized_tells, sound}
use Rattle.std.proofs.lemmas.Bool.{and_from, and_parts, cond-true, lt-ltb}
use Rattle.types.proofs.Inputs.{sound_at}
use Rattle.types.proofs.bag.TypedBag.whole.Goals as goal

small_bit : (b : Bool) → leb (cond b 1 0) sensitivity_bound ≡ true
small_bit true = refl
small_bit false = refl

small_one : (k : ℕ) → at_most sensitivity_bound (one_at k) ≡ true
small_one k = and_from _ _ (small_bit (eqb k 0)) (and_from _ _ (small_bit (eqb k 1)) (and_from _ _ (small_bit (eqb k 2)) (small_bit (eqb k 3))))

pub returns-clause-good : goal.returns-clause-good
returns-clause-good c = λ e.
    let k = c.args.source in
    let s = source_shape c.args.catalogue.now k in
    let sound_source = sym (cond-true (ltb k 2) (source_sound s) _ (lt-ltb k 2 c.requires)) ∙ sound_at c.args.catalogue.now e k (omega (arith, c.requires)) in
    let size = sized_tells s.width s.limit (λ j. sound (column s.columns j)) (and_parts (shaped s) (leb 1 s.limit) sound_source).0 in
    record { narrow = size.few_columns; few = size.few_rows; small = ap (at_most sensitivity_bound) c.one_at.ensures ∙ small_one k }
