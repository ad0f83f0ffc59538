use Rattle.std.proofs.Common.{◌≡◌, true, List, [], ◌∷◌, ℤ, pos, sym, refl, ◌∙◌, subst, arith, w64}
use Rattle.forms.proofs.Plain.{all_plain, none_totalled}
use Rattle.forms.specs.Calm.{CalmNumber, inputs}
use Rattle.forms.specs.Table.{part_at, parts, parts_from}
use Rattle.forms.specs.Table.Part.{a_number}
use Rattle.forms.specs.Totals.{Ready}
use Rattle.forms.specs.declared.form.Entry.{Entry}
use Rattle.std.proofs.lemmas.Int.{to_z-of_z}
use Rattle.walkthrough.specs.Queries.{margin}
use Rattle.walkthrough.proofs.query.margin_at_1180.Goals as goal

abbrev settings : List ℤ
settings = pos 1180 ∷ pos 5 ∷ []

-- a table without totals that spells the margin is ready to be evaluated
ready : (es : List Entry) (totals vars : List ℤ) → part_at es 3 ≡ a_number margin → vars ≡ [] → all_plain (parts es) ≡ true → Ready es 3 totals settings vars [] margin
ready es totals vars is empty plain =
    let calm : CalmNumber margin (inputs [] settings) [] = (omega arith, ((0, refl, omega arith), omega arith), omega arith) in
    record {
      is = is;
      calm = subst (CalmNumber margin (inputs [] settings)) (sym empty) calm;
      right = λ q n lt e k. absurd (none_totalled es q n e k plain);
    }

pub number-requires : goal.number-requires
number-requires c =
    record {
      spare = omega (arith, c.new.ensures.spare);
      ready = ([], margin, ready _ _ _ (unfold part_at parts parts_from in refl) c.new.ensures.items (unfold parts parts_from in refl));
    }

pub returns : goal.returns
returns c =
    to_z-of_z w64 c.number.result (record { sfits = c.number.type_inv })
    ∙ c.number.ensures [] margin (ready _ _ _ (unfold part_at parts parts_from in refl) c.new.ensures.items (unfold parts parts_from in refl))
