use Rattle.std.proofs.Common.{[], ◌∷◌, pos, sym, refl, subst, arith}
use Rattle.trees.specs.Tree.Tree.{add, let_in, num, setting, sub, var}
use Rattle.forms.specs.Calm.{CalmNumber, inputs}
use Rattle.forms.specs.Table.{NumberTree, part_at, parts, parts_from}
use Rattle.forms.proofs.Plain.{none_totalled}
use Rattle.forms.proofs.tests.lets_nest.Goals as goal

abbrev tree : NumberTree
tree = let_in (num (pos 10)) (let_in (sub (var (pos 0)) (setting (pos 1))) (add (var (pos 1)) (var (pos 0))))

calm : CalmNumber tree (inputs [] (pos 1 ∷ pos 4 ∷ [])) []
calm = (omega arith, ((omega arith, ((0, refl, omega arith), omega arith), ((1, refl, omega arith), omega arith)), (omega arith, ((1, refl, omega arith), omega arith), ((0, refl, omega arith), omega arith))))

pub number-requires-clause-ready : goal.number-requires-clause-ready
number-requires-clause-ready g c = (
  [],
  tree,
  record {
    is = unfold part_at parts parts_from in refl;
    calm = subst (λ vars. CalmNumber tree (inputs [] (pos 1 ∷ pos 4 ∷ [])) vars) (sym c.new.ensures.items) calm;
    right = λ q n lt e k. absurd (none_totalled _ q n e k (unfold parts parts_from in refl));
  },
)
