-- What is known of each number that is typed.
use Rattle.std.proofs.Common.{◌≡◌, ℕ, ◌<◌, ◌&&◌, List, [], ◌∷◌, length, drop, is_some, None, Ok, sym, refl, ap, arith}
use Rattle.refusals.specs.Rules.{or_else_none, refusal, unless, unless_none}
use Rattle.sources.specs.declared.shapes.Range.{Range}
use Rattle.std.proofs.lemmas.Bool.{and_parts}
use Rattle.forms.specs.Limits.{number_bound}
use Rattle.forms.specs.Lined.{past}
use Rattle.forms.specs.Table.{NumberTree}
use Rattle.trees.specs.Size.{size}
use Rattle.trees.specs.Tree.Tree.{num, setting, var, count, sum, add, sub, least, most, scale, clip, let_in}
use Rattle.rules.specs.Amounts.{all_at_most, at_most}
use Rattle.rules.specs.Ranges.{bounded}
use Rattle.rules.specs.Typing.{NumberType, number_rule, number_typed, sensitivity_bound}
use Rattle.rules.specs.declared.catalogue.Catalogue.{Catalogue}
use Rattle.types.specs.Shown.{NumberGood, number_shown}
use Rattle.types.specs.declared.number.TypedNumber.{TypedNumber}
use Rattle.typing.specs.Notes.{noted, number_notes, of_number}
use Rattle.typing.specs.Numbers.{numbers_typed}
use Rattle.typing.proofs.Lengths.{number_count}

pub numbers_two : (n : ℕ) (c : Catalogue) (rs : List Range) (a b : NumberTree) (x y : NumberType) → number_typed n c rs a ≡ Ok x → number_typed (past n a) c rs b ≡ Ok y → numbers_typed n c rs a b ≡ Ok (x, y)
numbers_two n c rs a b x y e f = rw (e, f)

-- the first note of a number is its own
pub number_own : (t : NumberTree) (n : ℕ) (c : Catalogue) (rs : List Range) → number_notes n c rs t ≡ noted of_number (number_typed n c rs t) ∷ drop 1 (number_notes n c rs t)
number_own (num v) n c rs = refl
number_own (setting k) n c rs = refl
number_own (var i) n c rs = refl
number_own (count b) n c rs = refl
number_own (sum lo hi b t) n c rs = refl
number_own (add a b) n c rs = refl
number_own (sub a b) n c rs = refl
number_own (least a b) n c rs = refl
number_own (most a b) n c rs = refl
number_own (scale v a) n c rs = refl
number_own (clip lo hi a) n c rs = refl
number_own (let_in a b) n c rs = refl

-- there is at least one form
pub number_some : (t : NumberTree) (c : Catalogue) → 0 < size t
number_some t c = omega (arith, number_count t 0 c [], ap length (number_own t 0 c []))

-- a settled number is within its bounds
pub settled_good : (n first : ℕ) (x : TypedNumber) → None ≡ number_rule n (number_shown first x) → NumberGood first x
settled_good n first x e =
    let vs = drop first x.vars.values in
    let p = or_else_none (unless (bounded number_bound x.range) (refusal 12 n 0)) (unless (at_most sensitivity_bound x.inputs && all_at_most sensitivity_bound vs) (refusal 13 n 0)) (ap is_some (sym e)) in
    let q = and_parts (at_most sensitivity_bound x.inputs) (all_at_most sensitivity_bound vs) (unless_none (at_most sensitivity_bound x.inputs && all_at_most sensitivity_bound vs) (refusal 13 n 0) p.1) in
    record { range = unless_none (bounded number_bound x.range) (refusal 12 n 0) p.0; inputs = q.0; vars = q.1 }
