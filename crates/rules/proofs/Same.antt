-- The truth value says that two ranges are the same.
use Rattle.std.proofs.Common.{◌≡◌, true, ℤ, sym, ap₂, arith}
use borrow.Author.Differences.{le-true, true_is_le}
use lib.Signed.{le_z}
use Rattle.sources.specs.Shapes.{range}
use Rattle.sources.specs.declared.shapes.Range.{Range}
use Rattle.std.proofs.lemmas.Int.{ints}
use Rattle.std.proofs.lemmas.Bool.{and_from, and_parts}
use Rattle.trees.specs.Meaning.{eq_z}
use Rattle.rules.specs.Ranges.{same_range}

ends_tell : (x y : ℤ) → eq_z x y ≡ true → x ≡ y
ends_tell x y e =
    let p = and_parts (le_z x y) (le_z y x) e in
    omega (arith, ints, le-true x y p.0, le-true y x p.1)

end_itself : (x : ℤ) → eq_z x x ≡ true
end_itself x = and_from (le_z x x) (le_z x x) (sym (true_is_le x x (omega arith))) (sym (true_is_le x x (omega arith)))

pub range_tells : (a b : Range) → same_range a b ≡ true → a ≡ b
range_tells a b e =
    let p = and_parts (eq_z a.low b.low) (eq_z a.high b.high) e in
    ap₂ range (ends_tell a.low b.low p.0) (ends_tell a.high b.high p.1)

pub range_itself : (a : Range) → same_range a a ≡ true
range_itself a = and_from (eq_z a.low a.low) (eq_z a.high a.high) (end_itself a.low) (end_itself a.high)
