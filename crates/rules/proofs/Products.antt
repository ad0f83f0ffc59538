-- Products of signed numbers that fit 64 bits, and the ends of bounded ranges.
use Rattle.std.proofs.Common.{◌≡◌, ℕ, ◌*◌, ◌^◌, ◌<◌, ◌≤◌, true, leb, ℤ, ◌*ℤ◌, nat_abs, ◌∙◌, ap₂, arith, w64, to_z, of_z}
use Rattle.std.proofs.lemmas.Int.{fits_signed_mul, to_z-of_z}
use Rattle.std.proofs.lemmas.Bool.{and_parts, leb-true}
use Rattle.sources.specs.declared.shapes.Range.{Range}
use Rattle.rules.specs.Ranges.{bounded}

-- the product of what two numbers are read from
pub product_kept : (u v x y : ℤ) → u ≡ x → v ≡ y → nat_abs x * nat_abs y < 2 ^ 63 → to_z w64 (of_z w64 (u *ℤ v)) ≡ x *ℤ y
product_kept u v x y e f h =
    ap₂ (λ (a b : ℤ). to_z w64 (of_z w64 (a *ℤ b))) e f ∙ to_z-of_z w64 (x *ℤ y) (fits_signed_mul w64 x y (nat_abs x) (nat_abs y) (omega arith) (omega arith) h)

pub ends_near : (n : ℕ) (a : Range) → bounded n a ≡ true → (nat_abs a.low ≤ n) × (nat_abs a.high ≤ n)
ends_near n a e =
    let p = and_parts (leb (nat_abs a.low) n) (leb (nat_abs a.high) n) e in
    (leb-true (nat_abs a.low) n p.0, leb-true (nat_abs a.high) n p.1)
