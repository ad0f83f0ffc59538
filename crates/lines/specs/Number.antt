-- Numbers as a query spells them.
use Rattle.std.specs.Prelude.{◌≡◌, ℕ, ◌+◌, ◌-◌, ◌*◌, ◌≤◌, cond, List, [], ◌∷◌, ℤ, pos, neg_ℤ, Some, None, Option, ◌==◌, nat_le, unsigned_abs}
use Rattle.std.specs.Char.{is_ascii_digit}
use Rattle.std.specs.Fmt.{signed_decimal}
use Rattle.trees.specs.Size.{literal_bound}

-- digits behind a number n, as long as the number stays within the bound
abbrev pub value_from : ℕ → List ℕ → Option ℕ
value_from n [] = Some n
value_from n (c ∷ cs) = cond (is_ascii_digit c) (cond (nat_le (10 * n + (c - 48)) literal_bound) (value_from (10 * n + (c - 48)) cs) None) None

-- digits, of which the first is 0 only where it stands alone
abbrev pub numeral : List ℕ → Option ℕ
numeral [] = None
numeral (c ∷ []) = value_from 0 (c ∷ [])
numeral (c ∷ d ∷ cs) = cond (c == 48) None (value_from 0 (c ∷ d ∷ cs))

abbrev pub positive : Option ℕ → Option ℤ
positive None = None
positive (Some n) = Some (pos n)

-- no number is spelled `-0`
abbrev pub negative : Option ℕ → Option ℤ
negative None = None
negative (Some n) = cond (n == 0) None (Some (neg_ℤ (pos n)))

-- a minus in front, or none
abbrev pub number_spelled : List ℕ → Option ℤ
number_spelled [] = None
number_spelled (c ∷ cs) = cond (c == 45) (negative (numeral cs)) (positive (numeral (c ∷ cs)))

-- r is the number z exactly when bs is z in decimal and z is within the bound
abbrev pub Spells : List ℕ → Option ℤ → Type 0
Spells bs r = (z : ℤ) → (r ≡ Some z → (bs ≡ signed_decimal z) × (unsigned_abs z ≤ literal_bound)) × (bs ≡ signed_decimal z → unsigned_abs z ≤ literal_bound → r ≡ Some z)
