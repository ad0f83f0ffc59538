-- Four amounts, one for each input, and how they are added and multiplied.
use Rattle.std.specs.Prelude.{ℕ, ◌+◌, ◌*◌, Bool, cond, ◌&&◌, List, [], ◌∷◌, ◌++◌, codes, map, ◌==◌, nat_le, slice_index}
use Rattle.std.specs.Fmt.{decimal}
use Rattle.std.specs.List.{list_all}
use Rattle.rules.specs.declared.amounts.Amounts.{Amounts}

abbrev pub amounts : (a b c d : ℕ) → Amounts
amounts a b c d = record { source_0 = a; source_1 = b; setting_0 = c; setting_1 = d }

-- the amount at input i
abbrev pub amount_at : Amounts → ℕ → ℕ
amount_at a i = slice_index (a.source_0 ∷ a.source_1 ∷ a.setting_0 ∷ a.setting_1 ∷ []) i

abbrev pub none : Amounts
none = amounts 0 0 0 0

-- 1 at input i
abbrev pub one_at : ℕ → Amounts
one_at i = amounts (cond (i == 0) 1 0) (cond (i == 1) 1 0) (cond (i == 2) 1 0) (cond (i == 3) 1 0)

-- at each input
abbrev pub each_input : (ℕ → ℕ → ℕ) → Amounts → Amounts → Amounts
each_input f a b = amounts (f a.source_0 b.source_0) (f a.source_1 b.source_1) (f a.setting_0 b.setting_0) (f a.setting_1 b.setting_1)

abbrev pub added : Amounts → Amounts → Amounts
added a b = each_input ◌+◌ a b

abbrev pub times : ℕ → Amounts → Amounts
times n a = amounts (n * a.source_0) (n * a.source_1) (n * a.setting_0) (n * a.setting_1)

-- none is above n
abbrev pub at_most : ℕ → Amounts → Bool
at_most n a = nat_le a.source_0 n && (nat_le a.source_1 n && (nat_le a.setting_0 n && nat_le a.setting_1 n))

-- the same of lists of amounts, one for each variable in scope
abbrev pub all_added : List ℕ → List ℕ → List ℕ
all_added [] ys = []
all_added (x ∷ xs) [] = []
all_added (x ∷ xs) (y ∷ ys) = (x + y) ∷ all_added xs ys

abbrev pub all_times : ℕ → List ℕ → List ℕ
all_times n xs = map (λ x. n * x) xs

abbrev pub all_at_most : ℕ → List ℕ → Bool
all_at_most n xs = list_all (λ x. nat_le x n) xs

-- the four amounts, with a space between: `1 0 0 2`
abbrev pub printed : Amounts → List ℕ
printed a = decimal a.source_0 ++ codes " " ++ decimal a.source_1 ++ codes " " ++ decimal a.setting_0 ++ codes " " ++ decimal a.setting_1
