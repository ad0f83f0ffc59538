-- A cell of a line in 64-bit words: nothing wraps.
use Rattle.std.proofs.Common.{◌≡◌, ℕ, suc, ◌-◌, ◌*◌, ◌^◌, ◌<◌, ◌≤◌, true, ℤ, pos, negsuc, ◌+ℤ◌, ◌*ℤ◌, nat_abs, ap, ◌∙◌, arith, w64, SFits, to_z, of_z}
use borrow.Author.Differences.{fits_in}
use lib.Signed.{mag}
use Rattle.std.proofs.lemmas.Nat.{mul-le}
use Rattle.std.proofs.lemmas.Int.{ints, to_z-of_z, to_z_pos}
use Rattle.std.proofs.lemmas.Bool.{leb-true}
use Rattle.std.specs.Int.{int_max, int_min}
use Rattle.sources.specs.Ends.{range_by_ends}
use Rattle.sources.specs.Lines.{cell_at, range_of}
use Rattle.sources.specs.Shapes.{column_bound, max_rows, near, range}
use Rattle.sources.specs.declared.ramps.Line.{Line}

product_within : (t : ℤ) (i b r : ℕ) → nat_abs t ≤ b → i ≤ r → nat_abs (t *ℤ pos i) ≤ b * r
product_within (pos a) i b r h k = mul-le a i b r h k
product_within (negsuc a) i b r h k = omega (arith, ints, mul-le (suc a) i b r h k)

fits_word : (z : ℤ) → nat_abs z < 2 ^ 63 → SFits w64 z
fits_word z h = fits_in w64 z (omega (arith, ints))

-- a signed word comes back from its bits
pub back : (z : ℤ) → mag z < 2 ^ 63 → to_z w64 (of_z w64 z) ≡ z
back z h = to_z-of_z w64 z (record { sfits = h })

module _ (s t : ℤ) (i : ℕ) (s_near : near s ≡ true) (t_near : near t ≡ true) (i_small : i ≤ max_rows) where
  s_within : nat_abs s ≤ column_bound
  s_within = leb-true (nat_abs s) column_bound s_near

  t_within : nat_abs t ≤ column_bound
  t_within = leb-true (nat_abs t) column_bound t_near

  steps_within : nat_abs (t *ℤ pos i) ≤ column_bound * max_rows
  steps_within = product_within t i column_bound max_rows t_within i_small

  steps : to_z w64 (of_z w64 t) *ℤ to_z w64 i ≡ t *ℤ pos i
  steps = ap (λ z. z *ℤ to_z w64 i) (to_z-of_z w64 t (fits_word t (omega (arith, t_within)))) ∙ ap (λ z. t *ℤ z) (to_z_pos w64 i (omega arith))

  pub steps_fit : SFits w64 (to_z w64 (of_z w64 t) *ℤ to_z w64 i)
  steps_fit = rw steps (fits_word (t *ℤ pos i) (omega (arith, steps_within)))

  sum : to_z w64 (of_z w64 s) +ℤ to_z w64 (of_z w64 (to_z w64 (of_z w64 t) *ℤ to_z w64 i)) ≡ s +ℤ (t *ℤ pos i)
  sum = ap (λ z. z +ℤ to_z w64 (of_z w64 (to_z w64 (of_z w64 t) *ℤ to_z w64 i))) (to_z-of_z w64 s (fits_word s (omega (arith, s_within)))) ∙ ap (λ z. s +ℤ z) (to_z-of_z w64 (to_z w64 (of_z w64 t) *ℤ to_z w64 i) steps_fit ∙ steps)

  sum_within : nat_abs (s +ℤ (t *ℤ pos i)) < 2 ^ 63
  sum_within = omega (arith, ints, s_within, steps_within)

  pub cell_fits : SFits w64 (to_z w64 (of_z w64 s) +ℤ to_z w64 (of_z w64 (to_z w64 (of_z w64 t) *ℤ to_z w64 i)))
  cell_fits = rw sum (fits_word (s +ℤ (t *ℤ pos i)) sum_within)

  pub cell_is : to_z w64 (of_z w64 (to_z w64 (of_z w64 s) +ℤ to_z w64 (of_z w64 (to_z w64 (of_z w64 t) *ℤ to_z w64 i)))) ≡ s +ℤ (t *ℤ pos i)
  cell_is = to_z-of_z w64 (to_z w64 (of_z w64 s) +ℤ to_z w64 (of_z w64 (to_z w64 (of_z w64 t) *ℤ to_z w64 i))) cell_fits ∙ sum

-- the range of a line, from the least and the greatest of its ends
pub range_is : (l : Line) (n m : ℕ) (last low high : ℤ) → near l.start ≡ true → mag last < 2 ^ 63 → mag low < 2 ^ 63 → mag high < 2 ^ 63 → m ≡ n - 1 → last ≡ cell_at l m → low ≡ int_min (to_z w64 (of_z w64 l.start)) (to_z w64 (of_z w64 last)) → high ≡ int_max (to_z w64 (of_z w64 l.start)) (to_z w64 (of_z w64 last)) → range (to_z w64 (of_z w64 low)) (to_z w64 (of_z w64 high)) ≡ range_of l n
range_is l n m last low high near_start last_Fits low_fits high_fits same last-is low-is high_is =
    let start = to_z-of_z w64 l.start (fits_word l.start (omega (arith, leb-true (nat_abs l.start) column_bound near_start))) in
    cc (back last last_Fits, back low low_fits, back high high_fits, range_by_ends l n)
