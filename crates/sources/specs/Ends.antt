-- The cells of a line lie between its first and its last, so these are the least and the greatest.
use Rattle.std.specs.Prelude.{◌≡◌, ℕ, zero, suc, ◌-◌, ◌<◌, ◌≤◌, Bool, true, false, ◌&&◌, ◌⊎◌, List, length, ℤ, pos, negsuc, ◌+ℤ◌, ◌*ℤ◌, ◌≤ℤ◌, fold, int_le, int_lt, slice_index_or, unsigned_abs, refl}
use Rattle.std.proofs.Common.{⊎_elim, ◌∙◌, sym, ap, subst, mul-le-mul_left, arith}
use borrow.Author.Differences.{le_out, true_is_le}
use Rattle.std.proofs.Math.IntN.{*ℤ-zero, +ℤ_idr}
use Rattle.std.proofs.lemmas.List.FromFn.{length-map-range_with_len}
use Rattle.std.proofs.ByRecursion.{All-get_or, folded_max_z_bounds, folded_max_z_reached, folded_min_z_bounds, folded_min_z_reached}
use Rattle.std.proofs.lemmas.Int.{ints, clamps}
use Rattle.std.proofs.lemmas.Bool.{and_from, and_parts, cases_cond, leb-true, le-leb}
use Rattle.std.specs.Int.{int_max, int_min}
use Rattle.std.specs.List.{ContainsAt as Has}
use Rattle.sources.specs.Indexed.{each, each_at, each_from, each_not, listed, listed_at}
use Rattle.sources.specs.Lines.{cell_at, line, range_of, line_sound, lines_sound, ramp_meaning}
use Rattle.sources.specs.Shapes.{column_bound, near, range, sized_tells, sound, within}
use Rattle.sources.specs.Source.{Lawful}
use Rattle.sources.specs.Tabled.{tabled_lawful}
use Rattle.sources.specs.declared.ramps.Line.{Line}

le_z_true : (a b : ℤ) → a ≤ℤ b → int_le a b ≡ true
le_z_true a b h = sym (true_is_le a b (le_out a b h))

-- element j of the values of f
module _ (f : ℕ → ℤ) (n : ℕ) where
  at_listed : (j : ℕ) → j < length (listed f n) → slice_index_or (listed f n) j (pos 0) ≡ f j
  at_listed j h = listed_at f n j (pos 0) (simp length-map-range_with_len at h)

  -- what holds of each value of f holds of one that is reached
  of_reached : (P : ℤ → Type 0) → P (f 0) → ((i : ℕ) → i < n → P (f i)) → (r : ℤ) → (r ≡ f 0) ⊎ Has (listed f n) r → P r
  of_reached P first all r way = ⊎_elim (λ e. subst P (sym e) first) (λ h. subst P (sym (at_listed h.0 h.1) ∙ h.2 (pos 0)) (all h.0 (simp length-map-range_with_len at h.1))) way

  least_below : (k : ℕ) → k < n → fold int_min (f 0) (listed f n) ≤ℤ f k
  least_below k h =
      let r = fold int_min (f 0) (listed f n) in
      let index : k < length (listed f n) = simp length-map-range_with_len h in
      rw (at_listed k index) at (All-get_or (λ x. r ≤ℤ x) (listed f n) k (pos 0) index (folded_min_z_bounds (f 0) (listed f n) r refl).1)

  greatest_above : (k : ℕ) → k < n → f k ≤ℤ fold int_max (f 0) (listed f n)
  greatest_above k h =
      let r = fold int_max (f 0) (listed f n) in
      let index : k < length (listed f n) = simp length-map-range_with_len h in
      rw (at_listed k index) at (All-get_or (λ x. x ≤ℤ r) (listed f n) k (pos 0) index (folded_max_z_bounds (f 0) (listed f n) r refl).1)

  -- the least is a value that no other is below, and so for the greatest
  least_is : (z : ℤ) (k : ℕ) → k < n → z ≡ f k → ((i : ℕ) → i < n → z ≤ℤ f i) → fold int_min (f 0) (listed f n) ≡ z
  least_is z k h e low =
      let r = fold int_min (f 0) (listed f n) in
      let below : r ≤ℤ z = rw e (least_below k h) in
      let above : z ≤ℤ r = of_reached (λ x. z ≤ℤ x) (low 0 (omega arith)) low r (folded_min_z_reached (f 0) (listed f n) r refl) in
      omega (arith, ints)

  greatest_is : (z : ℤ) (k : ℕ) → k < n → z ≡ f k → ((i : ℕ) → i < n → f i ≤ℤ z) → fold int_max (f 0) (listed f n) ≡ z
  greatest_is z k h e high =
      let r = fold int_max (f 0) (listed f n) in
      let above : z ≤ℤ r = rw e (greatest_above k h) in
      let below : r ≤ℤ z = of_reached (λ x. x ≤ℤ z) (high 0 (omega arith)) high r (folded_max_z_reached (f 0) (listed f n) r refl) in
      omega (arith, ints)

between : (s t : ℤ) (i m : ℕ) → i ≤ m → (int_min (s +ℤ (t *ℤ pos 0)) (s +ℤ (t *ℤ pos m)) ≤ℤ (s +ℤ (t *ℤ pos i))) × ((s +ℤ (t *ℤ pos i)) ≤ℤ int_max (s +ℤ (t *ℤ pos 0)) (s +ℤ (t *ℤ pos m)))
between s (pos a) i m h = let p = mul-le-mul_left a h in (omega (arith, ints, clamps), omega (arith, ints, clamps))
between s (negsuc a) i m h = let p = mul-le-mul_left (suc a) h in (omega (arith, ints, clamps), omega (arith, ints, clamps))

squeezed : (a b z : ℤ) (bound : ℕ) → int_min a b ≤ℤ z → z ≤ℤ int_max a b → unsigned_abs a ≤ bound → unsigned_abs b ≤ bound → unsigned_abs z ≤ bound
squeezed a b z bound low high p q = omega (arith, ints, clamps)

cell_first : (l : Line) → cell_at l 0 ≡ l.start
cell_first l = ap (λ z. l.start +ℤ z) (*ℤ-zero l.step) ∙ +ℤ_idr l.start

module _ (l : Line) (n : ℕ) (some : 1 ≤ n) where
  inner : (i : ℕ) → i < n → (int_min (cell_at l 0) (cell_at l (n - 1)) ≤ℤ cell_at l i) × (cell_at l i ≤ℤ int_max (cell_at l 0) (cell_at l (n - 1)))
  inner i h = between l.start l.step i (n - 1) (omega arith)

  low_at_ends : (range_of l n).low ≡ int_min l.start (cell_at l (n - 1))
  low_at_ends =
      let z = int_min (cell_at l 0) (cell_at l (n - 1)) in
      ⊎_elim
      (λ e. least_is (cell_at l) n z (n - 1) (omega arith) e (λ i h. (inner i h).0))
      (λ e. least_is (cell_at l) n z 0 (omega arith) e (λ i h. (inner i h).0))
      (cases_cond (int_lt (cell_at l (n - 1)) (cell_at l 0)) (cell_at l (n - 1)) (cell_at l 0) z refl)
      ∙ ap (λ z. int_min z (cell_at l (n - 1))) (cell_first l)

  high_at_ends : (range_of l n).high ≡ int_max l.start (cell_at l (n - 1))
  high_at_ends =
      let z = int_max (cell_at l 0) (cell_at l (n - 1)) in
      ⊎_elim
      (λ e. greatest_is (cell_at l) n z 0 (omega arith) e (λ i h. (inner i h).1))
      (λ e. greatest_is (cell_at l) n z (n - 1) (omega arith) e (λ i h. (inner i h).1))
      (cases_cond (int_lt (cell_at l (n - 1)) (cell_at l 0)) (cell_at l 0) (cell_at l (n - 1)) z refl)
      ∙ ap (λ z. int_max z (cell_at l (n - 1))) (cell_first l)

  -- the first and the last cell tell of all
  near_by_ends : near l.start ≡ true → each (λ i. near (cell_at l i)) n ≡ near (cell_at l (n - 1))
  near_by_ends start = go (near (cell_at l (n - 1))) refl
    where
      go : (b : Bool) → near (cell_at l (n - 1)) ≡ b → each (λ i. near (cell_at l i)) n ≡ b
      go true e = each_from (λ i. near (cell_at l i)) n (λ i h. le-leb (unsigned_abs (cell_at l i)) column_bound (squeezed (cell_at l 0) (cell_at l (n - 1)) (cell_at l i) column_bound (inner i h).0 (inner i h).1 (rw cell_first (leb-true (unsigned_abs l.start) column_bound start)) (leb-true (unsigned_abs (cell_at l (n - 1))) column_bound e)))
      go false e = each_not (λ i. near (cell_at l i)) n (n - 1) (omega arith) e

  pub sound_by_last : near l.start ≡ true → near l.step ≡ true → line_sound n l ≡ near (cell_at l (n - 1))
  sound_by_last start step = ap (λ b. b && (near l.step && each (λ i. near (cell_at l i)) n)) start ∙ ap (λ b. b && each (λ i. near (cell_at l i)) n) step ∙ near_by_ends start

-- the range of a line by its ends, also where there are no cells
pub range_by_ends : (l : Line) (n : ℕ) → range_of l n ≡ range (int_min l.start (cell_at l (n - 1))) (int_max l.start (cell_at l (n - 1)))
range_by_ends l zero =
    let low : cell_at l 0 ≡ int_min l.start (cell_at l 0) = omega (arith, ints, clamps, cell_first l) in
    let high : cell_at l 0 ≡ int_max l.start (cell_at l 0) = omega (arith, ints, clamps, cell_first l) in
    λ i. range (low i) (high i)
range_by_ends l (suc n) = λ i. range (low_at_ends l (suc n) (omega arith) i) (high_at_ends l (suc n) (omega arith) i)

-- the range of a sound line is one that a column may have, and holds its cells
module _ (l : Line) (n : ℕ) (e : line_sound n l ≡ true) where
  first_near : near (cell_at l 0) ≡ true
  first_near = ap near (cell_first l) ∙ (and_parts (near l.start) (near l.step && each (λ i. near (cell_at l i)) n) e).0

  cells_near : (i : ℕ) → i < n → near (cell_at l i) ≡ true
  cells_near = each_at (λ i. near (cell_at l i)) n (and_parts (near l.step) (each (λ i. near (cell_at l i)) n) (and_parts (near l.start) (near l.step && each (λ i. near (cell_at l i)) n) e).1).1

  range_sound : sound (range_of l n) ≡ true
  range_sound =
      let f = cell_at l in
      let low = fold int_min (f 0) (listed f n) in
      let high = fold int_max (f 0) (listed f n) in
      let below = (folded_min_z_bounds (f 0) (listed f n) low refl).0 in
      let above = (folded_max_z_bounds (f 0) (listed f n) high refl).0 in
      let ordered : low ≤ℤ high = omega (arith, ints) in
      and_from (near low) (near high && int_le low high)
      (of_reached f n (λ z. near z ≡ true) first_near cells_near low (folded_min_z_reached (f 0) (listed f n) low refl))
      (and_from (near high) (int_le low high)
      (of_reached f n (λ z. near z ≡ true) first_near cells_near high (folded_max_z_reached (f 0) (listed f n) high refl))
      (le_z_true low high ordered))

  cell_within : (i : ℕ) → i < n → within (range_of l n) (cell_at l i) ≡ true
  cell_within i h =
      let f = cell_at l in
      let low = fold int_min (f 0) (listed f n) in
      let high = fold int_max (f 0) (listed f n) in
      and_from (int_le low (f i)) (int_le (f i) high) (le_z_true low (f i) (least_below f n i h)) (le_z_true (f i) high (greatest_above f n i h))

pub ramp_lawful : (width count : ℕ) (ls : List Line) → lines_sound width count ls ≡ true → Lawful (ramp_meaning width count ls)
ramp_lawful width count ls e =
    let lines = sized_tells width count (λ j. line_sound count (line ls j)) e in
    tabled_lawful width count count (λ j. range_of (line ls j) count) (λ i j. cell_at (line ls j) i)
    lines.some_width
    lines.few_columns
    lines.few_rows
    (omega arith)
    (λ j k. range_sound (line ls j) count (lines.each_column j k))
    (λ i j h k. cell_within (line ls j) count (lines.each_column j k) i h)
