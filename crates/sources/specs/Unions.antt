-- The union of two sources: the rows of both, where they have one width and the limits allow.
use Rattle.std.specs.Prelude.{◌≡◌, ℕ, suc, ◌+◌, ◌-◌, ◌<◌, ◌≤◌, Bool, true, false, cond, ◌&&◌, List, [], ◌∷◌, ◌++◌, length, ℤ, pos, Some, None, Option, ◌==◌, int_le, nat_le, refl}
use Rattle.std.proofs.Common.{◌∙◌, ap, sym, arith}
use borrow.Author.Differences.{le-true, true_is_le}
use Rattle.std.proofs.ByRecursion.{All-append, All-weaker}
use Rattle.std.proofs.lemmas.List.{length-append}
use Rattle.std.proofs.lemmas.Int.{ints, clamps}
use Rattle.std.proofs.lemmas.Bool.{and_from, and_parts, cond_both, eqb-true, leb-true}
use Rattle.std.specs.Int.{int_max, int_min}
use Rattle.std.specs.List.{AllByRecursion}
use Rattle.sources.specs.Shapes.{range, max_rows, near, sound, within}
use Rattle.sources.specs.Source.{Meaning, Lawful, Row, Fits, low_of, high_of, count_of, cell_of}
use Rattle.sources.specs.declared.shapes.Range.{Range}

abbrev pub joins : Meaning → Meaning → Bool
joins m n = m.width == n.width && nat_le (m.limit + n.limit) max_rows

-- from the lesser low to the greater high
abbrev pub hull : Range → Range → Range
hull a b = range (int_min a.low b.low) (int_max a.high b.high)

abbrev pub hulls : List Range → List Range → List Range
hulls [] ds = []
hulls (c ∷ cs) [] = []
hulls (c ∷ cs) (d ∷ ds) = hull c d ∷ hulls cs ds

-- m and n in one: the rows of m, then those of n, or the columns of m and no rows
abbrev pub united : Bool → Meaning → Meaning → Meaning
united join m n =
    record {
      width = m.width;
      limit = cond join (m.limit + n.limit) 0;
      columns = cond join (hulls m.columns n.columns) m.columns;
      rows = cond join (m.rows ++ n.rows) [];
    }

abbrev pub union : Meaning → Meaning → Meaning
union m n = united (joins m n) m n

-- the limits added, where the two join
abbrev pub joint_limit : Meaning → Meaning → Option ℕ
joint_limit m n = cond (joins m n) (Some (m.limit + n.limit)) None

-- what a union u of m and n answers where the two join
pub record Joined (m n u : Meaning) : Type 0 where
  pub limit : u.limit ≡ m.limit + n.limit
  pub low : (j : ℕ) → low_of u j ≡ int_min (low_of m j) (low_of n j)
  pub high : (j : ℕ) → high_of u j ≡ int_max (high_of m j) (high_of n j)
  pub count : count_of u ≡ count_of m + count_of n
  pub first : (i j : ℕ) → i < count_of m → cell_of u i j ≡ cell_of m i j
  pub second : (i j : ℕ) → count_of m ≤ i → cell_of u i j ≡ cell_of n (i - count_of m) j

-- what it answers where they do not
pub record Apart (m u : Meaning) : Type 0 where
  pub limit : u.limit ≡ 0
  pub low : (j : ℕ) → low_of u j ≡ low_of m j
  pub high : (j : ℕ) → high_of u j ≡ high_of m j
  pub count : count_of u ≡ 0
  pub cell : (i j : ℕ) → cell_of u i j ≡ pos 0

-- what u answers, by the limit that m and n have together
abbrev pub Unites : (m n u : Meaning) → Option ℕ → Type 0
Unites m n u None = Apart m u
Unites m n u (Some l) = (l ≡ u.limit) × Joined m n u

near_least : (x y : ℤ) → near x ≡ true → near y ≡ true → near (int_min x y) ≡ true
near_least x y p q = cond_both (lib.Signed.lt_z y x) y x (λ z. near z ≡ true) (λ _. q) (λ _. p)

near_greatest : (x y : ℤ) → near x ≡ true → near y ≡ true → near (int_max x y) ≡ true
near_greatest x y p q = cond_both (lib.Signed.lt_z y x) x y (λ z. near z ≡ true) (λ _. p) (λ _. q)

hull_sound : (a b : Range) → sound a ≡ true → sound b ≡ true → sound (hull a b) ≡ true
hull_sound a b p q =
    let a_low = and_parts (near a.low) (near a.high && int_le a.low a.high) p in
    let b_low = and_parts (near b.low) (near b.high && int_le b.low b.high) q in
    let a_high = and_parts (near a.high) (int_le a.low a.high) a_low.1 in
    let b_high = and_parts (near b.high) (int_le b.low b.high) b_low.1 in
    let low = int_min a.low b.low in
    let high = int_max a.high b.high in
    and_from (near low) (near high && int_le low high)
    (near_least a.low b.low a_low.0 b_low.0)
    (and_from (near high) (int_le low high)
    (near_greatest a.high b.high a_high.0 b_high.0)
    (sym (true_is_le low high (omega (arith, ints, clamps, le-true a.low a.high a_high.1)))))

hulls_sound : (cs ds : List Range) → AllByRecursion (λ c. sound c ≡ true) cs → AllByRecursion (λ c. sound c ≡ true) ds → AllByRecursion (λ c. sound c ≡ true) (hulls cs ds)
hulls_sound [] ds p q = tt
hulls_sound (c ∷ cs) [] p q = tt
hulls_sound (c ∷ cs) (d ∷ ds) p q = (hull_sound c d p.0 q.0, hulls_sound cs ds p.1 q.1)

pub hulls_length : (cs ds : List Range) → length cs ≡ length ds → length (hulls cs ds) ≡ length cs
hulls_length [] ds e = refl
hulls_length (c ∷ cs) [] e = sym e
hulls_length (c ∷ cs) (d ∷ ds) e = ap suc (hulls_length cs ds (omega arith))

-- a value within either range is within both together
hull_holds_left : (a b : Range) (z : ℤ) → within a z ≡ true → within (hull a b) z ≡ true
hull_holds_left a b z e =
    let p = and_parts (int_le a.low z) (int_le z a.high) e in
    let low = int_min a.low b.low in
    let high = int_max a.high b.high in
    and_from (int_le low z) (int_le z high)
    (sym (true_is_le low z (omega (arith, ints, clamps, le-true a.low z p.0))))
    (sym (true_is_le z high (omega (arith, ints, clamps, le-true z a.high p.1))))

hull_holds_right : (a b : Range) (z : ℤ) → within b z ≡ true → within (hull a b) z ≡ true
hull_holds_right a b z e =
    let p = and_parts (int_le b.low z) (int_le z b.high) e in
    let low = int_min a.low b.low in
    let high = int_max a.high b.high in
    and_from (int_le low z) (int_le z high)
    (sym (true_is_le low z (omega (arith, ints, clamps, le-true b.low z p.0))))
    (sym (true_is_le z high (omega (arith, ints, clamps, le-true z b.high p.1))))

pub fits_left : (cs ds : List Range) (r : Row) → length cs ≡ length ds → Fits cs r → Fits (hulls cs ds) r
fits_left [] ds r e h = h
fits_left (c ∷ cs) [] r e h = absurd (omega arith)
fits_left (c ∷ cs) (d ∷ ds) [] e h = h
fits_left (c ∷ cs) (d ∷ ds) (z ∷ zs) e h = (hull_holds_left c d z h.0, fits_left cs ds zs (omega arith) h.1)

pub fits_right : (cs ds : List Range) (r : Row) → length cs ≡ length ds → Fits ds r → Fits (hulls cs ds) r
fits_right [] [] r e h = h
fits_right [] (d ∷ ds) r e h = absurd (omega arith)
fits_right (c ∷ cs) [] r e h = absurd (omega arith)
fits_right (c ∷ cs) (d ∷ ds) [] e h = h
fits_right (c ∷ cs) (d ∷ ds) (z ∷ zs) e h = (hull_holds_right c d z h.0, fits_right cs ds zs (omega arith) h.1)

pub joins_tells : (m n : Meaning) → Lawful m → Lawful n → joins m n ≡ true → (length m.columns ≡ length n.columns) × (m.limit + n.limit ≤ max_rows)
joins_tells m n p q e =
    let test = and_parts (m.width == n.width) (nat_le (m.limit + n.limit) max_rows) e in
    (p.all_columns ∙ eqb-true m.width n.width test.0 ∙ sym q.all_columns, leb-true (m.limit + n.limit) max_rows test.1)

pub union_lawful : (m n : Meaning) → Lawful m → Lawful n → Lawful (union m n)
union_lawful m n p q = go (joins m n) refl
  where
    go : (b : Bool) → joins m n ≡ b → Lawful (united b m n)
    go true e =
        let cs = m.columns in
        let ds = n.columns in
        let test = joins_tells m n p q e in
        record {
          some_width = p.some_width;
          few_columns = p.few_columns;
          few_rows = test.1;
          all_columns = hulls_length cs ds test.0 ∙ p.all_columns;
          columns_sound = hulls_sound cs ds p.columns_sound q.columns_sound;
          in_limit = rw (length-append m.rows n.rows) (omega (arith, p.in_limit, q.in_limit));
          rows_fit = All-append (Fits (hulls cs ds)) m.rows n.rows (All-weaker (Fits cs) (Fits (hulls cs ds)) (λ r h. fits_left cs ds r test.0 h) m.rows p.rows_fit) (All-weaker (Fits ds) (Fits (hulls cs ds)) (λ r h. fits_right cs ds r test.0 h) n.rows q.rows_fit);
        }
    go false e =
        record {
          some_width = p.some_width;
          few_columns = p.few_columns;
          few_rows = omega arith;
          all_columns = p.all_columns;
          columns_sound = p.columns_sound;
          in_limit = omega arith;
          rows_fit = tt;
        }
