-- What the union of two sources answers.
use Rattle.std.proofs.Common.{◌≡◌, ℕ, zero, suc, ◌+◌, Bool, true, false, cond, List, [], ◌∷◌, length, get_or, pos, Some, None, refl, ap, arith}
use Rattle.std.proofs.lemmas.List.{length-append, get_or_append_left, get_or-append_right}
use Rattle.sources.specs.Shapes.{column}
use Rattle.sources.specs.Source.{Meaning, Lawful, Row, count_of}
use Rattle.sources.specs.Unions.{hull, hulls, joins, joins_tells, joint_limit, united, union, Unites}
use Rattle.sources.specs.declared.shapes.Range.{Range}

hulls_at : (cs ds : List Range) (j : ℕ) → length cs ≡ length ds → column (hulls cs ds) j ≡ hull (column cs j) (column ds j)
hulls_at [] [] j e = refl
hulls_at [] (d ∷ ds) j e = absurd (omega arith)
hulls_at (c ∷ cs) [] j e = absurd (omega arith)
hulls_at (c ∷ cs) (d ∷ ds) zero e = refl
hulls_at (c ∷ cs) (d ∷ ds) (suc j) e = hulls_at cs ds j (omega arith)

pub union_answers : (m n : Meaning) → Lawful m → Lawful n → Unites m n (union m n) (joint_limit m n)
union_answers m n p q = go (joins m n) refl
  where
    go : (b : Bool) → joins m n ≡ b → Unites m n (united b m n) (cond b (Some (m.limit + n.limit)) None)
    go true e =
        let cs = m.columns in
        let ds = n.columns in
        let widths = (joins_tells m n p q e).0 in (
          refl,
          record {
            limit = refl;
            low = λ j. ap (λ (c : Range). c.low) (hulls_at cs ds j widths);
            high = λ j. ap (λ (c : Range). c.high) (hulls_at cs ds j widths);
            count = length-append m.rows n.rows;
            first = λ i j h. ap (λ (r : Row). get_or r j (pos 0)) (get_or_append_left m.rows n.rows [] i h);
            second = λ i j h. ap (λ (r : Row). get_or r j (pos 0)) (get_or-append_right m.rows n.rows (count_of m) i [] refl h);
          },
        )
    go false e =
        record {
          limit = refl;
          low = λ j. refl;
          high = λ j. refl;
          count = refl;
          cell = λ i j. refl;
        }
