-- A source of one row: a minute and a density that somebody read off by hand.
use borrow.Author.Differences.{le_out, true_is_le}
use Rattle.std.specs.Prelude.{◌≡◌, true, ◌&&◌, [], ◌∷◌, ℤ, int_le, refl}
use Rattle.std.specs.Int.Signed.{≤ℤ_refl}
use Rattle.std.proofs.Common.{sym, arith}
use Rattle.sources.specs.Shapes.{near, range, sound, within}
use Rattle.sources.specs.Source.{Meaning, Lawful}
use Rattle.std.proofs.lemmas.Bool.{and_from}

abbrev pub spot_meaning : ℤ → ℤ → Meaning
spot_meaning minute density = record { width = 2; limit = 1; columns = range minute minute ∷ range density density ∷ []; rows = (minute ∷ density ∷ []) ∷ [] }

le_z_self : (z : ℤ) → int_le z z ≡ true
le_z_self z = sym (true_is_le z z (le_out z z (≤ℤ_refl z)))

point_sound : (z : ℤ) → near z ≡ true → sound (range z z) ≡ true
point_sound z e = and_from (near z) (near z && int_le z z) e (and_from (near z) (int_le z z) e (le_z_self z))

point_within : (z : ℤ) → within (range z z) z ≡ true
point_within z = and_from (int_le z z) (int_le z z) (le_z_self z) (le_z_self z)

pub spot_lawful : (minute density : ℤ) → near minute ≡ true → near density ≡ true → Lawful (spot_meaning minute density)
spot_lawful minute density p q =
    record {
      some_width = omega arith;
      few_columns = omega arith;
      few_rows = omega arith;
      all_columns = refl;
      columns_sound = (point_sound minute p, (point_sound density q, tt));
      in_limit = omega arith;
      rows_fit = ((point_within minute, (point_within density, tt)), tt);
    }
