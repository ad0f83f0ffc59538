-- The entries open where the written form has the forms, so that the table spells the query, which the rules type.
use Rattle.std.proofs.Common.{◌≡◌, [], Ok, refl, subst, arith}
use Rattle.forms.specs.Table.{part_at, parts, parts_from}
use Rattle.rules.specs.Sound.{Fitting, Plant}
use Rattle.rules.specs.Typing.{NumberType, number_typed}
use Rattle.rules.specs.declared.catalogue.Catalogue.{Catalogue}
use Rattle.evaluation.specs.Bench.{bench_catalogue, count_and_sum}
use Rattle.evaluation.proofs.Spelled.{lined_spells}
use Rattle.evaluation.proofs.tests.a_count_and_a_sum.Goals as goal

typed : (x : NumberType) × (number_typed 1 bench_catalogue [] count_and_sum ≡ Ok x)
typed = (_, refl)

fits_bench : (p : Plant) (k : Catalogue) → k ≡ bench_catalogue → Fitting k p → Fitting bench_catalogue p
fits_bench p k e h = subst (λ (x : Catalogue). Fitting x p) e h

pub evaluate-requires : goal.evaluate-requires
evaluate-requires g c =
    record {
      few = omega arith;
      typed = (
        count_and_sum,
        record {
          catalogue = bench_catalogue;
          line = 1;
          type = typed.0;
          spells = lined_spells _ count_and_sum 1 (unfold part_at parts parts_from in refl) refl (
            record { line = refl; order = refl },
            (
              record { line = refl; order = refl },
              (
                record { line = refl; order = refl },
                record { line = refl; order = refl },
                (record { line = refl; order = refl }, record { line = refl; order = refl }, record { line = refl; order = refl }),
              ),
            ),
            (record { line = refl; order = refl }, record { line = refl; order = refl }, record { line = refl; order = refl }),
          );
          typed = typed.1;
          fits = fits_bench _ c.bench-catalogue.result c.bench-catalogue.ensures (c.in-Ok.ensures.exactly.0 refl);
        },
      );
    }
