use Rattle.std.proofs.Common.{◌≡◌, ◌-◌, [], length, ap, ◌∙◌, arith, w64, rules}
use Rattle.forms.proofs.Parts.{for_all, numbers, reached}
use Rattle.forms.specs.Calm.{inputs}
use Rattle.stacks.specs.Stack.{stacked}
use Rattle.forms.specs.Table.{NumberTree}
use Rattle.rules.specs.Sound.{inputs_of}
use Rattle.std.proofs.lemmas.Int.{to_z-of_z}
use Rattle.trees.specs.Meaning.{number}
use Rattle.evaluation.specs.Plants.{plant_of}
use Rattle.evaluation.specs.Sums.{sources_of}
use Rattle.evaluation.proofs.Ready.{all_typed, ready, two_settings}
use Rattle.evaluation.proofs.evaluation.evaluate.Goals as goal

pub totals-totals-requires : goal.totals-totals-requires
totals-totals-requires g c =
    let (t, h) = c.requires.typed in
    all_typed h (c.rules_keep_values_in_range.ensures.keep h.catalogue _ h.fits)

pub overflow_sub-entries : goal.overflow_sub-entries
overflow_sub-entries g c =
    let es = c.args.entries.now in
    let (t, h) = c.requires.typed in
    omega (arith, reached numbers (λ _. Unit {0}) es (length es - 1) (t, h.spells.is, tt))

pub number-requires-clause-ready : goal.number-requires-clause-ready
number-requires-clause-ready g c =
    let (t, h) = c.requires.typed in
    let two : length c.args.plant.now.settings ≡ 2 = search rules in
    (_, t, ready h (c.rules_keep_values_in_range.ensures.keep h.catalogue _ h.fits) (two_settings _ two) c.new.ensures.items c.totals-totals.ensures)

pub returns : goal.returns
returns g c =
    let plant = c.args.plant.now in
    let p = plant_of g.A.Source.meaning g.B.Source.meaning plant in
    let (t, h) = c.requires.typed in
    let two : length plant.settings ≡ 2 = search rules in
    let r = c.number.result in
    for_all numbers (λ _. Unit {0}) (λ (u : NumberTree). number u (inputs_of p) []) c.args.entries.now (length c.args.entries.now - 1) (t, h.spells.is, tt) _
    (to_z-of_z w64 r (record { sfits = c.number.type_inv })
    ∙ c.number.ensures _ t (ready h (c.rules_keep_values_in_range.ensures.keep h.catalogue p h.fits) (two_settings _ two) c.new.ensures.items c.totals-totals.ensures)
    ∙ ap (λ xs. number t (inputs (sources_of p) xs) (stacked c.new.result)) (two_settings plant.settings two)
    ∙ ap (number t (inputs_of p)) c.new.ensures.items)
