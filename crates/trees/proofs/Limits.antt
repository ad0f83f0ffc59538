-- The lines of a tree tell its size, its depth and its numbers.
use Rattle.std.proofs.Common.{◌≡◌, ℕ, suc, ◌+◌, max, List, [], ◌∷◌, ◌++◌, ℤ, sum, sym, refl, ap, ◌∙◌, ap₂, append_assoc, append-nil, arith}
use mathlib.Core.List.{foldr}
use Rattle.std.proofs.lemmas.Grind.{flat_map-append}
use Rattle.std.proofs.lemmas.List.Sums.{sum_by-cons}
use Rattle.std.specs.List.{flat_map, AllByRecursion}
use Rattle.trees.proofs.Induction.{folds, induct}
use Rattle.trees.specs.declared.Kind.{Kind}
use Rattle.trees.specs.declared.words.Word.{Word}
use Rattle.trees.specs.Size.{form_size, size, form_depth, depth, form_numbers, numbers}
use Rattle.trees.specs.Tree.{Tree, AnyTree, any}
use Rattle.trees.specs.Written.{Line, form_lines, lines, forms_in, deepest, line_numbers, ToldByLines}
use Rattle.trees.specs.Written.Line.{closing}

abbrev all_lines : List AnyTree → List Line
all_lines ps = flat_map (λ ls. ls) (folds form_lines ps)

-- the lines of a form's parts, its closing line and those that follow
close : (ps : List AnyTree) (rest : List Line) → (all_lines ps ++ closing ∷ []) ++ rest ≡ all_lines ps ++ (closing ∷ rest)
close ps rest = append_assoc (all_lines ps) (closing ∷ []) rest

-- size

abbrev Counted : AnyTree → Type 0
Counted p = (rest : List Line) → forms_in (lines p.1 ++ rest) ≡ size p.1 + forms_in rest

count_parts : (ps : List AnyTree) → AllByRecursion Counted ps → (rest : List Line) → forms_in (all_lines ps ++ rest) ≡ sum (folds form_size ps) + forms_in rest
count_parts [] all rest = omega arith
count_parts (p ∷ ps) all rest =
    omega (arith, ap forms_in (append_assoc (lines p.1) (all_lines ps) rest), all.0 (all_lines ps ++ rest), count_parts ps all.1 rest, sum_by-cons (λ x. x) (size p.1) (folds form_size ps))

count_form : (w : Word) (ns : List ℤ) (ps : List AnyTree) → AllByRecursion Counted ps → (rest : List Line) → forms_in (form_lines w ns (folds form_lines ps) ++ rest) ≡ form_size w ns (folds form_size ps) + forms_in rest
count_form w ns [] all rest = omega arith
count_form w ns (p ∷ ps) all rest = omega (arith, ap forms_in (close (p ∷ ps) rest), count_parts (p ∷ ps) all (closing ∷ rest))

pub counted : {k : Kind} (t : Tree k) → Counted (any t)
counted =
    induct Counted
    (λ w ns ps made all rest.
    ap (λ (ls : List Line). forms_in (ls ++ rest)) (made.folded form_lines) ∙ count_form w ns ps all rest ∙ ap (λ (n : ℕ). n + forms_in rest) (sym (made.folded form_size)))

-- depth

abbrev Deep : AnyTree → Type 0
Deep p = (n : ℕ) (rest : List Line) → deepest n (lines p.1 ++ rest) ≡ max (n + depth p.1) (deepest n rest)

deep_parts : (ps : List AnyTree) → AllByRecursion Deep ps → (n : ℕ) (rest : List Line) → max n (deepest n (all_lines ps ++ rest)) ≡ max (n + foldr max 0 (folds form_depth ps)) (deepest n rest)
deep_parts [] all n rest = omega arith
deep_parts (p ∷ ps) all n rest =
    omega (arith, ap (deepest n) (append_assoc (lines p.1) (all_lines ps) rest), all.0 n (all_lines ps ++ rest), deep_parts ps all.1 n rest)

deep_form : (w : Word) (ns : List ℤ) (ps : List AnyTree) → AllByRecursion Deep ps → (n : ℕ) (rest : List Line) → deepest n (form_lines w ns (folds form_lines ps) ++ rest) ≡ max (n + form_depth w ns (folds form_depth ps)) (deepest n rest)
deep_form w ns [] all n rest = omega arith
deep_form w ns (p ∷ ps) all n rest = omega (arith, ap (deepest (suc n)) (close (p ∷ ps) rest), deep_parts (p ∷ ps) all (suc n) (closing ∷ rest))

pub deep : {k : Kind} (t : Tree k) → Deep (any t)
deep =
    induct Deep
    (λ w ns ps made all n rest.
    ap (λ (ls : List Line). deepest n (ls ++ rest)) (made.folded form_lines) ∙ deep_form w ns ps all n rest ∙ ap (λ (d : ℕ). max (n + d) (deepest n rest)) (sym (made.folded form_depth)))

-- numbers

abbrev SameNumbers : AnyTree → Type 0
SameNumbers p = numbers p.1 ≡ flat_map line_numbers (lines p.1)

parts_numbers : (ps : List AnyTree) → AllByRecursion SameNumbers ps → flat_map (λ ns. ns) (folds form_numbers ps) ≡ flat_map line_numbers (flat_map (λ ls. ls) (folds form_lines ps))
parts_numbers [] all = refl
parts_numbers (p ∷ ps) all = ap₂ (λ (ns ms : List ℤ). ns ++ ms) all.0 (parts_numbers ps all.1) ∙ sym (flat_map-append line_numbers (lines p.1) (flat_map (λ ls. ls) (folds form_lines ps)))

form_same_numbers : (w : Word) (ns : List ℤ) (ps : List AnyTree) → AllByRecursion SameNumbers ps → form_numbers w ns (folds form_numbers ps) ≡ flat_map line_numbers (form_lines w ns (folds form_lines ps))
form_same_numbers w ns [] all = refl
form_same_numbers w ns (p ∷ ps) all =
    let inner : List Line = flat_map (λ ls. ls) (folds form_lines (p ∷ ps)) in
    ap (λ ms. ns ++ ms) (parts_numbers (p ∷ ps) all ∙ sym (append-nil (flat_map line_numbers inner)) ∙ sym (flat_map-append line_numbers inner (closing ∷ [])))

pub numbers_on_lines : {k : Kind} (t : Tree k) → SameNumbers (any t)
numbers_on_lines =
    induct SameNumbers
    (λ w ns ps made all. made.folded form_numbers ∙ form_same_numbers w ns ps all ∙ sym (ap (flat_map line_numbers) (made.folded form_lines)))

pub told_by_lines : ToldByLines
told_by_lines k t =
    let whole = append-nil (lines t) in
    (omega (arith, counted t [], ap forms_in whole), omega (arith, deep t 0 [], ap (deepest 0) whole), numbers_on_lines t)
