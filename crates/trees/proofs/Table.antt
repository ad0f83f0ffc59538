-- The table of words tells what stands in a form.
use Rattle.std.proofs.Common.{◌≡◌, List, [], ◌∷◌, map, length, sym, refl, ap, ◌∙◌, ap₂}
use Rattle.std.specs.List.{AllByRecursion}
use Rattle.trees.proofs.Induction.{make, folds, induct}
use Rattle.trees.specs.declared.Kind.{Kind}
use Rattle.trees.specs.declared.words.Word.{Word}
use Rattle.trees.specs.Fold.{fold, word_of, numbers_of, form_kinds, part_kinds, BuiltByTable}
use Rattle.trees.specs.Tree.{Tree, AnyTree, any}
use Rattle.trees.specs.Words.{entry}

-- the table gives a tree its own kind, and what the law says of it
abbrev ByTable : AnyTree → Type 0
ByTable p = ((fold form_kinds p.1).0 ≡ p.0) × ((p.0 ≡ (entry (word_of p.1)).kind) × (length (numbers_of p.1) ≡ (entry (word_of p.1)).numbers) × (part_kinds p.1 ≡ (entry (word_of p.1)).parts))

own_kinds : (ps : List AnyTree) → AllByRecursion ByTable ps → map (λ x. x.0) (folds form_kinds ps) ≡ map (λ p. p.0) ps
own_kinds [] all = refl
own_kinds (p ∷ ps) all = ap₂ (λ (k : Kind) (ks : List Kind). k ∷ ks) all.0.0 (own_kinds ps all.1)

by_table : {k : Kind} (t : Tree k) → ByTable (any t)
by_table =
    induct ByTable
    (λ w ns ps made all.
    let word : word_of (make w ns ps).1 ≡ w = made.folded (λ v ms qs. v) in
    let kinds : fold form_kinds (make w ns ps).1 ≡ form_kinds w ns (folds form_kinds ps) = made.folded form_kinds in (
      ap (λ x. x.0) kinds ∙ sym made.kind,
      (
        made.kind ∙ ap (λ (v : Word). (entry v).kind) (sym word),
        ap length (made.folded (λ v ms qs. ms)) ∙ made.numbers ∙ ap (λ (v : Word). (entry v).numbers) (sym word),
        ap (λ x. x.1) kinds ∙ own_kinds ps all ∙ made.parts ∙ ap (λ (v : Word). (entry v).parts) (sym word),
      ),
    ))

pub built_by_table : BuiltByTable
built_by_table k t = (by_table t).1
