-- A tree is built again from its lines.
use Rattle.std.proofs.Common.{◌≡◌, List, [], ◌∷◌, ◌++◌, length, take, drop, ℤ, sym, refl, ap, ◌∙◌, ap₂, append_assoc}
use mathlib.Core.List.{head-eq_of_cons-eq}
use Rattle.std.proofs.lemmas.List.{take_at, drop_at, length-map}
use Rattle.std.specs.List.{flat_map, AllByRecursion}
use Rattle.trees.proofs.Induction.{make, folds, induct}
use Rattle.trees.specs.declared.Kind.{Kind}
use Rattle.trees.specs.declared.words.Word.{Word}
use Rattle.trees.specs.Tree.{Tree, AnyTree, any}
use Rattle.trees.specs.Words.{entry}
use Rattle.trees.specs.Written.{Line, form_lines, lines}
use Rattle.trees.specs.Written.Line.{opening, leaf, closing}

-- a form that opens takes its parts from the trees that follow it
abbrev opened : Word → List ℤ → List AnyTree → List AnyTree
opened w ns ts = make w ns (take (length (entry w).parts) ts) ∷ drop (length (entry w).parts) ts

-- the trees in these lines, one after the other, built from the last line to the first
abbrev trees : List Line → List AnyTree
trees [] = []
trees (opening w ns ∷ ls) = opened w ns (trees ls)
trees (leaf w ns ∷ ls) = make w ns [] ∷ trees ls
trees (closing ∷ ls) = trees ls

-- the lines of p build p, whatever lines follow
abbrev Builds : AnyTree → Type 0
Builds p = (rest : List Line) → trees (lines p.1 ++ rest) ≡ p ∷ trees rest

build_parts : (ps : List AnyTree) → AllByRecursion Builds ps → (rest : List Line) → trees (flat_map (λ ls. ls) (folds form_lines ps) ++ rest) ≡ ps ++ trees rest
build_parts [] all rest = refl
build_parts (p ∷ ps) all rest =
    let later : List Line = flat_map (λ ls. ls) (folds form_lines ps) in
    ap trees (append_assoc (lines p.1) later rest) ∙ all.0 (later ++ rest) ∙ ap (λ (ts : List AnyTree). p ∷ ts) (build_parts ps all.1 rest)

-- the parts in front are taken, and the others left
take_parts : (w : Word) (ns : List ℤ) (ps ts : List AnyTree) → length ps ≡ length (entry w).parts → opened w ns (ps ++ ts) ≡ make w ns ps ∷ ts
take_parts w ns ps ts e = ap₂ (λ (xs ys : List AnyTree). make w ns xs ∷ ys) (take_at ps ts (length (entry w).parts) e) (drop_at ps ts (length (entry w).parts) e)

build_form : (w : Word) (ns : List ℤ) (ps : List AnyTree) → length ps ≡ length (entry w).parts → AllByRecursion Builds ps → (rest : List Line) → trees (form_lines w ns (folds form_lines ps) ++ rest) ≡ make w ns ps ∷ trees rest
build_form w ns [] few all rest = refl
build_form w ns (p ∷ ps) few all rest =
    ap (λ (ls : List Line). opened w ns (trees ls)) (append_assoc (flat_map (λ ls. ls) (folds form_lines (p ∷ ps))) (closing ∷ []) rest)
    ∙ ap (opened w ns) (build_parts (p ∷ ps) all (closing ∷ rest))
    ∙ take_parts w ns (p ∷ ps) (trees rest) few

pub builds : {k : Kind} (t : Tree k) → Builds (any t)
builds =
    induct Builds
    (λ w ns ps made all rest.
    ap (λ (ls : List Line). trees (ls ++ rest)) (made.folded form_lines) ∙ build_form w ns ps (sym (length-map ps (λ p. p.0)) ∙ ap length made.parts) all rest)

pub same_from_lines : {k l : Kind} (t : Tree k) (u : Tree l) → lines t ≡ lines u → any t ≡ any u
same_from_lines t u e = head-eq_of_cons-eq (sym (builds t []) ∙ ap (λ (ls : List Line). trees (ls ++ [])) e ∙ builds u [])
