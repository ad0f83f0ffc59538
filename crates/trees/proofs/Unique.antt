-- The written form tells the tree: its bytes tell its lines, and these the tree.
use Rattle.std.proofs.Common.{List, [], ◌∷◌, ◌++◌, refl, subst}
use Rattle.std.specs.List.{flat_map, AllByRecursion}
use Rattle.std.specs.Fmt.{digits}
use Rattle.trees.proofs.Limits.{numbers_on_lines}
use Rattle.trees.proofs.Lines.{Fits, same_from_bytes}
use Rattle.trees.proofs.Rebuild.{same_from_lines}
use Rattle.trees.specs.declared.Kind.{Kind}
use Rattle.trees.specs.Size.{numbers}
use Rattle.trees.specs.Tree.{Tree}
use Rattle.trees.specs.Written.{lines, line_numbers, WrittenExample, WrittenOnce}

pub all_split : {X : Type 0} (P : X → Type 0) (xs ys : List X) → AllByRecursion P (xs ++ ys) → AllByRecursion P xs × AllByRecursion P ys
all_split P [] ys all = (tt, all)
all_split P (x ∷ xs) ys all = let (p, q) = all_split P xs ys all.1 in ((all.0, p), q)

all_joined : {X Y : Type 0} (P : Y → Type 0) (f : X → List Y) (xs : List X) → AllByRecursion P (flat_map f xs) → AllByRecursion (λ x. AllByRecursion P (f x)) xs
all_joined P f [] all = tt
all_joined P f (x ∷ xs) all = let (p, q) = all_split P (f x) (flat_map f xs) all in (p, all_joined P f xs q)

pub written_once : WrittenOnce
written_once k l t u f g e =
    let lines_fit : (j : Kind) (v : Tree j) → AllByRecursion Fits (numbers v) → AllByRecursion (λ m. AllByRecursion Fits (line_numbers m)) (lines v) = λ j v h. all_joined Fits line_numbers (lines v) (subst (AllByRecursion Fits) (numbers_on_lines v) h) in
    same_from_lines t u (same_from_bytes (lines t) (lines u) (lines_fit k t f) (lines_fit l u g) e)

pub written_example : WrittenExample
unfolding digits
written_example = refl
