-- There are as many notes as forms.
use Rattle.std.proofs.Common.{◌≡◌, ℕ, suc, ◌+◌, List, [], ◌∷◌, ◌++◌, length, sum, refl, arith}
use Rattle.sources.specs.declared.shapes.Range.{Range}
use Rattle.std.proofs.lemmas.List.{length-append}
use Rattle.std.proofs.lemmas.List.Sums.{sum_by-cons}
use Rattle.trees.specs.declared.Kind.TheVariants.{Bag, Condition, Number, Term}
use Rattle.trees.specs.Size.{size}
use Rattle.trees.specs.Tree.{Tree}
use Rattle.trees.specs.Tree.Tree.{bag, keep, put, pool, col, lit, plus, times, pick, less, equal, either, not, num, setting, var, count, sum as sum_of, add, sub, least, most, scale, clip, let_in}
use Rattle.forms.specs.Lined.{past}
use Rattle.rules.specs.Typing.{bag_typed, number_typed}
use Rattle.rules.specs.declared.catalogue.Catalogue.{Catalogue}
use Rattle.typing.specs.Notes.{bag_notes, columns_in, condition_notes, number_notes, range_in, term_notes}
use Rattle.typing.specs.declared.note.Note.{Note}

-- the forms of one, two or three parts
pub sum_one : (i : ℕ) → sum (i ∷ []) ≡ i
sum_one i = omega (arith, sum_by-cons (λ x. x) i [])

pub sum_two : (i j : ℕ) → sum (i ∷ j ∷ []) ≡ i + j
sum_two i j = omega (arith, sum_by-cons (λ x. x) i (j ∷ []), sum_one j)

pub sum_three : (i j k : ℕ) → sum (i ∷ j ∷ k ∷ []) ≡ i + j + k
sum_three i j k = omega (arith, sum_by-cons (λ x. x) i (j ∷ k ∷ []), sum_two j k)

one : (xs : List Note) (i : ℕ) → length xs ≡ i → suc (length xs) ≡ suc (sum (i ∷ []))
one xs i e = omega (arith, sum_one i)

two : (xs ys : List Note) (i j : ℕ) → length xs ≡ i → length ys ≡ j → suc (length (xs ++ ys)) ≡ suc (sum (i ∷ j ∷ []))
two xs ys i j e f = omega (arith, length-append xs ys, sum_two i j)

three : (xs ys zs : List Note) (i j k : ℕ) → length xs ≡ i → length ys ≡ j → length zs ≡ k → suc (length (xs ++ (ys ++ zs))) ≡ suc (sum (i ∷ j ∷ k ∷ []))
three xs ys zs i j k e f g = omega (arith, length-append xs (ys ++ zs), length-append ys zs, sum_three i j k)

mutual
  pub term_count : (t : Tree Term) (n : ℕ) (cs : List Range) → length (term_notes n cs t) ≡ size t
  term_count (col j) n cs = refl
  term_count (lit v) n cs = refl
  term_count (plus a b) n cs = two (term_notes (n + 1) cs a) (term_notes (past (n + 1) a) cs b) (size a) (size b) (term_count a (n + 1) cs) (term_count b (past (n + 1) a) cs)
  term_count (times a b) n cs = two (term_notes (n + 1) cs a) (term_notes (past (n + 1) a) cs b) (size a) (size b) (term_count a (n + 1) cs) (term_count b (past (n + 1) a) cs)
  term_count (pick c a b) n cs = three (condition_notes (n + 1) cs c) (term_notes (past (n + 1) c) cs a) (term_notes (past (past (n + 1) c) a) cs b) (size c) (size a) (size b) (condition_count c (n + 1) cs) (term_count a (past (n + 1) c) cs) (term_count b (past (past (n + 1) c) a) cs)

  pub condition_count : (d : Tree Condition) (n : ℕ) (cs : List Range) → length (condition_notes n cs d) ≡ size d
  condition_count (less a b) n cs = two (term_notes (n + 1) cs a) (term_notes (past (n + 1) a) cs b) (size a) (size b) (term_count a (n + 1) cs) (term_count b (past (n + 1) a) cs)
  condition_count (equal a b) n cs = two (term_notes (n + 1) cs a) (term_notes (past (n + 1) a) cs b) (size a) (size b) (term_count a (n + 1) cs) (term_count b (past (n + 1) a) cs)
  condition_count (either c d) n cs = two (condition_notes (n + 1) cs c) (condition_notes (past (n + 1) c) cs d) (size c) (size d) (condition_count c (n + 1) cs) (condition_count d (past (n + 1) c) cs)
  condition_count (not c) n cs = one (condition_notes (n + 1) cs c) (size c) (condition_count c (n + 1) cs)

pub bag_count : (b : Tree Bag) (n : ℕ) (c : Catalogue) → length (bag_notes n c b) ≡ size b
bag_count (bag k) n c = refl
bag_count (keep b d) n c = two (bag_notes (n + 1) c b) (condition_notes (past (n + 1) b) (columns_in (bag_typed (n + 1) c b)) d) (size b) (size d) (bag_count b (n + 1) c) (condition_count d (past (n + 1) b) (columns_in (bag_typed (n + 1) c b)))
bag_count (put j b t) n c = two (bag_notes (n + 1) c b) (term_notes (past (n + 1) b) (columns_in (bag_typed (n + 1) c b)) t) (size b) (size t) (bag_count b (n + 1) c) (term_count t (past (n + 1) b) (columns_in (bag_typed (n + 1) c b)))
bag_count (pool a b) n c = two (bag_notes (n + 1) c a) (bag_notes (past (n + 1) a) c b) (size a) (size b) (bag_count a (n + 1) c) (bag_count b (past (n + 1) a) c)

pair : (a b : Tree Number) (n : ℕ) (c : Catalogue) (rs inner : List Range) → length (number_notes (n + 1) c rs a) ≡ size a → length (number_notes (past (n + 1) a) c inner b) ≡ size b → suc (length (number_notes (n + 1) c rs a ++ number_notes (past (n + 1) a) c inner b)) ≡ suc (sum (size a ∷ size b ∷ []))
pair a b n c rs inner e f = two (number_notes (n + 1) c rs a) (number_notes (past (n + 1) a) c inner b) (size a) (size b) e f

pub number_count : (t : Tree Number) (n : ℕ) (c : Catalogue) (rs : List Range) → length (number_notes n c rs t) ≡ size t
number_count (num v) n c rs = refl
number_count (setting k) n c rs = refl
number_count (var i) n c rs = refl
number_count (count b) n c rs = one (bag_notes (n + 1) c b) (size b) (bag_count b (n + 1) c)
number_count (sum_of lo hi b t) n c rs = two (bag_notes (n + 1) c b) (term_notes (past (n + 1) b) (columns_in (bag_typed (n + 1) c b)) t) (size b) (size t) (bag_count b (n + 1) c) (term_count t (past (n + 1) b) (columns_in (bag_typed (n + 1) c b)))
number_count (add a b) n c rs = pair a b n c rs rs (number_count a (n + 1) c rs) (number_count b (past (n + 1) a) c rs)
number_count (sub a b) n c rs = pair a b n c rs rs (number_count a (n + 1) c rs) (number_count b (past (n + 1) a) c rs)
number_count (least a b) n c rs = pair a b n c rs rs (number_count a (n + 1) c rs) (number_count b (past (n + 1) a) c rs)
number_count (most a b) n c rs = pair a b n c rs rs (number_count a (n + 1) c rs) (number_count b (past (n + 1) a) c rs)
number_count (scale v a) n c rs = one (number_notes (n + 1) c rs a) (size a) (number_count a (n + 1) c rs)
number_count (clip lo hi a) n c rs = one (number_notes (n + 1) c rs a) (size a) (number_count a (n + 1) c rs)
number_count (let_in a b) n c rs =
    let inner = range_in (number_typed (n + 1) c rs a) ∷ rs in
    pair a b n c rs inner (number_count a (n + 1) c rs) (number_count b (past (n + 1) a) c inner)
