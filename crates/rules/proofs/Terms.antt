-- A typed term has its value within its range, and is calm, on every row that fits the columns.
use Rattle.std.proofs.Common.{◌≡◌, ℕ, zero, suc, ◌+◌, ◌<◌, ◌≤◌, Bool, true, false, cond, List, [], ◌∷◌, length, get_or, ℤ, pos, negsuc, ◌+ℤ◌, ◌*ℤ◌, nat_abs, Ok, subst, arith}
use lib.Signed.{≤ℤ_refl}
use Rattle.refusals.specs.Rules.{or_else, refusal}
use Rattle.sources.specs.Shapes.{column}
use Rattle.sources.specs.Source.{Fits}
use Rattle.sources.specs.Unions.{hull}
use Rattle.sources.specs.declared.shapes.Range.{Range}
use Rattle.std.proofs.lemmas.Bool.{false≢true}
use Rattle.forms.specs.Calm.{CalmCondition, CalmTerm}
use Rattle.forms.specs.Limits.{term_bound}
use Rattle.forms.specs.Lined.{past}
use Rattle.trees.specs.declared.Kind.TheVariants.{Condition, Term}
use Rattle.trees.specs.Meaning.{Row, at, holds, value}
use Rattle.trees.specs.Tree.{Tree}
use Rattle.trees.specs.Tree.Tree.{col, lit, plus, times, pick, less, equal, either, not}
use Rattle.rules.specs.Ranges.{bounded, point, products, sums}
use Rattle.rules.specs.Typing.{after_two, condition_typed, index, place, scope_rule, settled_term, term_rule, term_typed}
use Rattle.rules.proofs.Bounds.{In, in_bound, in_hull_left, in_hull_right, in_products, in_sums, within_in}
use Rattle.rules.proofs.Steps.{after_ok, after_two_ok, both_none, index_below, place_below, settle_ok}

-- a cell of a row that fits lies within its column
cell_in : (cs : List Range) (r : Row) → Fits cs r → (j : ℕ) → j < length cs → In (column cs j) (get_or r j (pos 0))
cell_in [] r f j h = absurd (omega arith)
cell_in (c ∷ cs) [] f j h = absurd f
cell_in (c ∷ cs) (z ∷ zs) f zero h = within_in c z f.0
cell_in (c ∷ cs) (z ∷ zs) f (suc j) h = cell_in cs zs f.1 j (omega arith)

-- the value of a settled term, and that it is within the bound
term_settled : (n : ℕ) (ok : Bool) (a x : Range) → settled_term n ok a ≡ Ok x → (ok ≡ true) × (bounded term_bound a ≡ true) × (a ≡ x)
term_settled n ok a x e =
    let s = settle_ok (or_else (scope_rule n ok) (term_rule n a)) a x e in
    let p = both_none ok (bounded term_bound a) (refusal 11 n 0) (refusal 12 n 0) s.0 in
    (p.0, p.1, s.1)

-- where a term's value lies within what it was settled for, it lies within its type and the bound
kept : (n : ℕ) (ok : Bool) (a x : Range) (v : ℤ) → settled_term n ok a ≡ Ok x → In a v → In x v × (nat_abs v ≤ term_bound)
kept n ok a x v e h =
    let s = term_settled n ok a x e in
    (subst (λ y. In y v) s.2 h, in_bound term_bound a v s.1 h)

picked : (b : Bool) (x y : Range) (u v : ℤ) → In x u → In y v → In (hull x y) (cond b u v)
picked true x y u v p q = in_hull_left x y u p
picked false x y u v p q = in_hull_right x y v q

place_value : (r : Row) (cs : List Range) (j : ℤ) → place (length cs) j ≡ true → Fits cs r → In (column cs (index j)) (at r j (pos 0))
place_value r cs (pos j) e fit = cell_in cs r fit j (index_below (length cs) (pos j) e)
place_value r cs (negsuc j) e fit = absurd (false≢true e)

module _ (cs : List Range) (few : length cs ≤ 6) (r : Row) (fit : Fits cs r) where
  mutual
    pub term_kept : (t : Tree Term) (n : ℕ) (x : Range) → term_typed n cs t ≡ Ok x → In x (value t r) × CalmTerm t r
    term_kept (col j) n x e =
        let s = term_settled n (place (length cs) j) (column cs (index j)) x e in
        let k = kept n (place (length cs) j) (column cs (index j)) x (at r j (pos 0)) e (place_value r cs j s.0 fit) in
        let b = place_below (length cs) j s.0 in
        (k.0, ((b.0, b.1, omega (arith, b.2)), k.1))
    term_kept (lit v) n x e = kept n true (point v) x v e (≤ℤ_refl v, ≤ℤ_refl v)
    term_kept (plus a b) n x e =
        let (y, z, p, q, s) = after_two_ok (term_typed (n + 1) cs a) (term_typed (past (n + 1) a) cs b) (λ u w. settled_term n true (sums u w)) x e in
        let f = term_kept a (n + 1) y p in
        let g = term_kept b (past (n + 1) a) z q in
        let k = kept n true (sums y z) x (value a r +ℤ value b r) s (in_sums y z (value a r) (value b r) f.0 g.0) in
        (k.0, (k.1, f.1, g.1))
    term_kept (times a b) n x e =
        let (y, z, p, q, s) = after_two_ok (term_typed (n + 1) cs a) (term_typed (past (n + 1) a) cs b) (λ u w. settled_term n true (products u w)) x e in
        let f = term_kept a (n + 1) y p in
        let g = term_kept b (past (n + 1) a) z q in
        let k = kept n true (products y z) x (value a r *ℤ value b r) s (in_products y z (value a r) (value b r) f.0 g.0) in
        (k.0, (k.1, f.1, g.1))
    term_kept (pick c a b) n x e =
        let (u, h, rest) = after_ok (condition_typed (n + 1) cs c) (λ _. after_two (term_typed (past (n + 1) c) cs a) (term_typed (past (past (n + 1) c) a) cs b) (λ v w. settled_term n true (hull v w))) x e in
        let (y, z, p, q, s) = after_two_ok (term_typed (past (n + 1) c) cs a) (term_typed (past (past (n + 1) c) a) cs b) (λ v w. settled_term n true (hull v w)) x rest in
        let f = term_kept a (past (n + 1) c) y p in
        let g = term_kept b (past (past (n + 1) c) a) z q in
        ((kept n true (hull y z) x (cond (holds c r) (value a r) (value b r)) s (picked (holds c r) y z (value a r) (value b r) f.0 g.0)).0, (condition_kept c (n + 1) u h, f.1, g.1))

    pub condition_kept : (c : Tree Condition) (n : ℕ) (u : Unit {0}) → condition_typed n cs c ≡ Ok u → CalmCondition c r
    condition_kept (less a b) n u e =
        let (y, z, p, q, s) = after_two_ok (term_typed (n + 1) cs a) (term_typed (past (n + 1) a) cs b) (λ _ _. Ok tt) u e in
        ((term_kept a (n + 1) y p).1, (term_kept b (past (n + 1) a) z q).1)
    condition_kept (equal a b) n u e =
        let (y, z, p, q, s) = after_two_ok (term_typed (n + 1) cs a) (term_typed (past (n + 1) a) cs b) (λ _ _. Ok tt) u e in
        ((term_kept a (n + 1) y p).1, (term_kept b (past (n + 1) a) z q).1)
    condition_kept (either c d) n u e =
        let (y, z, p, q, s) = after_two_ok (condition_typed (n + 1) cs c) (condition_typed (past (n + 1) c) cs d) (λ _ _. Ok tt) u e in
        (condition_kept c (n + 1) y p, condition_kept d (past (n + 1) c) z q)
    condition_kept (not c) n u e = condition_kept c (n + 1) u e
