-- Lists over indices: how `array::from_fn` fills them, and two lists joined by their hulls.
use Rattle.std.proofs.Common.{◌≡◌, ℕ, zero, suc, ◌+◌, ◌<◌, ◌≤◌, List, [], ◌∷◌, map, length, get_or, sym, refl, ap, ◌∙◌, subst, ⊎_elim, arith}
use Rattle.sources.specs.Indexed.{listed, listed_at}
use Rattle.sources.specs.Shapes.{columns_of}
use Rattle.sources.specs.Unions.{hull, hulls}
use Rattle.sources.specs.declared.shapes.Range.{Range}
use Rattle.sources.specs.declared.shapes.Shape.{Shape}
use Rattle.std.proofs.lemmas.List.FromFn.{fill_by_all, length-map-range_with_len}
use Rattle.std.proofs.lemmas.Bool.{cases_eq}
use Rattle.std.specs.Array.{IsFromFnResultFrom}
use Rattle.std.specs.Fn.{Called}
use Rattle.std.specs.List.{range_with_len}
use denote.Param.Members.{Mut}

pub length_columns : (s : Shape) → length (columns_of s) ≡ s.width
length_columns s = length-map-range_with_len _ 0 s.width

-- what `array::from_fn` makes by a closure that computes h of the index
pub made_at : {F X : Type 0} (g : Mut F (ℕ × Unit {0}) X) (h : ℕ → X) (f : F) (ys : List X) (i n : ℕ) (d : X) → IsFromFnResultFrom g f ys i n → ((k : ℕ) (y : X) (q : F) → i ≤ k → k < i + n → Called g f (k, tt) y q → (q ≡ f) × (y ≡ h k)) → (k : ℕ) → i ≤ k → k < i + n → get_or ys k d ≡ h k
made_at g h f ys i zero d made call k low high = absurd (omega arith)
made_at {F} g h f ys i (suc n) d (q, y, at, called, rest) call k low high =
    let (same, is) = call i y q (omega arith) (omega arith) called in
    ⊎_elim
    (λ here. subst (λ j. get_or ys j d ≡ h j) (sym here) (at.1 d ∙ is))
    (λ other. made_at g h f ys (i + 1) n d (subst (λ (p : F). IsFromFnResultFrom g p ys (i + 1) n) same rest) (λ j z p l m. call j z p (omega arith) (omega arith)) k (omega arith) (omega arith))
    (cases_eq k i)

pub listed_same : {X : Type 0} (f g : ℕ → X) (n : ℕ) (d : X) → ((k : ℕ) → k < n → f k ≡ g k) → listed f n ≡ listed g n
listed_same f g n d same = fill_by_all g (listed f n) n d (length-map-range_with_len f 0 n) (λ k h. listed_at f n k d h ∙ same k h)

hulls_map : {X : Type 0} (f g : X → Range) (xs : List X) → map (λ x. hull (f x) (g x)) xs ≡ hulls (map f xs) (map g xs)
hulls_map f g [] = refl
hulls_map f g (x ∷ xs) = ap (λ cs. hull (f x) (g x) ∷ cs) (hulls_map f g xs)

pub hulls_listed : (f g h : ℕ → Range) (n : ℕ) (d : Range) → ((k : ℕ) → k < n → h k ≡ hull (f k) (g k)) → listed h n ≡ hulls (listed f n) (listed g n)
hulls_listed f g h n d each = listed_same h (λ k. hull (f k) (g k)) n d each ∙ hulls_map f g (range_with_len 0 n)
