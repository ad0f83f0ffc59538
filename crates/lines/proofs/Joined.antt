-- Pieces are filled up to the first byte that does not go on with them, if that stands behind no space.
use Rattle.std.proofs.Common.{◌≡◌, ℕ, ◌+◌, Bool, true, false, cond, not, eqb, ◌&&◌, List, [], ◌∷◌, length, get_or, take, Some, None, Option, sym, refl, ap, ap₂, ◌∙◌, one-add, arith, rules}
use Rattle.std.specs.Bool.{then_some}
use Rattle.std.specs.List.{onto_first, prefix_len, take_while, zip}
use Rattle.lines.specs.Split.{fields, filled, inner, joins, one_more, pieces_run, space}

-- no field is empty; behind a byte that is no space the first field goes on, and may be
abbrev filled_behind : Bool → List (List ℕ) → Bool
filled_behind true fs = filled fs
filled_behind false [] = true
filled_behind false (f ∷ fs) = filled fs

abbrev unless : Bool → ℕ → Option ℕ
unless b n = cond b None (Some n)

abbrev where_true : Bool → ℕ → Option ℕ
where_true b n = cond b (Some n) None

one_on : (a b u : Bool) (m k : ℕ) → a ≡ b → unless b m ≡ where_true u k → unless a (1 + m) ≡ where_true u (1 + k)
one_on a b u m k e h = ap (λ (x : Bool). unless x (1 + m)) e ∙ go b u h
  where
    go : (b u : Bool) → unless b m ≡ where_true u k → unless b (1 + m) ≡ where_true u (1 + k)
    go true true h = grind arith
    go true false h = refl
    go false true h = grind arith
    go false false h = grind arith

taken : (c : ℕ) (cs : List ℕ) (k : ℕ) → take (1 + k) (c ∷ cs) ≡ c ∷ take k cs
taken c cs k = rw one-add refl

-- a field with a byte is not empty
some : (c : ℕ) (f : List ℕ) (fs : List (List ℕ)) → filled ((c ∷ f) ∷ fs) ≡ filled fs
some c f fs = let e : eqb (length (c ∷ f)) 0 ≡ false = search rules in rw e refl

later : (p : ℕ) (bs : List ℕ) (m : ℕ) → space (get_or (p ∷ bs) (1 + m) 0) ≡ space (get_or bs m 0)
later p bs m = rw one-add refl

-- p is the byte before bs
abbrev len : ℕ → List ℕ → ℕ
len p bs = prefix_len joins (zip (p ∷ bs) bs)

joined : (p : ℕ) (bs : List ℕ) → unless (space (get_or (p ∷ bs) (len p bs) 0)) (len p bs) ≡ where_true (filled_behind (space p) (fields (take_while inner bs))) (prefix_len inner bs)
joined p [] = go (space p)
  where
    go : (t : Bool) → unless t 0 ≡ where_true (filled_behind t ([] ∷ [])) 0
    go true = refl
    go false = refl
joined p (c ∷ cs) = go (space p) (inner c) refl (joined c cs)
  where
    m : ℕ
    m = len c cs

    k : ℕ
    k = prefix_len inner cs

    ys : List ℕ
    ys = take_while inner cs

    before : ℕ → Bool
    before n = space (get_or (p ∷ c ∷ cs) n 0)

    goes : (s u : Bool) (fs : List (List ℕ)) → space p ≡ s → unless (space (get_or (c ∷ cs) m 0)) m ≡ where_true (filled_behind u fs) k → unless (before (cond (not (s && u)) (1 + m) 0)) (cond (not (s && u)) (1 + m) 0) ≡ where_true (filled_behind s (cond u ([] ∷ fs) (onto_first c fs))) (1 + k)
    goes true true fs e ih = ap (λ (b : Bool). unless b 0) e
    goes true false [] e ih = one_on (before (1 + m)) (space (get_or (c ∷ cs) m 0)) true m k (later p (c ∷ cs) m) ih ∙ ap (λ (b : Bool). where_true b (1 + k)) (sym (some c [] []))
    goes true false (f ∷ fs) e ih = one_on (before (1 + m)) (space (get_or (c ∷ cs) m 0)) (filled fs) m k (later p (c ∷ cs) m) ih ∙ ap (λ (b : Bool). where_true b (1 + k)) (sym (some c f fs))
    goes false true fs e ih = one_on (before (1 + m)) (space (get_or (c ∷ cs) m 0)) (filled fs) m k (later p (c ∷ cs) m) ih
    goes false false [] e ih = one_on (before (1 + m)) (space (get_or (c ∷ cs) m 0)) true m k (later p (c ∷ cs) m) ih
    goes false false (f ∷ fs) e ih = one_on (before (1 + m)) (space (get_or (c ∷ cs) m 0)) (filled fs) m k (later p (c ∷ cs) m) ih

    go : (s t : Bool) → space p ≡ s → unless (space (get_or (c ∷ cs) m 0)) m ≡ where_true (filled_behind (space c) (fields ys)) k → unless (before (cond (t && not (s && space c)) (1 + m) 0)) (cond (t && not (s && space c)) (1 + m) 0) ≡ where_true (filled_behind s (fields (take (cond t (1 + k) 0) (c ∷ cs)))) (cond t (1 + k) 0)
    go s true e ih = goes s (space c) (fields ys) e ih ∙ ap (λ (bs : List ℕ). where_true (filled_behind s (fields bs)) (1 + k)) (sym (taken c cs k))
    go true false e ih = ap (λ (b : Bool). unless b 0) e
    go false false e ih = ap (λ (b : Bool). unless b 0) e

one_more_unless : (b : Bool) (n : ℕ) → then_some (not b) (n + 1) ≡ one_more (unless b n)
one_more_unless true n = refl
one_more_unless false n = refl

-- what a loop over the bytes tells, each looked at with the one before it
pub pieces_joined : (bs rest : List ℕ) (n : ℕ) → bs ≡ 32 ∷ rest → n ≡ prefix_len joins (zip bs rest) → then_some (not (eqb (get_or bs n 0) 32)) (n + 1) ≡ pieces_run bs
pieces_joined bs rest n e f =
    ap₂ (λ (xs : List ℕ) (k : ℕ). then_some (not (eqb (get_or xs k 0) 32)) (k + 1)) e (f ∙ ap (λ (xs : List ℕ). prefix_len joins (zip xs rest)) e)
    ∙ one_more_unless (eqb (get_or (32 ∷ rest) (len 32 rest) 0) 32) (len 32 rest)
    ∙ ap one_more (joined 32 rest)
    ∙ sym (ap pieces_run e)
