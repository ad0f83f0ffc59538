-- The cells beyond a row's width, which are 0 in code, are seen by no term, no condition and no step.
use Rattle.std.proofs.Common.{◌≡◌, ℕ, zero, suc, ◌-◌, ◌≤◌, Bool, true, false, cond, not as negated, ◌||◌, List, [], ◌∷◌, ◌++◌, length, get_or, set, replicate, ℤ, pos, negsuc, ◌+ℤ◌, ◌*ℤ◌, Some, None, Option, sym, refl, ap, ◌∙◌, subst, ap₂, arith}
use lib.Signed.{lt_z}
use Rattle.std.proofs.lemmas.List.{ext_get_or, length-append, length-replicate, length-set, set-append_left}
use Rattle.std.specs.Option.{option_map}
use Rattle.trees.specs.Meaning.{Row, at, eq_z, holds, value, with_cell}
use Rattle.trees.specs.Tree.Tree.{col, lit, plus, times, pick, less, equal, either, not}
use Rattle.forms.specs.Calm.{CalmCondition, CalmTerm, PlaceBelow, Within}
use Rattle.forms.specs.Leaves.{CalmFrom, CalmWay, Step, WayWithin, and_then, arriving, carried}
use Rattle.forms.specs.Leaves.Step.{keeps, puts}
use Rattle.forms.specs.Limits.{cells, term_bound}
use Rattle.forms.specs.Padding.{Blind, Unseen, padded}
use Rattle.forms.specs.Table.{ConditionTree, TermTree}

get_or_zeros : (n i : ℕ) → get_or (replicate n (pos 0)) i (pos 0) ≡ pos 0
get_or_zeros zero i = refl
get_or_zeros (suc n) zero = refl
get_or_zeros (suc n) (suc i) = get_or_zeros n i

-- a cell beyond the row reads 0, with zeros behind the row or without
get_or_padding : (r : Row) (n i : ℕ) → get_or (r ++ replicate n (pos 0)) i (pos 0) ≡ get_or r i (pos 0)
get_or_padding [] n i = get_or_zeros n i
get_or_padding (x ∷ r) n zero = refl
get_or_padding (x ∷ r) n (suc i) = get_or_padding r n i

at_padded : (r : Row) (j : ℤ) → at (padded r) j (pos 0) ≡ at r j (pos 0)
at_padded r (pos i) = get_or_padding r (cells - length r) i
at_padded r (negsuc i) = refl

mutual
  value_padded : (t : TermTree) → Blind (value t)
  value_padded (col j) r = at_padded r j
  value_padded (lit n) r = refl
  value_padded (plus a b) r = ap₂ ◌+ℤ◌ (value_padded a r) (value_padded b r)
  value_padded (times a b) r = ap₂ ◌*ℤ◌ (value_padded a r) (value_padded b r)
  value_padded (pick c a b) r = ap (λ x. cond x (value a (padded r)) (value b (padded r))) (holds_padded c r) ∙ ap₂ (cond (holds c r)) (value_padded a r) (value_padded b r)

  holds_padded : (c : ConditionTree) (r : Row) → holds c (padded r) ≡ holds c r
  holds_padded (less a b) r = ap₂ lt_z (value_padded a r) (value_padded b r)
  holds_padded (equal a b) r = ap₂ eq_z (value_padded a r) (value_padded b r)
  holds_padded (either c d) r = ap₂ ◌||◌ (holds_padded c r) (holds_padded d r)
  holds_padded (not c) r = ap negated (holds_padded c r)

within_padded : (t : TermTree) (r : Row) → Within term_bound (value t r) → Within term_bound (value t (padded r))
within_padded t r h = subst (Within term_bound) (sym (value_padded t r)) h

mutual
  calm_term : (t : TermTree) (r : Row) → CalmTerm t r → CalmTerm t (padded r)
  calm_term (col j) r h = (h.0, within_padded (col j) r h.1)
  calm_term (lit n) r h = h
  calm_term (plus a b) r h = (within_padded (plus a b) r h.0, calm_term a r h.1, calm_term b r h.2)
  calm_term (times a b) r h = (within_padded (times a b) r h.0, calm_term a r h.1, calm_term b r h.2)
  calm_term (pick c a b) r h = (calm_condition c r h.0, calm_term a r h.1, calm_term b r h.2)

  calm_condition : (c : ConditionTree) (r : Row) → CalmCondition c r → CalmCondition c (padded r)
  calm_condition (less a b) r h = (calm_term a r h.0, calm_term b r h.1)
  calm_condition (equal a b) r h = (calm_term a r h.0, calm_term b r h.1)
  calm_condition (either c d) r h = (calm_condition c r h.0, calm_condition d r h.1)
  calm_condition (not c) r h = calm_condition c r h

length_with_cell : (r : Row) (j v : ℤ) → length (with_cell r j v) ≡ length r
length_with_cell r (pos i) v = length-set r i v
length_with_cell r (negsuc i) v = refl

put_padded : (r : Row) (j v : ℤ) → PlaceBelow (length r) j → with_cell (padded r) j v ≡ padded (with_cell r j v)
put_padded r j v (i, e, h) =
    subst (λ z. with_cell (padded r) z v ≡ padded (with_cell r z v)) (sym e) (set-append_left r (replicate (cells - length r) (pos 0)) i v h ∙ ap (λ n. set r i v ++ replicate (cells - n) (pos 0)) (sym (length-set r i v)))

-- a put cell within the row, in the padded row
put_there : (r : Row) (j : ℤ) (t : TermTree) → PlaceBelow (length r) j → with_cell (padded r) j (value t (padded r)) ≡ padded (with_cell r j (value t r))
put_there r j t k = ap (with_cell (padded r) j) (value_padded t r) ∙ put_padded r j (value t r) k

still_within : (r : Row) (j v : ℤ) (way : List Step) → WayWithin (length r) way → WayWithin (length (with_cell r j v)) way
still_within r j v way h = subst (λ n. WayWithin n way) (sym (length_with_cell r j v)) h

kept : (b : Bool) (way : List Step) (r : Row) → carried way (padded r) ≡ option_map padded (carried way r) → and_then (cond b (Some (padded r)) None) (carried way) ≡ option_map padded (and_then (cond b (Some r) None) (carried way))
kept true way r h = h
kept false way r h = refl

carried_padded : (way : List Step) (r : Row) → WayWithin (length r) way → carried way (padded r) ≡ option_map padded (carried way r)
carried_padded [] r h = refl
carried_padded (keeps c ∷ way) r h =
    ap (λ b. and_then (cond b (Some (padded r)) None) (carried way)) (holds_padded c r) ∙ kept (holds c r) way r (carried_padded way r h)
carried_padded (puts j t ∷ way) r h =
    ap (carried way) (put_there r j t h.0) ∙ carried_padded way (with_cell r j (value t r)) (still_within r j (value t r) way h.1)

calm_kept : (b : Bool) (way : List Step) (r : Row) → (CalmWay way r → CalmWay way (padded r)) → CalmFrom (CalmWay way) (cond b (Some r) None) → CalmFrom (CalmWay way) (cond b (Some (padded r)) None)
calm_kept true way r f h = f h
calm_kept false way r f h = tt

calm_way : (way : List Step) (r : Row) → WayWithin (length r) way → CalmWay way r → CalmWay way (padded r)
calm_way [] r w h = tt
calm_way (keeps c ∷ way) r w h =
    (calm_condition c r h.0, subst (λ b. CalmFrom (CalmWay way) (cond b (Some (padded r)) None)) (sym (holds_padded c r)) (calm_kept (holds c r) way r (calm_way way r w) h.1))
calm_way (puts j t ∷ way) r w h =
    ((h.0.0, calm_term t r h.0.1), subst (CalmWay way) (sym (put_there r j t w.0)) (calm_way way (with_cell r j (value t r)) (still_within r j (value t r) way w.1) h.1))

taken : (g : Row → ℤ) → Blind g → (o : Option Row) → arriving g (option_map padded o) ≡ arriving g o
taken g blind None = refl
taken g blind (Some r) = blind r

length_padded : (r : Row) → length r ≤ cells → length (padded r) ≡ cells
length_padded r h = omega (arith, length-append r (replicate (cells - length r) (pos 0)), length-replicate (cells - length r) (pos 0))

pub unseen : Unseen
unseen =
    record {
      read = λ xs r long short h. ext_get_or (pos 0) xs (padded r) (long ∙ sym (length_padded r short)) (λ j k. h j (omega (arith, long)) ∙ sym (get_or_padding r (cells - length r) j));
      terms = value_padded;
      calm = calm_way;
      arrives = λ g blind way r h. ap (arriving g) (carried_padded way r h) ∙ taken g blind (carried way r);
    }
