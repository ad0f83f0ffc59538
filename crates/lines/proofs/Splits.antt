-- How a line is split: the first of its pieces, how far they go, and the word before them.
use Rattle.std.proofs.Common.{◌≡◌, ℕ, ◌+◌, ◌≤◌, Bool, true, false, cond, not, eqb, List, [], ◌∷◌, length, take, drop, Some, None, Option, refl, ap, one-add, arith}
use Rattle.std.proofs.lemmas.List.Sums.{prefix_len-le-length}
use Rattle.std.proofs.lemmas.Option.{cond_some}
use Rattle.std.specs.List.{onto_first, position_or_len, prefix_len, take_while}
use Rattle.lines.specs.Heading.{pieces_in}
use Rattle.lines.specs.Split.{inner, space, fields, filled, filled_run, one_more, pieces_run}

-- the first field ends at the first space
pub fields_run : (bs : List ℕ) → fields bs ≡ take (position_or_len space bs) bs ∷ pieces_in (drop (position_or_len space bs) bs)
fields_run [] = refl
fields_run (c ∷ cs) = go (space c) (fields_run cs)
  where
    go : (t : Bool) → fields cs ≡ take (position_or_len space cs) cs ∷ pieces_in (drop (position_or_len space cs) cs) → cond t ([] ∷ fields cs) (onto_first c (fields cs)) ≡ take (cond (not t) (1 + position_or_len space cs) 0) (c ∷ cs) ∷ pieces_in (drop (cond (not t) (1 + position_or_len space cs) 0) (c ∷ cs))
    go true ih = refl
    go false ih = rw one-add (ap (onto_first c) ih)

pub filled_le : (bs : List ℕ) (k : ℕ) → filled_run bs ≡ Some k → k ≤ length bs
filled_le bs k e = omega (arith, prefix_len-le-length inner bs, (cond_some (filled (fields (take_while inner bs))) (prefix_len inner bs) k e).1)

pub pieces_le : (bs : List ℕ) (k : ℕ) → pieces_run bs ≡ Some k → k ≤ length bs
pieces_le [] k e = grind arith
pieces_le (c ∷ cs) k e = go (eqb c 32) (filled_run cs) refl e
  where
    go : (t : Bool) (o : Option ℕ) → filled_run cs ≡ o → cond t (one_more o) (Some 0) ≡ Some k → k ≤ length (c ∷ cs)
    go true None f e = grind arith
    go true (Some m) f e = grind (arith, filled_le cs m f)
    go false o f e = grind arith
