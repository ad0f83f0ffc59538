-- Each form that is begun stays open or goes into the table.
use Rattle.std.proofs.Common.{◌≡◌, Bool, List, [], ◌∷◌, length, Ok, Err, refl, ap, subst, arith}
use Rattle.std.proofs.lemmas.List.{length_push}
use Rattle.lines.specs.declared.heading.Heading.{Heading}
use Rattle.lines.specs.declared.token.Token.{Token}
use Rattle.lines.specs.declared.token.Token.TheVariants.{Opening, Leaf, Closing}
use Rattle.lines.specs.Line.{after}
use Rattle.reading.proofs.Places.{Allowed, Placed, admitted, room_below}
use Rattle.reading.specs.declared.frame.Frame.{Frame}
use Rattle.reading.specs.Decide.{placed}
use Rattle.reading.specs.Frame.{with_begun, with_part, entry_of, fresh}
use Rattle.reading.specs.Progress.{State, Balanced, innermost, after_line, close_innermost, step}
use Rattle.reading.specs.Stack.{first_of}

pub length_innermost : (f : Frame → Frame) (fs : List Frame) → length (innermost f fs) ≡ length fs
length_innermost f [] = refl
length_innermost f (x ∷ xs) = refl

-- a step is taken where the line may stand
pub taken : (s : State) (last : Bool) (t : Token Heading) (s' : State) → step s last t ≡ Ok s' → Allowed s last t × (after_line t s ≡ s')
taken s last t s' e = go (placed (first_of s.at.open_forms) (length s.at.open_forms) s.at.forms last t) refl e
  where
    go : (r : Placed) → placed (first_of s.at.open_forms) (length s.at.open_forms) s.at.forms last t ≡ r → after r (λ u. Ok (after_line t s)) ≡ Ok s' → Allowed s last t × (after_line t s ≡ s')
    go (Ok u) p f = (admitted (first_of s.at.open_forms) (length s.at.open_forms) s.at.forms last t p, cc)
    go (Err x) p f = absurd (cc)

after_balanced : (t : Token Heading) (s : State) (last : Bool) → Allowed s last t → Balanced s → Balanced (after_line t s)
after_balanced (Opening h n) s last a b =
    let below = room_below (length s.at.open_forms) s.at.forms a.roomy in
    record { all = omega (arith, length_innermost with_begun s.at.open_forms, b.all); few = omega (arith, below.1) }
after_balanced (Leaf h n) s last a b =
    let below = room_below (length s.at.open_forms) s.at.forms a.roomy in
    let begun = innermost with_begun s.at.open_forms in
    record {
      all = omega (arith, length_push s.entries (entry_of (fresh h n s.at.forms)), length_innermost (with_part (length s.entries)) begun, length_innermost with_begun s.at.open_forms, b.all);
      few = omega (arith, below.1);
    }
after_balanced (Closing n) s last a b = go s.at.open_forms refl
  where
    go : (fs : List Frame) → s.at.open_forms ≡ fs → Balanced (close_innermost fs s)
    go [] e = b
    go (f ∷ fs) e = record { all = omega (arith, length_push s.entries (entry_of f), length_innermost (with_part (length s.entries)) fs, b.all, ap length e); few = b.few }

pub step_balanced : (s : State) (last : Bool) (t : Token Heading) (s' : State) → step s last t ≡ Ok s' → Balanced s → Balanced s'
step_balanced s last t s' e b = let x = taken s last t s' e in subst Balanced x.1 (after_balanced t s last x.0 b)
