-- What is known of a line that stands where it may.
use Rattle.std.proofs.Common.{◌≡◌, ℕ, ◌<◌, Bool, true, false, cond, ◌&&◌, ltb, length, Ok, Err, Option, Result, refl, sym, ap, ◌∙◌}
use Rattle.std.proofs.lemmas.Bool.{and_parts, ltb-true}
use Rattle.trees.specs.Size.{max_depth, max_forms}
use Rattle.lines.specs.declared.heading.Heading.{Heading}
use Rattle.lines.specs.declared.token.Token.{Token}
use Rattle.reading.specs.declared.fault.FormFault.{FormFault}
use Rattle.reading.specs.declared.fault.FormFault.TheVariants.{Misplaced, TooLarge}
use Rattle.reading.specs.declared.frame.Frame.{Frame}
use Rattle.reading.specs.Progress.{State}
use Rattle.reading.specs.Stack.{first_of}
use Rattle.reading.specs.Decide.{wanted, fits, leaves_open, has_room, line_of, placed}

pub record Admitted (o : Option Frame) (depth forms : ℕ) (last : Bool) (t : Token Heading) : Type 0 where
  pub fit : fits o (wanted o forms) t ≡ true
  pub shut : (last && leaves_open depth t) ≡ false
  pub roomy : has_room depth forms t ≡ true

-- where a state stands
abbrev pub Allowed : State → Bool → Token Heading → Type 0
Allowed s last t = Admitted (first_of s.at.open_forms) (length s.at.open_forms) s.at.forms last t

abbrev pub Placed : Type 0
Placed = Result (Unit {0}) FormFault

three_tests : (x y z : Bool) (e f g : FormFault) → ◌≡◌ {A = Placed} (cond {A = Placed} x (cond {A = Placed} y (Err e) (cond {A = Placed} z (Ok tt) (Err f))) (Err g)) (Ok tt) → (x ≡ true) × (y ≡ false) × (z ≡ true)
three_tests true true z e f g h = absurd (cc)
three_tests true false true e f g h = (refl, refl, refl)
three_tests true false false e f g h = absurd (cc)
three_tests false y z e f g h = absurd (cc)

module _ (o : Option Frame) (depth forms : ℕ) (last : Bool) where
  pub admitted : (t : Token Heading) → placed o depth forms last t ≡ Ok tt → Admitted o depth forms last t
  admitted t e =
      let (x, y, z) = three_tests (fits o (wanted o forms) t) (last && leaves_open depth t) (has_room depth forms t) (Misplaced (line_of t)) (TooLarge (line_of t)) (Misplaced (line_of t)) e in
      record { fit = x; shut = y; roomy = z }

-- where there is room, the depth and the forms are below their limits
pub room_below : (depth forms : ℕ) → (ltb depth max_depth && ltb forms max_forms) ≡ true → (depth < max_depth) × (forms < max_forms)
room_below depth forms e = let (x, y) = and_parts (ltb depth max_depth) (ltb forms max_forms) e in (ltb-true depth max_depth x, ltb-true forms max_forms y)

-- there is room for a form that may stand there
pub room_for : (o : Option Frame) (depth forms : ℕ) (last : Bool) (t u : Token Heading) (r : Placed) → r ≡ placed o depth forms last t → r ≡ Ok tt → t ≡ u → has_room depth forms u ≡ (ltb depth max_depth && ltb forms max_forms) → (depth < max_depth) × (forms < max_forms)
room_for o depth forms last t u r e f same is = room_below depth forms (sym is ∙ ap (has_room depth forms) (sym same) ∙ (admitted o depth forms last t (sym e ∙ f)).roomy)
