-- The lines of a text, one turn after the other.
use Rattle.std.proofs.Common.{◌≡◌, ℕ, ◌+◌, ◌<◌, Bool, false, eqb, List, length, Ok, Err, Result, sym, ap, ◌∙◌, subst, arith}
use Rattle.std.proofs.lemmas.Bool.{eqb-false}
use Rattle.forms.specs.declared.form.Entry.{Entry}
use Rattle.lines.specs.declared.heading.Heading.{Heading}
use Rattle.lines.specs.declared.token.Token.{Token}
use Rattle.lines.specs.Line.{after, line_read}
use Rattle.reading.proofs.Cut.{turn, no_lines}
use Rattle.reading.proofs.Places.{Placed}
use Rattle.reading.specs.declared.fault.FormFault.{FormFault}
use Rattle.reading.specs.Progress.{State, step}
use Rattle.reading.specs.Text.{lines_of, lines_read, beginning, kinds_read, Fills}

-- a line is read from what is left of the text
pub record Turn (s : State) (n : ℕ) (bs : List ℕ) (t : Token Heading) (more : List ℕ) (last : Bool) : Type 0 where
  pub goes : (r : Result State FormFault) → step s last t ≡ r → lines_read s n (lines_of bs) ≡ after r (λ s'. lines_read s' (n + 1) (lines_of more))
  pub shorter : length more < length bs

pub some_left : (bs : List ℕ) (empty : Bool) → empty ≡ eqb (length bs) 0 → empty ≡ false → 0 < length bs
some_left bs empty e f = let more = eqb-false (length bs) 0 (sym e ∙ f) in omega (arith, more)

pub turned : (s : State) (n : ℕ) (bs : List ℕ) (t : Token Heading) (more : List ℕ) (last : Bool) → 0 < length bs → Ok (t, more) ≡ line_read n bs → last ≡ eqb (length more) 0 → Turn s n bs t more last
turned s n bs t more last h reads l =
    let x = turn s n bs t more h (sym reads) in
    record {
      goes = λ r e.
          x.0
          ∙ ap (λ (b : Bool). after (step s b t) (λ s'. lines_read s' (n + 1) (lines_of more))) (no_lines more ∙ sym l)
          ∙ ap (λ (r : Result State FormFault). after r (λ s'. lines_read s' (n + 1) (lines_of more))) e;
      shorter = x.1;
    }

abbrev kinds_first : Result State FormFault → Result (List Entry) FormFault
kinds_first r = after r (λ s. after (kinds_read s.at.wrong) (λ u. Ok s.entries))

pub refused : (text : List ℕ) (x : FormFault) (r : Placed) (es : List Entry) → lines_read beginning 1 (lines_of text) ≡ Err x → r ≡ Err x → Fills text r es
refused text x r es e f = subst (λ (y : Placed). Fills text y es) (sym f) (ap kinds_first e)
