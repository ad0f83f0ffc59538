-- What is known of each term and condition that is typed.
use Rattle.std.proofs.Common.{◌≡◌, ℕ, ◌+◌, ◌<◌, ◌≤◌, true, leb, List, [], ◌∷◌, ◌++◌, length, drop, nat_abs, is_some, None, Ok, Err, Result, sym, refl, ap, ◌∙◌, arith}
use Rattle.refusals.specs.Rules.{refusal, unless_none}
use Rattle.refusals.specs.declared.Refusal.{Refusal}
use Rattle.sources.specs.declared.shapes.Range.{Range}
use Rattle.std.proofs.lemmas.Bool.{and_from, le-leb}
use Rattle.forms.specs.Limits.{number_bound, term_bound}
use Rattle.forms.specs.Lined.{past}
use Rattle.forms.specs.Table.{ConditionTree, TermTree}
use Rattle.trees.specs.Size.{size}
use Rattle.trees.specs.Tree.Tree.{col, lit, plus, times, pick, less, equal, either, not}
use Rattle.rules.proofs.Products.{ends_near}
use Rattle.rules.specs.Ranges.{bounded}
use Rattle.rules.specs.Typing.{after, term_rule, term_typed}
use Rattle.types.specs.declared.fault.RuleFault.{RuleFault}
use Rattle.typing.specs.Notes.{condition_note, condition_notes, noted, noted_at, term_note, term_notes}
use Rattle.typing.specs.Terms.{terms_typed}
use Rattle.typing.specs.Told.{Drafted}
use Rattle.typing.specs.declared.note.Note.{Note}
use Rattle.typing.proofs.Lengths.{condition_count, term_count}
use Rattle.typing.proofs.Noting.{noted_both}

pub terms_two : (n : ℕ) (cs : List Range) (a b : TermTree) (x y : Range) → term_typed n cs a ≡ Ok x → term_typed (past n a) cs b ≡ Ok y → terms_typed n cs a b ≡ Ok (x, y)
terms_two n cs a b x y e f = rw (e, f)

-- a last stage that adds nothing
pub only : (m : Result (Unit {0}) Refusal) → after m (λ _. Ok tt) ≡ m
only (Ok u) = refl
only (Err r) = refl

-- the first note of a term or a condition is its own
pub term_own : (t : TermTree) (n : ℕ) (cs : List Range) → term_notes n cs t ≡ noted term_note (term_typed n cs t) ∷ drop 1 (term_notes n cs t)
term_own (col j) n cs = refl
term_own (lit v) n cs = refl
term_own (plus a b) n cs = refl
term_own (times a b) n cs = refl
term_own (pick c a b) n cs = refl

pub condition_own : (d : ConditionTree) (n : ℕ) (cs : List Range) → condition_notes n cs d ≡ condition_note ∷ drop 1 (condition_notes n cs d)
condition_own (less a b) n cs = refl
condition_own (equal a b) n cs = refl
condition_own (either c d) n cs = refl
condition_own (not c) n cs = refl

-- a bounded term is a bounded number
pub wider : (x : Range) → bounded term_bound x ≡ true → bounded number_bound x ≡ true
wider x e =
    let p = ends_near term_bound x e in
    and_from (leb (nat_abs x.low) number_bound) (leb (nat_abs x.high) number_bound) (le-leb (nat_abs x.low) number_bound (omega (arith, p.0))) (le-leb (nat_abs x.high) number_bound (omega (arith, p.1)))

-- a settled term is within its bound
pub settled_within : (n : ℕ) (x : Range) → None ≡ term_rule n x → bounded term_bound x ≡ true
settled_within n x e = unless_none (bounded term_bound x) (refusal 12 n 0) (ap is_some (sym e))

-- there is at least one form
pub term_some : (t : TermTree) → 0 < size t
term_some t = omega (arith, term_count t 0 [], ap length (term_own t 0 []))

pub condition_some : (d : ConditionTree) → 0 < size d
condition_some d = omega (arith, condition_count d 0 [], ap length (condition_own d 0 []))

-- a condition behind another: its notes stand behind those of the other, and its reply is that of both
pub behind : (before : List Note) (o m : ℕ) (xs ys between : List Note) → between ≡ noted_at before o xs → length xs ≡ m → o ≤ length before → (s : Result (Unit {0}) Refusal) {whole : Result (Unit {0}) Refusal} → whole ≡ s → (r : Result (Unit {0}) RuleFault) (now_noted : List Note) → Drafted (λ x. x) (λ _. None) (λ _. Unit {0}) s between (o + m) ys r now_noted → Drafted (λ x. x) (λ _. None) (λ _. Unit {0}) whole before o (xs ++ ys) r now_noted
behind before o m xs ys between b e h s w (Ok u) now_noted d = (w ∙ d.0, noted_both before o m xs ys between now_noted b d.1 e h, tt)
behind before o m xs ys between b e h s w (Err f) now_noted d = w ∙ d
