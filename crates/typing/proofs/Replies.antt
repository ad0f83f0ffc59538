-- A reply that is told by an equation, with notes that are known.
use Rattle.std.proofs.Common.{◌≡◌, ℕ, ◌+◌, ◌≤◌, Bool, true, false, List, ◌++◌, length, IfOk, Ok, Err, Option, Result, sym, ap, ◌∙◌, arith}
use Rattle.refusals.specs.Rules.{or_else}
use Rattle.refusals.specs.declared.Refusal.{Refusal}
use Rattle.rules.specs.Typing.{scope_rule, settle}
use Rattle.types.specs.Faults.{told}
use Rattle.types.specs.declared.fault.RuleFault.{RuleFault}
use Rattle.typing.specs.Notes.{noted_at}
use Rattle.typing.specs.Told.{Drafted, Typed}
use Rattle.typing.specs.declared.note.Note.{Note}
use Rattle.typing.proofs.Noting.{noted_in_front}

pub replied : {X Y : Type 0} (shown : X → Y) (good : X → Type 0) (s : Result Y Refusal) (before : List Note) (o : ℕ) (ns : List Note) (r : Result X RuleFault) (now_noted : List Note) → s ≡ told shown r → now_noted ≡ noted_at before o ns → IfOk r good → Typed shown good s before o ns r now_noted
replied shown good s before o ns (Ok x) now_noted e n g = (e, n, g)
replied shown good s before o ns (Err f) now_noted e n g = e

-- a form is in scope or not, and its type has yet to be held to a rule
pub drafted : {X Y : Type 0} (shown : X → Y) (rule : Y → Option Refusal) (n : ℕ) (ok : Bool) (z : Y) (before : List Note) (o : ℕ) (ns : List Note) (r : Result X RuleFault) (now_noted : List Note) → told shown r ≡ settle (scope_rule n ok) z → now_noted ≡ noted_at before o ns → Drafted shown rule (λ _. Unit {0}) (settle (or_else (scope_rule n ok) (rule z)) z) before o ns r now_noted
drafted {X} {Y} shown rule n true z before o ns (Ok x) now_noted e h = let same : shown x ≡ z = cc in (ap (λ (w : Y). settle (rule w) w) (sym same), h, tt)
drafted shown rule n true z before o ns (Err f) now_noted e h = let k : ◌≡◌ {A = ℕ} 0 1 = cc in absurd (omega arith)
drafted shown rule n false z before o ns (Ok x) now_noted e h = let k : ◌≡◌ {A = ℕ} 0 1 = cc in absurd (omega arith)
drafted shown rule n false z before o ns (Err f) now_noted e h = sym e

-- What was written in the front part of the places, told of all places.
pub in_front : {X Y : Type 0} (shown : X → Y) (good : X → Type 0) (s : Result Y Refusal) (front rest : List Note) (o : ℕ) (ns : List Note) (r : Result X RuleFault) (now_noted : List Note) → o + length ns ≤ length front → Typed shown good s front o ns r now_noted → Typed shown good s (front ++ rest) o ns r (now_noted ++ rest)
in_front shown good s front rest o ns (Ok x) now_noted fits (e, n, g) = (e, ap (λ (l : List Note). l ++ rest) n ∙ sym (noted_in_front front rest o ns fits), g)
in_front shown good s front rest o ns (Err f) now_noted fits e = e
