-- What it tells that no input is faulty.
use Rattle.std.proofs.Common.{◌≡◌, ℕ, ◌<◌, true, is_some, None, ap, arith}
use Rattle.refusals.specs.Rules.{first_of_none, unless, unless_none}
use Rattle.rules.specs.Catalogue.{faulty_input, input_sound}
use Rattle.rules.specs.declared.catalogue.Catalogue.{Catalogue}

pub sound_at : (c : Catalogue) → faulty_input c ≡ None → (i : ℕ) → i < 4 → input_sound c i ≡ true
sound_at c e i h = unless_none (input_sound c i) i (first_of_none (λ k. unless (input_sound c k) k) 0 4 (ap is_some e) i (omega arith) (omega arith))
