-- What the fault of a call tells.
use Rattle.std.proofs.Common.{◌≡◌, ℕ, Bool, true, false, ltb, leb, List, length, Some, None, Option, sym, subst}
use Rattle.refusals.specs.Rules.{or_else, unless}
use Rattle.rules.specs.Catalogue.{faulty_input}
use Rattle.rules.specs.declared.catalogue.Catalogue.{Catalogue}
use Rattle.checking.specs.Check.{Faulty, call_fault, catalogue_fault, max_text}
use Rattle.checking.specs.declared.fault.CheckFault.{CheckFault}
use Rattle.checking.specs.declared.fault.CheckFault.TheVariants as fault

abbrev in_order : Option ℕ → Bool → Bool → Option CheckFault
in_order o short some = or_else (catalogue_fault o) (or_else (unless short fault.TooLong) (unless some fault.NoText))

module _ (c : Catalogue) (text : List ℕ) where
  pub faulty_call : (e : CheckFault) → Some e ≡ call_fault c text → Faulty c text e
  faulty_call e is = go (faulty_input c) (leb (length text) max_text) (ltb 0 (length text)) (sym is)
    where
      go : (o : Option ℕ) (short some : Bool) → in_order o short some ≡ Some e → Faulty c text e
      go (Some i) short some h = let kind : fault.Catalogue i ≡ e = cc in subst (Faulty c text) kind cc
      go None false some h = let kind : fault.TooLong ≡ e = cc in subst (Faulty c text) kind cc
      go None true false h = let kind : fault.NoText ≡ e = cc in subst (Faulty c text) kind cc
      go None true true h = cc
