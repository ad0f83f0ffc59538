-- A table without counts and sums has no totals that could be wrong.
use Rattle.std.proofs.Common.{◌≡◌, ℕ, zero, suc, Bool, true, not, ◌&&◌, List, [], ◌∷◌, sym, ap, ◌∙◌}
use Rattle.std.proofs.lemmas.Bool.{and_parts, both_ways, not-true}
use Rattle.forms.specs.declared.form.Entry.{Entry}
use Rattle.forms.specs.Table.{NumberTree, Part, nth, part_at, parts}
use Rattle.forms.specs.Table.Part.{a_bag, a_condition, a_number, a_term, bad}
use Rattle.forms.specs.Totals.{totalled}
use Rattle.forms.proofs.Parts.{good_number}

abbrev plain : Part → Bool
plain bad = true
plain (a_term t) = true
plain (a_condition c) = true
plain (a_bag b) = true
plain (a_number n) = not (totalled n)

abbrev pub all_plain : List Part → Bool
all_plain [] = true
all_plain (p ∷ ps) = plain p && all_plain ps

none : (ps : List Part) (q : ℕ) (n : NumberTree) → all_plain ps ≡ true → nth ps q ≡ a_number n → totalled n ≡ true → ⊥
none [] q n h e k = good_number n (sym e)
none (p ∷ ps) zero n h e k = both_ways (totalled n) (not-true (totalled n) (sym (ap plain e) ∙ (and_parts (plain p) (all_plain ps) h).0)) k
none (p ∷ ps) (suc q) n h e k = none ps q n (and_parts (plain p) (all_plain ps) h).1 e k

pub none_totalled : (es : List Entry) (q : ℕ) (n : NumberTree) → part_at es q ≡ a_number n → totalled n ≡ true → all_plain (parts es) ≡ true → ⊥
unfolding part_at
none_totalled es q n e k h = none (parts es) q n h e k
