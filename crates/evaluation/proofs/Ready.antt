-- A table that spells a typed number is ready to be evaluated once its totals are there.
use Rattle.std.proofs.Common.{◌≡◌, ℕ, ◌+◌, ◌-◌, true, ◌⊎◌, List, [], ◌∷◌, length, get_or, ℤ, pos, Ok, Result, sym, refl, ap, ◌∙◌, subst, ⊎_elim, arith}
use lib.Signed.{le_z}
use Rattle.forms.specs.Calm.{CalmNumber, inputs}
use Rattle.forms.specs.Lined.{past}
use Rattle.forms.specs.Table.{NumberTree}
use Rattle.forms.specs.Totals.{Ready, RightBelow}
use Rattle.forms.specs.declared.form.Entry.{Entry}
use Rattle.refusals.specs.declared.Refusal.{Refusal}
use Rattle.rules.proofs.Steps.{after_ok, after_two_ok}
use Rattle.rules.specs.Ranges.{differences, greater, lesser, sums}
use Rattle.rules.specs.Sound.{Kept, Plant, inputs_of}
use Rattle.rules.specs.Typing.{NumberType, after, after_two, both, cut, multiple, named, number_typed, settled}
use Rattle.rules.specs.declared.catalogue.Catalogue.{Catalogue}
use Rattle.sources.specs.declared.shapes.Range.{Range}
use Rattle.trees.specs.Tree.Tree.{num, setting, var, count, sum, add, sub, least, most, scale, clip, let_in}
use Rattle.evaluation.specs.Queries.{Evaluable, SumsIn}
use Rattle.evaluation.specs.Sums.{SumsTyped, sources_of}

-- some line and some scope in which the rules type the number
abbrev Typed : Catalogue → NumberTree → Type 0
Typed c u = (n : ℕ) × (rs : List Range) × (x : NumberType) × (number_typed n c rs u ≡ Ok x)

two_typed : (c : Catalogue) (u a b : NumberTree) (n : ℕ) (rs : List Range) (f : NumberType → NumberType → Result NumberType Refusal) (x : NumberType) → after_two (number_typed (n + 1) c rs a) (number_typed (past (n + 1) a) c rs b) f ≡ Ok x → ((y : NumberType) → number_typed (n + 1) c rs a ≡ Ok y → SumsIn u a → Typed c u) → ((z : NumberType) → number_typed (past (n + 1) a) c rs b ≡ Ok z → SumsIn u b → Typed c u) → SumsIn u a ⊎ SumsIn u b → Typed c u
two_typed c u a b n rs f x e first second h =
    let (y, z, p, q, end) = after_two_ok (number_typed (n + 1) c rs a) (number_typed (past (n + 1) a) c rs b) f x e in
    ⊎_elim (first y p) (second z q) h

-- each count and sum in a typed number is typed
sums_typed : (c : Catalogue) (u t : NumberTree) (n : ℕ) (rs : List Range) (x : NumberType) → number_typed n c rs t ≡ Ok x → SumsIn u t → Typed c u
sums_typed c u (num v) n rs x e h = absurd h
sums_typed c u (setting k) n rs x e h = absurd h
sums_typed c u (var i) n rs x e h = absurd h
sums_typed c u (count b) n rs x e h = (n, rs, x, ap (number_typed n c rs) h ∙ e)
sums_typed c u (sum lo hi b t) n rs x e h = (n, rs, x, ap (number_typed n c rs) h ∙ e)
sums_typed c u (add a b) n rs x e h = two_typed c u a b n rs (λ y z. settled n true (both sums y z)) x e (sums_typed c u a (n + 1) rs) (sums_typed c u b (past (n + 1) a) rs) h
sums_typed c u (sub a b) n rs x e h = two_typed c u a b n rs (λ y z. settled n true (both differences y z)) x e (sums_typed c u a (n + 1) rs) (sums_typed c u b (past (n + 1) a) rs) h
sums_typed c u (least a b) n rs x e h = two_typed c u a b n rs (λ y z. settled n true (both lesser y z)) x e (sums_typed c u a (n + 1) rs) (sums_typed c u b (past (n + 1) a) rs) h
sums_typed c u (most a b) n rs x e h = two_typed c u a b n rs (λ y z. settled n true (both greater y z)) x e (sums_typed c u a (n + 1) rs) (sums_typed c u b (past (n + 1) a) rs) h
sums_typed c u (scale v a) n rs x e h =
    let (y, p, end) = after_ok (number_typed (n + 1) c rs a) (λ y. settled n true (multiple v y)) x e in
    sums_typed c u a (n + 1) rs y p h
sums_typed c u (clip lo hi a) n rs x e h =
    let (y, p, end) = after_ok (number_typed (n + 1) c rs a) (λ y. settled n (le_z lo hi) (cut lo hi y)) x e in
    sums_typed c u a (n + 1) rs y p h
sums_typed c u (let_in a b) n rs x e h =
    let (y, p, rest) = after_ok (number_typed (n + 1) c rs a) (λ (y : NumberType). after (number_typed (past (n + 1) a) c (y.range ∷ rs) b) (λ z. settled n true (named y z))) x e in
    let (z, q, end) = after_ok (number_typed (past (n + 1) a) c (y.range ∷ rs) b) (λ z. settled n true (named y z)) x rest in
    ⊎_elim (sums_typed c u a (n + 1) rs y p) (sums_typed c u b (past (n + 1) a) (y.range ∷ rs) z q) h

module _ {es : List Entry} {p : Plant} {t : NumberTree} (h : Evaluable es p t) (kept : Kept h.catalogue p) where
  pub all_typed : SumsTyped es p
  all_typed =
      record {
        catalogue = h.catalogue;
        whole = h.spells.whole;
        typed = λ q u is k. sums_typed h.catalogue u t h.line [] h.type h.typed (h.spells.sums q u is k);
        fits = h.fits;
        kept = kept;
      }

  pub ready : {totals settings vars : List ℤ} → settings ≡ (inputs_of p).settings → vars ≡ [] → RightBelow es totals (sources_of p) (length es) → Ready es (length es - 1) totals settings vars (sources_of p) t
  ready {vars = vars} e none right =
      let calm = (kept.numbers h.line t h.type h.typed).calm in
      record {
        is = h.spells.is;
        calm = subst (λ xs. CalmNumber t (inputs (sources_of p) xs) vars) (sym e) (subst (CalmNumber t (inputs_of p)) (sym none) calm);
        right = right;
      }

pub two_settings : (xs : List ℤ) → length xs ≡ 2 → xs ≡ get_or xs 0 (pos 0) ∷ get_or xs 1 (pos 0) ∷ []
two_settings [] h = absurd (omega arith)
two_settings (x ∷ []) h = absurd (omega arith)
two_settings (x ∷ y ∷ []) h = refl
two_settings (x ∷ y ∷ z ∷ xs) h = absurd (omega arith)
