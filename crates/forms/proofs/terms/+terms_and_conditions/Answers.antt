-- Each arm splits the tree at the position into the trees of its parts, and cites what the calls on the parts ensure.
use Rattle.std.proofs.Common.{◌≡◌, ℕ, ◌^◌, ◌<◌, Bool, not as negated, ◌||◌, List, take, ℤ, ◌+ℤ◌, ◌*ℤ◌, sym, refl, ap, ◌∙◌, subst, ap₂, arith, rules, w64, SFits, to_z, of_z}
use lib.Signed.{lt_z, mag}
use Rattle.std.proofs.lemmas.Bool.{cond-false, cond-true, or_left}
use Rattle.trees.specs.Meaning.{Row, eq_z, holds, value}
use Rattle.trees.specs.Tree.Tree.{either, equal, less, not, pick, plus, times}
use Rattle.forms.specs.declared.form.Entry.{Entry}
use Rattle.forms.specs.Calm.{CalmCondition, CalmConditionAt, CalmTerm, CalmTermAt, Within}
use Rattle.forms.specs.Limits.{term_bound}
use Rattle.forms.specs.Table.{ConditionTree, TermTree, as_condition, as_term, of_one, of_three, of_two, nth, part_at, parts}
use Rattle.forms.specs.Table.Part.{a_condition, a_term}
use Rattle.forms.proofs.Parts.{Family, Found, Known, One, Three, Two, conditions, for_all, one, reached, terms, three, two}
use Rattle.forms.proofs.Signs.{back, fits, same_bits, small}
use Rattle.forms.proofs.terms.+terms_and_conditions.Goals as goal

-- what calls on the term and on the condition at q reply
abbrev TermSays : List Entry → ℕ → Row → ℤ → Type 0
TermSays es q r z = (t : TermTree) → part_at es q ≡ a_term t → z ≡ value t r

abbrev ConditionSays : List Entry → ℕ → Row → Bool → Type 0
ConditionSays es q r b = (c : ConditionTree) → part_at es q ≡ a_condition c → b ≡ holds c r

-- a part before p that is calm can be called, and its value is what the call replies
module _ {es : List Entry} {p q : ℕ} {r : Row} where
  call_term : {x : TermTree} {t : ℕ} → Found terms es p q x → CalmTerm x r → p ≡ t → (q < t) × CalmTermAt es q r
  call_term f c e = (omega (arith, f.below), record { tree = _; is = f.is; calm = c })

  call_condition : {x : ConditionTree} {t : ℕ} → Found conditions es p q x → CalmCondition x r → p ≡ t → (q < t) × CalmConditionAt es q r
  call_condition f c e = (omega (arith, f.below), record { tree = _; is = f.is; calm = c })

  reply : {x : TermTree} {u : ℤ} → Found terms es p q x → mag u < 2 ^ 63 → TermSays es q r u → to_z w64 (of_z w64 u) ≡ value x r
  reply {x} {u} f h e = back u _ (small u h) (e x f.is)

module _ {es : List Entry} {p : ℕ} {r : Row} (k : CalmTermAt es p r) where
  abbrev calm : TermTree → Type 0
  calm t = CalmTerm t r

  abbrev term : Known terms calm es p
  term = (k.tree, k.is, k.calm)

  pair : (mk : TermTree → TermTree → TermTree) (a b : ℕ) → part_at es p ≡ of_two (λ x y. a_term (mk x y)) (as_term (nth (take p (parts es)) a)) (as_term (nth (take p (parts es)) b)) → Two terms terms mk calm es p a b k.tree
  pair mk a b s = two terms terms terms mk calm es p a b term s

  choice : (c a b : ℕ) → part_at es p ≡ of_three (λ x y z. a_term (pick x y z)) (as_condition (nth (take p (parts es)) c)) (as_term (nth (take p (parts es)) a)) (as_term (nth (take p (parts es)) b)) → Three conditions terms terms pick calm es p c a b k.tree
  choice c a b s = three conditions terms terms terms pick calm es p c a b term s

  -- a value of its tree is the value of every tree there
  valued : {t : TermTree} {z : ℤ} → k.tree ≡ t → z ≡ value t r → TermSays es p r z
  valued {t} {z} is e = for_all terms calm (λ t. value t r) es p term z (e ∙ ap (λ t. value t r) (sym is))

  -- two parts whose values u and v an operation joins within the bound
  module _ (op : ℤ → ℤ → ℤ) {mk : TermTree → TermTree → TermTree} {a b : ℕ} (i : Two terms terms mk calm es p a b k.tree) (is : value (mk i.x i.y) r ≡ op (value i.x r) (value i.y r)) (bound : Within term_bound (value (mk i.x i.y) r)) {u v : ℤ} (h : mag u < 2 ^ 63) (g : mag v < 2 ^ 63) (first : TermSays es a r u) (second : TermSays es b r v) where
    joined : op (to_z w64 (of_z w64 u)) (to_z w64 (of_z w64 v)) ≡ value (mk i.x i.y) r
    joined = ap₂ op (reply i.first h first) (reply i.second g second) ∙ sym is

    joined_fits : SFits w64 (op (to_z w64 (of_z w64 u)) (to_z w64 (of_z w64 v)))
    joined_fits = subst (SFits w64) (sym joined) (fits _ _ (omega arith) bound)

    joined_is : TermSays es p r (to_z w64 (of_z w64 (op (to_z w64 (of_z w64 u)) (to_z w64 (of_z w64 v)))))
    joined_is = valued i.is (back _ _ joined_fits joined)

module _ {es : List Entry} {p : ℕ} {r : Row} (k : CalmConditionAt es p r) where
  abbrev calm_condition : ConditionTree → Type 0
  calm_condition c = CalmCondition c r

  abbrev condition : Known conditions calm_condition es p
  condition = (k.tree, k.is, k.calm)

  both : {X : Type 0} (F : Family X) (mk : X → X → ConditionTree) (a b : ℕ) → part_at es p ≡ of_two (λ x y. a_condition (mk x y)) (F.back (nth (take p (parts es)) a)) (F.back (nth (take p (parts es)) b)) → Two F F mk calm_condition es p a b k.tree
  both F mk a b s = two F F conditions mk calm_condition es p a b condition s

  negation : (a : ℕ) → part_at es p ≡ of_one (λ x. a_condition (not x)) (as_condition (nth (take p (parts es)) a)) → One conditions not calm_condition es p a k.tree
  negation a s = one conditions conditions not calm_condition es p a condition s

  held : {c : ConditionTree} {b : Bool} → k.tree ≡ c → b ≡ holds c r → ConditionSays es p r b
  held {c} {b} is e = for_all conditions calm_condition (λ c. holds c r) es p condition b (e ∙ ap (λ c. holds c r) (sym is))

pub eval_term-form_at-requires : goal.eval_term-form_at-requires
eval_term-form_at-requires t c = reached terms _ c.args.entries.now c.args.at (term c.requires)

pub eval_term-eval_term-requires : goal.eval_term-eval_term-requires
eval_term-eval_term-requires t c = let i = pair c.requires plus _ _ c.in-Plus.ensures.stands in call_term i.first i.known.1 c.decreases

pub eval_term-eval_term-requires-in-Plus : goal.eval_term-eval_term-requires-in-Plus
eval_term-eval_term-requires-in-Plus t c = let i = pair c.requires plus _ _ c.in-Plus.ensures.stands in call_term i.second i.known.2 c.decreases

pub eval_term-overflow_add-result : goal.eval_term-overflow_add-result
eval_term-overflow_add-result t c = let i = pair c.requires plus _ _ c.in-Plus.ensures.stands in joined_fits c.requires ◌+ℤ◌ i refl i.known.0 c.eval_term.type_inv c.eval_term-in-Plus.type_inv c.eval_term.ensures c.eval_term-in-Plus.ensures

pub eval_term-returns-in-Plus : goal.eval_term-returns-in-Plus
eval_term-returns-in-Plus t c = let i = pair c.requires plus _ _ c.in-Plus.ensures.stands in joined_is c.requires ◌+ℤ◌ i refl i.known.0 c.eval_term.type_inv c.eval_term-in-Plus.type_inv c.eval_term.ensures c.eval_term-in-Plus.ensures

pub eval_term-eval_term-requires-in-Times : goal.eval_term-eval_term-requires-in-Times
eval_term-eval_term-requires-in-Times t c = let i = pair c.requires times _ _ c.in-Times.ensures.stands in call_term i.first i.known.1 c.decreases

pub eval_term-eval_term-requires-in-Times-2 : goal.eval_term-eval_term-requires-in-Times-2
eval_term-eval_term-requires-in-Times-2 t c = let i = pair c.requires times _ _ c.in-Times.ensures.stands in call_term i.second i.known.2 c.decreases

pub eval_term-overflow_mul-result : goal.eval_term-overflow_mul-result
eval_term-overflow_mul-result t c = let i = pair c.requires times _ _ c.in-Times.ensures.stands in joined_fits c.requires ◌*ℤ◌ i refl i.known.0 c.eval_term-in-Times.type_inv c.eval_term-in-Times-2.type_inv c.eval_term-in-Times.ensures c.eval_term-in-Times-2.ensures

pub eval_term-returns-in-Times : goal.eval_term-returns-in-Times
eval_term-returns-in-Times t c = let i = pair c.requires times _ _ c.in-Times.ensures.stands in joined_is c.requires ◌*ℤ◌ i refl i.known.0 c.eval_term-in-Times.type_inv c.eval_term-in-Times-2.type_inv c.eval_term-in-Times.ensures c.eval_term-in-Times-2.ensures

pub eval_term-eval_condition-requires : goal.eval_term-eval_condition-requires
eval_term-eval_condition-requires t c = let i = choice c.requires _ _ _ c.in-Pick.ensures.stands in call_condition i.first i.known.0 c.decreases

pub eval_term-eval_term-requires-then-eval_condition : goal.eval_term-eval_term-requires-then-eval_condition
eval_term-eval_term-requires-then-eval_condition t c = let i = choice c.requires _ _ _ c.in-Pick.ensures.stands in call_term i.second i.known.1 c.decreases

pub eval_term-eval_term-requires-else-eval_condition : goal.eval_term-eval_term-requires-else-eval_condition
eval_term-eval_term-requires-else-eval_condition t c = let i = choice c.requires _ _ _ c.in-Pick.ensures.stands in call_term i.third i.known.2 c.decreases

pub eval_term-returns-then-eval_condition : goal.eval_term-returns-then-eval_condition
eval_term-returns-then-eval_condition t c =
    let i = choice c.requires _ _ _ c.in-Pick.ensures.stands in
    valued c.requires i.is (reply i.second c.eval_term-then-eval_condition.type_inv c.eval_term-then-eval_condition.ensures ∙ sym (cond-true (holds i.x c.args.row.now) _ _ (sym (c.eval_condition.ensures i.x i.first.is) ∙ c.if-eval_condition.true)))

pub eval_term-returns-else-eval_condition : goal.eval_term-returns-else-eval_condition
eval_term-returns-else-eval_condition t c =
    let i = choice c.requires _ _ _ c.in-Pick.ensures.stands in
    valued c.requires i.is (reply i.third c.eval_term-else-eval_condition.type_inv c.eval_term-else-eval_condition.ensures ∙ sym (cond-false (holds i.x c.args.row.now) _ _ (sym (c.eval_condition.ensures i.x i.first.is) ∙ c.if-eval_condition.false)))

pub eval_condition-form_at-requires : goal.eval_condition-form_at-requires
eval_condition-form_at-requires t c = reached conditions _ c.args.entries.now c.args.at (condition c.requires)

pub eval_condition-eval_term-requires : goal.eval_condition-eval_term-requires
eval_condition-eval_term-requires t c = let i = both c.requires terms less _ _ c.in-Less.ensures.stands in call_term i.first i.known.0 c.decreases

pub eval_condition-eval_term-requires-in-Less : goal.eval_condition-eval_term-requires-in-Less
eval_condition-eval_term-requires-in-Less t c = let i = both c.requires terms less _ _ c.in-Less.ensures.stands in call_term i.second i.known.1 c.decreases

pub eval_condition-returns-in-Less : goal.eval_condition-returns-in-Less
eval_condition-returns-in-Less t c = let i = both c.requires terms less _ _ c.in-Less.ensures.stands in held c.requires i.is (ap₂ lt_z (reply i.first c.eval_term.type_inv c.eval_term.ensures) (reply i.second c.eval_term-in-Less.type_inv c.eval_term-in-Less.ensures))

pub eval_condition-eval_term-requires-in-Equal : goal.eval_condition-eval_term-requires-in-Equal
eval_condition-eval_term-requires-in-Equal t c = let i = both c.requires terms equal _ _ c.in-Equal.ensures.stands in call_term i.first i.known.0 c.decreases

pub eval_condition-eval_term-requires-in-Equal-2 : goal.eval_condition-eval_term-requires-in-Equal-2
eval_condition-eval_term-requires-in-Equal-2 t c = let i = both c.requires terms equal _ _ c.in-Equal.ensures.stands in call_term i.second i.known.1 c.decreases

pub eval_condition-returns-in-Equal : goal.eval_condition-returns-in-Equal
eval_condition-returns-in-Equal t c =
    let i = both c.requires terms equal _ _ c.in-Equal.ensures.stands in
    held c.requires i.is (same_bits c.eval_term-in-Equal.result c.eval_term-in-Equal-2.result (search rules) (search rules) ∙ ap₂ eq_z (c.eval_term-in-Equal.ensures i.x i.first.is) (c.eval_term-in-Equal-2.ensures i.y i.second.is))

pub eval_condition-eval_condition-requires : goal.eval_condition-eval_condition-requires
eval_condition-eval_condition-requires t c = let i = both c.requires conditions either _ _ c.in-Either.ensures.stands in call_condition i.first i.known.0 c.decreases

pub eval_condition-eval_condition-requires-else-eval_condition : goal.eval_condition-eval_condition-requires-else-eval_condition
eval_condition-eval_condition-requires-else-eval_condition t c = let i = both c.requires conditions either _ _ c.in-Either.ensures.stands in call_condition i.second i.known.1 c.decreases

pub eval_condition-returns-then-eval_condition : goal.eval_condition-returns-then-eval_condition
eval_condition-returns-then-eval_condition t c =
    let i = both c.requires conditions either _ _ c.in-Either.ensures.stands in
    held c.requires i.is (c.if-eval_condition.true ∙ sym (or_left (holds i.x c.args.row.now) _ (sym (c.eval_condition.ensures i.x i.first.is) ∙ c.if-eval_condition.true)))

pub eval_condition-returns-else-eval_condition : goal.eval_condition-returns-else-eval_condition
eval_condition-returns-else-eval_condition t c =
    let i = both c.requires conditions either _ _ c.in-Either.ensures.stands in
    held c.requires i.is (c.eval_condition-else-eval_condition.ensures i.y i.second.is ∙ ap (λ b. b || holds i.y c.args.row.now) (sym c.if-eval_condition.false ∙ c.eval_condition.ensures i.x i.first.is))

pub eval_condition-eval_condition-requires-in-Not : goal.eval_condition-eval_condition-requires-in-Not
eval_condition-eval_condition-requires-in-Not t c = let i = negation c.requires _ c.in-Not.ensures.stands in call_condition i.first i.known c.decreases

pub eval_condition-returns-in-Not : goal.eval_condition-returns-in-Not
eval_condition-returns-in-Not t c = let i = negation c.requires _ c.in-Not.ensures.stands in held c.requires i.is (ap negated (c.eval_condition-in-Not.ensures i.x i.first.is))
