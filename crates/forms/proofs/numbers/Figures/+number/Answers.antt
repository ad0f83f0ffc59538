-- Each arm splits the number at the position into its parts, which are ready as it is, and cites what the calls on them ensure.
use Rattle.std.proofs.Common.{◌≡◌, ℕ, ◌^◌, ◌<◌, ◌⊎◌, List, [], ◌∷◌, length, get_or, take, ℤ, pos, ◌+ℤ◌, ◌-ℤ◌, ◌*ℤ◌, sym, refl, ap, ◌∙◌, subst, ap₂, inl, inr, arith, rules, w64, SFits, to_z, of_z}
use lib.Signed.{mag}
use Rattle.std.specs.Int.{int_max, int_min}
use Rattle.trees.specs.Meaning.{Row, number}
use Rattle.trees.specs.Tree.Tree.{add, clip, count, least, let_in, most, scale, sub, sum}
use Rattle.forms.specs.declared.form.Entry.{Entry}
use Rattle.forms.specs.declared.form.Form.{Form}
use Rattle.forms.specs.declared.form.Form.TheVariants.{Count, Sum}
use Rattle.forms.specs.Calm.{CalmNumber, Within, inputs}
use Rattle.forms.specs.Limits.{number_bound}
use Rattle.stacks.specs.Stack.{stacked}
use Rattle.forms.specs.Table.{NumberTree, Stands, as_number, build, nth, of_one, of_two, part_at, parts}
use Rattle.forms.specs.Table.Part.{a_number}
use Rattle.forms.specs.Totals.{Ready, totalled}
use Rattle.forms.proofs.Parts.{Found, Known, One, Two, bags, numbers, one, reached, terms, two}
use Rattle.forms.proofs.Signs.{back, clip_is, fits, op_fits, op_is, small}
use Rattle.forms.proofs.numbers.Figures.+number.Goals as goal

-- what a call at q asks, with a measure below t and room in the scope
abbrev Asked : List Entry → ℕ → ℕ → ℕ → List ℤ → List ℤ → List ℤ → Type 0
Asked es q t room totals settings vars = (q < t) × ((q < room) × ((sources : List (List Row)) × (n : NumberTree) × Ready es q totals settings vars sources n))

-- and what it replies: z is the value of each number that is ready at q
abbrev Says : List Entry → ℕ → List ℤ → List ℤ → List ℤ → ℤ → Type 0
Says es q totals settings vars z = (sources : List (List Row)) (n : NumberTree) → Ready es q totals settings vars sources n → z ≡ number n (inputs sources settings) vars

module _ {es : List Entry} {p : ℕ} {totals settings vars : List ℤ} {sources : List (List Row)} {n : NumberTree} (r : Ready es p totals settings vars sources n) where
  abbrev calm : NumberTree → Type 0
  calm m = CalmNumber m (inputs sources settings) vars

  abbrev value : NumberTree → ℤ
  value m = number m (inputs sources settings) vars

  abbrev known : Known numbers calm es p
  known = (n, r.is, r.calm)

  within : p < length es
  within = reached numbers calm es p known

  -- its parts
  single : (mk : NumberTree → NumberTree) (a : ℕ) → part_at es p ≡ of_one (λ x. a_number (mk x)) (as_number (nth (take p (parts es)) a)) → One numbers mk calm es p a n
  single mk a s = one numbers numbers mk calm es p a known s

  pair : (mk : NumberTree → NumberTree → NumberTree) (a b : ℕ) → part_at es p ≡ of_two (λ x y. a_number (mk x y)) (as_number (nth (take p (parts es)) a)) (as_number (nth (take p (parts es)) b)) → Two numbers numbers mk calm es p a b n
  pair mk a b s = two numbers numbers numbers mk calm es p a b known s

  -- a part that is calm, in the same scope or an inner one, is ready too
  part : {q : ℕ} {x : NumberTree} → Found numbers es p q x → (inner : List ℤ) → CalmNumber x (inputs sources settings) inner → Ready es q totals settings inner sources x
  part f inner c = record { is = f.is; calm = c; right = r.right }

  call : {q t room : ℕ} {x : NumberTree} → Found numbers es p q x → calm x → p ≡ t → p < room → Asked es q t room totals settings vars
  call f c e h = (omega (arith, f.below), (omega (arith, f.below), (sources, _, part f vars c)))

  reply : {q : ℕ} {x : NumberTree} {u : ℤ} → Found numbers es p q x → calm x → mag u < 2 ^ 63 → Says es q totals settings vars u → to_z w64 (of_z w64 u) ≡ value x
  reply {u = u} f c h e = back u _ (small u h) (e sources _ (part f vars c))

  -- the value of its tree, as its own value
  valued : {m : NumberTree} {z : ℤ} → n ≡ m → z ≡ value m → z ≡ value n
  valued is e = e ∙ ap value (sym is)

  -- the total of a count or a sum is its value in every scope
  total_of : (f : Form) → Stands es p f → ((b : ℕ) × (f ≡ Count b)) ⊎ ((lo hi : ℤ) × (b t : ℕ) × (f ≡ Sum lo hi b t)) → get_or totals p (pos 0) ≡ value n
  total_of f s (inl (b, e)) =
      let i = one bags numbers count calm es p b known (s ∙ ap (build (take p (parts es))) e) in
      valued i.is (r.right p n within r.is (ap totalled i.is) ∙ ap (λ z. number z (inputs sources []) []) i.is)
  total_of f s (inr (lo, hi, b, t, e)) =
      let i = two bags terms numbers (sum lo hi) calm es p b t known (s ∙ ap (build (take p (parts es))) e) in
      valued i.is (r.right p n within r.is (ap totalled i.is) ∙ ap (λ z. number z (inputs sources []) []) i.is)

  -- two parts in the same scope, whose values u and v an operation joins
  module _ (op : ℤ → ℤ → ℤ) {mk : NumberTree → NumberTree → NumberTree} {a b : ℕ} (i : Two numbers numbers mk calm es p a b n) (is : value (mk i.x i.y) ≡ op (value i.x) (value i.y)) (c : calm i.x × calm i.y) {u v : ℤ} (h : mag u < 2 ^ 63) (k : mag v < 2 ^ 63) (first : Says es a totals settings vars u) (second : Says es b totals settings vars v) where
    joined : op (to_z w64 (of_z w64 u)) (to_z w64 (of_z w64 v)) ≡ value n
    joined = ap₂ op (reply i.first c.0 h first) (reply i.second c.1 k second) ∙ sym (ap value i.is ∙ is)

    joined_fits : Within number_bound (value (mk i.x i.y)) → SFits w64 (op (to_z w64 (of_z w64 u)) (to_z w64 (of_z w64 v)))
    joined_fits bound = subst (SFits w64) (sym (joined ∙ ap value i.is)) (fits _ _ (omega arith) bound)

  -- a let, whose body is in a scope that its bound number u leads
  module _ {a b : ℕ} (i : Two numbers numbers let_in calm es p a b n) {u : ℤ} {inner : List ℤ} (h : mag u < 2 ^ 63) (first : Says es a totals settings vars u) (e : inner ≡ to_z w64 (of_z w64 u) ∷ vars) where
    grown : inner ≡ value i.x ∷ vars
    grown = e ∙ ap (λ v. v ∷ vars) (reply i.first i.known.0 h first)

    body : Ready es b totals settings inner sources i.y
    body = part i.second inner (subst (CalmNumber i.y (inputs sources settings)) (sym grown) i.known.1)

    body_is : {v : ℤ} → mag v < 2 ^ 63 → Says es b totals settings inner v → to_z w64 (of_z w64 v) ≡ value n
    body_is k second = back _ _ (small _ k) (second sources i.y body ∙ ap (number i.y (inputs sources settings)) grown ∙ ap value (sym i.is))

pub form_at-requires : goal.form_at-requires
form_at-requires t c = within c.requires.ready.2

pub number-requires : goal.number-requires
number-requires t c = let i = pair c.requires.ready.2 add _ _ c.in-Add.ensures.stands in call c.requires.ready.2 i.first i.known.1 c.decreases c.requires.spare

pub number-requires-in-Add : goal.number-requires-in-Add
number-requires-in-Add t c = let i = pair c.requires.ready.2 add _ _ c.in-Add.ensures.stands in call c.requires.ready.2 i.second i.known.2 c.decreases c.requires.spare

pub overflow_add-result : goal.overflow_add-result
overflow_add-result t c = let i = pair c.requires.ready.2 add _ _ c.in-Add.ensures.stands in joined_fits c.requires.ready.2 ◌+ℤ◌ i refl (i.known.1, i.known.2) c.number.type_inv c.number-in-Add.type_inv c.number.ensures c.number-in-Add.ensures i.known.0

pub returns-in-Add : goal.returns-in-Add
returns-in-Add t c =
    λ ss n r. let i = pair r add _ _ c.in-Add.ensures.stands in
    back _ _ (joined_fits r ◌+ℤ◌ i refl (i.known.1, i.known.2) c.number.type_inv c.number-in-Add.type_inv c.number.ensures c.number-in-Add.ensures i.known.0) (joined r ◌+ℤ◌ i refl (i.known.1, i.known.2) c.number.type_inv c.number-in-Add.type_inv c.number.ensures c.number-in-Add.ensures)

pub number-requires-in-Sub : goal.number-requires-in-Sub
number-requires-in-Sub t c = let i = pair c.requires.ready.2 sub _ _ c.in-Sub.ensures.stands in call c.requires.ready.2 i.first i.known.1 c.decreases c.requires.spare

pub number-requires-in-Sub-2 : goal.number-requires-in-Sub-2
number-requires-in-Sub-2 t c = let i = pair c.requires.ready.2 sub _ _ c.in-Sub.ensures.stands in call c.requires.ready.2 i.second i.known.2 c.decreases c.requires.spare

pub overflow_sub-result : goal.overflow_sub-result
overflow_sub-result t c = let i = pair c.requires.ready.2 sub _ _ c.in-Sub.ensures.stands in joined_fits c.requires.ready.2 ◌-ℤ◌ i refl (i.known.1, i.known.2) c.number-in-Sub.type_inv c.number-in-Sub-2.type_inv c.number-in-Sub.ensures c.number-in-Sub-2.ensures i.known.0

pub returns-in-Sub : goal.returns-in-Sub
returns-in-Sub t c =
    λ ss n r. let i = pair r sub _ _ c.in-Sub.ensures.stands in
    back _ _ (joined_fits r ◌-ℤ◌ i refl (i.known.1, i.known.2) c.number-in-Sub.type_inv c.number-in-Sub-2.type_inv c.number-in-Sub.ensures c.number-in-Sub-2.ensures i.known.0) (joined r ◌-ℤ◌ i refl (i.known.1, i.known.2) c.number-in-Sub.type_inv c.number-in-Sub-2.type_inv c.number-in-Sub.ensures c.number-in-Sub-2.ensures)

pub number-requires-in-Least : goal.number-requires-in-Least
number-requires-in-Least t c = let i = pair c.requires.ready.2 least _ _ c.in-Least.ensures.stands in call c.requires.ready.2 i.first i.known.0 c.decreases c.requires.spare

pub number-requires-in-Least-2 : goal.number-requires-in-Least-2
number-requires-in-Least-2 t c = let i = pair c.requires.ready.2 least _ _ c.in-Least.ensures.stands in call c.requires.ready.2 i.second i.known.1 c.decreases c.requires.spare

pub returns-in-Least : goal.returns-in-Least
returns-in-Least t c =
    λ ss n r. let i = pair r least _ _ c.in-Least.ensures.stands in
    back c.min.result _ (search rules) (c.min.ensures.value ∙ joined r int_min i refl i.known c.number-in-Least.type_inv c.number-in-Least-2.type_inv c.number-in-Least.ensures c.number-in-Least-2.ensures)

pub number-requires-in-Most : goal.number-requires-in-Most
number-requires-in-Most t c = let i = pair c.requires.ready.2 most _ _ c.in-Most.ensures.stands in call c.requires.ready.2 i.first i.known.0 c.decreases c.requires.spare

pub number-requires-in-Most-2 : goal.number-requires-in-Most-2
number-requires-in-Most-2 t c = let i = pair c.requires.ready.2 most _ _ c.in-Most.ensures.stands in call c.requires.ready.2 i.second i.known.1 c.decreases c.requires.spare

pub returns-in-Most : goal.returns-in-Most
returns-in-Most t c =
    λ ss n r. let i = pair r most _ _ c.in-Most.ensures.stands in
    back c.max.result _ (search rules) (c.max.ensures.value ∙ joined r int_max i refl i.known c.number-in-Most.type_inv c.number-in-Most-2.type_inv c.number-in-Most.ensures c.number-in-Most-2.ensures)

pub number-requires-in-Scale : goal.number-requires-in-Scale
number-requires-in-Scale t c = let i = single c.requires.ready.2 (scale c.in-Scale.factor) _ c.in-Scale.ensures.stands in call c.requires.ready.2 i.first i.known.1 c.decreases c.requires.spare

pub overflow_mul-result : goal.overflow_mul-result
overflow_mul-result t c =
    let i = single c.requires.ready.2 (scale c.in-Scale.factor) _ c.in-Scale.ensures.stands in
    op_fits ◌*ℤ◌ _ c.in-Scale.factor c.number-in-Scale.result c.in-Scale.factor _ (omega arith) (search rules) (search rules) refl (c.number-in-Scale.ensures _ i.x (part c.requires.ready.2 i.first _ i.known.1)) i.known.0

pub returns-in-Scale : goal.returns-in-Scale
returns-in-Scale t c =
    λ ss n r.
    let i = single r (scale c.in-Scale.factor) _ c.in-Scale.ensures.stands in
    valued r i.is (op_is ◌*ℤ◌ _ c.in-Scale.factor c.number-in-Scale.result c.in-Scale.factor _ (omega arith) (search rules) (search rules) refl (c.number-in-Scale.ensures ss i.x (part r i.first (stacked c.args.scope.now) i.known.1)) i.known.0)

pub number-requires-in-Clip : goal.number-requires-in-Clip
number-requires-in-Clip t c = let i = single c.requires.ready.2 (clip c.in-Clip.low c.in-Clip.high) _ c.in-Clip.ensures.stands in call c.requires.ready.2 i.first i.known c.decreases c.requires.spare

pub returns-in-Clip : goal.returns-in-Clip
returns-in-Clip t c =
    λ ss n r.
    let i = single r (clip c.in-Clip.low c.in-Clip.high) _ c.in-Clip.ensures.stands in
    valued r i.is (back c.clip.result _ (search rules) (c.clip.ensures ∙ clip_is c.in-Clip.low c.in-Clip.high c.number-in-Clip.result _ (search rules) (search rules) (search rules) (c.number-in-Clip.ensures ss i.x (part r i.first _ i.known))))

pub number-value-requires : goal.number-value-requires
number-value-requires t c = let i = pair c.requires.ready.2 let_in _ _ c.in-Let.ensures.stands in call c.requires.ready.2 i.first i.known.0 c.decreases c.requires.spare

pub number-requires-in-Let : goal.number-requires-in-Let
number-requires-in-Let t c =
    let i = pair c.requires.ready.2 let_in _ _ c.in-Let.ensures.stands in
    (omega (arith, i.second.below, c.decreases), (omega (arith, i.second.below, c.with.ensures.spare, c.requires.spare), (_, i.y, body c.requires.ready.2 i c.number-value.type_inv c.number-value.ensures c.with.ensures.items)))

pub returns-in-Let : goal.returns-in-Let
returns-in-Let t c = λ ss n r. let i = pair r let_in _ _ c.in-Let.ensures.stands in body_is r i c.number-value.type_inv c.number-value.ensures c.with.ensures.items c.number-in-Let.type_inv c.number-in-Let.ensures

pub returns-in-Count : goal.returns-in-Count
returns-in-Count t c = λ ss n r. back _ _ (search rules) (total_of r c.form_at.result c.form_at.ensures.stands c.in-Count.is)
