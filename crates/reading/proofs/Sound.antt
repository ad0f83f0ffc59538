-- What is read so far: the trees of the forms that are closed stand in the table, and their lines and those that open the others are the lines so far.
use Rattle.std.proofs.Common.{◌≡◌, ℕ, eqb, ◌+◌, ◌-◌, ◌<◌, Bool, true, false, cond, not, ◌⊎◌, List, [], ◌∷◌, ◌++◌, map, reverse, length, is_some, Some, None, Option, sym, refl, ap, ◌∙◌, subst, ap₂, inl, inr, append_assoc, append-nil, arith}
use Rattle.std.proofs.lemmas.List.{get_or_append_left, get_or_push, length_push, length-append, length-map, map_push, reverse-append, length-reverse}
use Rattle.std.proofs.lemmas.Bool.{and_parts, eq-eqb, ne_eqb, eqb-true, not-true, false≢true, true≢false}
use Rattle.std.specs.List.{flat_map}
use Rattle.std.specs.List as maps
use Rattle.refusals.specs.Rules.{or_else, unless}
use Rattle.trees.proofs.Induction.{make, folds}
use Rattle.trees.specs.declared.Kind.{Kind}
use Rattle.trees.specs.declared.Kind.TheVariants.{Term, Condition, Bag, Number}
use Rattle.trees.specs.declared.words.Word.{Word}
use Rattle.trees.specs.Tree.{Tree, AnyTree, any}
use Rattle.trees.specs.Words.{entry}
use Rattle.trees.specs.Written.{Line, form_lines, lines}
use Rattle.trees.specs.Written.Line.{opening, closing}
use Rattle.forms.specs.declared.form.Entry.{Entry}
use Rattle.forms.specs.Table.{Part, nth, build, parts_from, parts}
use Rattle.forms.specs.Table.Part.{bad}
use Rattle.forms.proofs.Parts.{length_parts_from}
use Rattle.lines.specs.declared.heading.Heading.{Heading}
use Rattle.lines.specs.declared.token.Token.{Token}
use Rattle.lines.specs.declared.token.Token.TheVariants.{Opening, Leaf, Closing}
use Rattle.lines.specs.Line.{numbers_in, as_line, Counted, Proper}
use Rattle.reading.proofs.Parts.{Each, each_weaker, each_shift}
use Rattle.reading.proofs.Places.{Allowed}
use Rattle.reading.proofs.Typed.{part_of, kind_of, of_kind, Placed, made, built}
use Rattle.reading.proofs.Wanted.{three_parts}
use Rattle.reading.specs.declared.frame.Frame.{Frame}
use Rattle.reading.specs.Decide.{wanted, has_parts, some_kind, fits}
use Rattle.reading.specs.Frame.{fresh, next_kind, with_begun, with_part, entry_of}
use Rattle.reading.specs.Progress.{State, rank, is_wanted, innermost, begun_form, after_line, close_innermost}
use Rattle.reading.specs.Stack.{first_of}

-- entries and parts

from_push : (ps : List Part) (es : List Entry) (e : Entry) → parts_from ps (es ++ e ∷ []) ≡ parts_from ps es ++ build (parts_from ps es) e.form ∷ []
unfolding parts_from
from_push ps [] e = refl
from_push ps (x ∷ es) e = from_push (ps ++ build ps x.form ∷ []) es e

parts_push : (es : List Entry) (e : Entry) → parts (es ++ e ∷ []) ≡ parts es ++ build (parts es) e.form ∷ []
unfolding parts
parts_push es e = from_push [] es e

parts_length : (es : List Entry) → length (parts es) ≡ length es
unfolding parts
parts_length es = omega (arith, length_parts_from [] es)

-- the tree stands at this position of the table
pub record Spelt (es : List Entry) (q : ℕ) (t : AnyTree) : Type 0 where
  pub inside : q < length es
  pub there : nth (parts es) q ≡ part_of t

spelt_push : (es : List Entry) (e : Entry) (q : ℕ) (t : AnyTree) → Spelt es q t → Spelt (es ++ e ∷ []) q t
spelt_push es e q t s =
    record {
      inside = omega (arith, length_push es e, s.inside);
      there = ap (λ (ps : List Part). nth ps q) (parts_push es e) ∙ get_or_append_left (parts es) (build (parts es) e.form ∷ []) bad q (omega (arith, s.inside, parts_length es)) ∙ s.there;
    }

spelt_new : (es : List Entry) (e : Entry) (t : AnyTree) → build (parts es) e.form ≡ part_of t → Spelt (es ++ e ∷ []) (length es) t
spelt_new es e t b =
    record {
      inside = omega (arith, length_push es e);
      there = ap (λ (ps : List Part). nth ps (length es)) (parts_push es e) ∙ get_or_push (parts es) (build (parts es) e.form) bad (length es) (parts_length es) ∙ b;
    }

abbrev pub AllSpelt : List Entry → List ℕ → List AnyTree → Type 0
AllSpelt es = Each (λ q t before. Spelt es q t)

all_push : (es : List Entry) (e : Entry) (qs : List ℕ) (ts : List AnyTree) → AllSpelt es qs ts → AllSpelt (es ++ e ∷ []) qs ts
all_push es e = each_weaker (λ q t before. Spelt es q t) (λ q t before. Spelt (es ++ e ∷ []) q t) (λ q t before. spelt_push es e q t)

all_placed : (es : List Entry) (qs : List ℕ) (ts : List AnyTree) → AllSpelt es qs ts → Placed (parts es) qs ts
all_placed es = each_weaker (λ q t before. Spelt es q t) (λ q t before. nth (parts es) q ≡ part_of t) (λ q t before s. s.there)

-- the positions of the last parts, the last first
abbrev pub positions : Frame → List ℕ
positions f = f.last ∷ f.second_last ∷ f.third_last ∷ []

abbrev pub all_lines : List AnyTree → List Line
all_lines ps = flat_map (λ ls. ls) (folds form_lines ps)

joined_push : (ps : List AnyTree) (t : AnyTree) → all_lines (ps ++ t ∷ []) ≡ all_lines ps ++ lines t.1
joined_push [] t = append-nil (lines t.1)
joined_push (p ∷ ps) t = ap (λ (ls : List Line). lines p.1 ++ ls) (joined_push ps t) ∙ sym (append_assoc (lines p.1) (all_lines ps) (lines t.1))

-- an open form: its parts that are closed, the kinds of those that are not begun or not closed, and its lines so far
pub record Level (es : List Entry) (f : Frame) (running : ℕ) (pending : List Kind) (before ls : List Line) : Type 0 where
  pub done : List AnyTree
  pub begun : f.begun ≡ length done + running
  pub kinds : map kind_of done ++ pending ≡ (entry f.heading.word).parts
  pub spelt : AllSpelt es (positions f) (reverse done)
  pub counted : Counted f.heading.word (numbers_in f.heading)
  pub has : has_parts f.heading.word ≡ true
  pub so_far : ls ≡ before ++ (opening f.heading.word (numbers_in f.heading) ∷ all_lines done)

-- the forms around one of kind k that begins behind the lines ls
abbrev pub Outer : List Entry → List Frame → Kind → List Line → Type 0
Outer es [] k ls = (k ≡ Number) × (ls ≡ [])
Outer es (f ∷ fs) k ls = (rest : List Kind) × (before : List Line) × Level es f 1 (k ∷ rest) before ls × Outer es fs (entry f.heading.word).kind before

-- the lines are those of a whole tree, which is the last in the table
abbrev pub Whole : List Entry → List Line → Type 0
Whole es ls = (t : Tree Number) × (ls ≡ lines t) × Spelt es (length es - 1) (any t)

-- where a reader stands behind the lines ls
abbrev pub At : List Entry → List Frame → ℕ → List Line → Type 0
At es [] forms ls = ((forms ≡ 0) × (ls ≡ [])) ⊎ (Whole es ls × (0 < forms))
At es (f ∷ fs) forms ls = ((rest : List Kind) × (before : List Line) × Level es f 0 rest before ls × Outer es fs (entry f.heading.word).kind before) × (0 < forms)

level_push : (es : List Entry) (e : Entry) (f : Frame) (i : ℕ) (ks : List Kind) (before ls : List Line) → Level es f i ks before ls → Level (es ++ e ∷ []) f i ks before ls
level_push es e f i ks before ls l =
    record { done = l.done; begun = l.begun; kinds = l.kinds; spelt = all_push es e (positions f) (reverse l.done) l.spelt; counted = l.counted; has = l.has; so_far = l.so_far }

outer_push : (es : List Entry) (e : Entry) (fs : List Frame) (k : Kind) (ls : List Line) → Outer es fs k ls → Outer (es ++ e ∷ []) fs k ls
outer_push es e [] k ls o = o
outer_push es e (f ∷ fs) k ls o = (o.0, o.1, level_push es e f 1 (k ∷ o.0) o.1 ls o.2, outer_push es e fs (entry f.heading.word).kind o.1 o.3)

-- kinds

-- a kind is told by its rank
abbrev kind_ranked : ℕ → Kind
kind_ranked n = cond (eqb n 0) Term (cond (eqb n 1) Condition (cond (eqb n 2) Bag Number))

ranked_back : (k : Kind) → kind_ranked (rank k) ≡ k
ranked_back Term = refl
ranked_back Condition = refl
ranked_back Bag = refl
ranked_back Number = refl

rank_same : (j k : Kind) → rank j ≡ rank k → j ≡ k
rank_same j k e = sym (ranked_back j) ∙ ap kind_ranked e ∙ ranked_back k

wanted_is : (o : Option Kind) (k : Kind) → is_wanted o k ≡ true → o ≡ Some k
wanted_is None k e = absurd (false≢true e)
wanted_is (Some j) k e = ap (λ (i : Kind). Some i) (rank_same j k (eqb-true (rank j) (rank k) e))

pub nth_behind : (xs ys : List Kind) → maps.slice_get (xs ++ ys) (length xs) ≡ maps.slice_get ys 0
nth_behind [] ys = refl
nth_behind (x ∷ xs) ys = nth_behind xs ys

-- the kind that an open form wants next is the first that is pending
next_is : (es : List Entry) (f : Frame) (ks : List Kind) (before ls : List Line) → Level es f 0 ks before ls → next_kind f ≡ maps.slice_get ks 0
next_is es f ks before ls l =
    let count : f.begun ≡ length (map kind_of l.done) = omega (arith, l.begun, length-map l.done kind_of) in
    ap₂ (maps.slice_get {X = Kind}) (sym l.kinds) count ∙ nth_behind (map kind_of l.done) ks

begin_level : (es : List Entry) (f : Frame) (ks : List Kind) (k : Kind) (before ls : List Line) → Level es f 0 ks before ls → maps.slice_get ks 0 ≡ Some k → (rest : List Kind) × Level es (with_begun f) 1 (k ∷ rest) before ls
begin_level es f [] k before ls l e = absurd (cc)
begin_level es f (j ∷ ks) k before ls l e =
    let same : j ≡ k = cc in
    (ks, record { done = l.done; begun = omega (arith, l.begun); kinds = ap (λ (i : Kind). map kind_of l.done ++ (i ∷ ks)) (sym same) ∙ l.kinds; spelt = l.spelt; counted = l.counted; has = l.has; so_far = l.so_far })

-- a form of a wanted kind begins
begin : (es : List Entry) (fs : List Frame) (forms : ℕ) (ls : List Line) (k : Kind) → At es fs forms ls → is_wanted (wanted (first_of fs) forms) k ≡ true → Outer es (innermost with_begun fs) k ls
begin es [] forms ls k (inl x) e =
    let some : ◌≡◌ {A = Option Kind} (Some Number) (Some k) = sym (ap (λ (b : Bool). cond b (Some Number) None) (eq-eqb forms 0 x.0)) ∙ wanted_is (wanted None forms) k e in
    let same : Number ≡ k = cc in
    (sym same, x.1)
begin es [] forms ls k (inr x) e =
    let z : ◌≡◌ {A = Option Kind} None (Some k) = sym (ap (λ (b : Bool). cond b (Some Number) None) (ne_eqb forms 0 (λ f. omega (arith, x.1)))) ∙ wanted_is (wanted None forms) k e in
    absurd (cc)
begin es (f ∷ fs) forms ls k x e =
    let a = x.0 in
    let level = begin_level es f a.0 k a.1 ls a.2 (sym (next_is es f a.0 a.1 ls a.2) ∙ wanted_is (next_kind f) k e) in
    (level.0, a.1, level.1, a.3)

-- a form is closed: its tree is the last in the table, and a part of the form around it
deliver : (es : List Entry) (fs : List Frame) (k : Kind) (ls : List Line) (forms : ℕ) (e : Entry) (t : AnyTree) → Outer es fs k ls → kind_of t ≡ k → build (parts es) e.form ≡ part_of t → 0 < forms → At (es ++ e ∷ []) (innermost (with_part (length es)) fs) forms (ls ++ lines t.1)
deliver es [] k ls forms e t o kind b some =
    let number = of_kind t Number (kind ∙ o.0) in
    let at_end : length (es ++ e ∷ []) - 1 ≡ length es = omega (arith, length_push es e) in
    inr ((number.0, ap₂ (λ (xs : List Line) (u : AnyTree). xs ++ lines u.1) o.1 number.1, subst (λ (u : AnyTree). Spelt (es ++ e ∷ []) (length (es ++ e ∷ []) - 1) u) number.1 (subst (λ (q : ℕ). Spelt (es ++ e ∷ []) q t) (sym at_end) (spelt_new es e t b))), some)
deliver es (f ∷ fs) k ls forms e t o kind b some =
    let rest = o.0 in
    let before = o.1 in
    let l = o.2 in
    let done = l.done in
    let short : length (reverse done) < 3 = omega (arith, length-reverse done, length-map done kind_of, ap length l.kinds, length-append (map kind_of done) (k ∷ rest), three_parts f.heading.word) in
    let new : Level (es ++ e ∷ []) (with_part (length es) f) 0 rest before (ls ++ lines t.1) =
    record {
      done = done ++ t ∷ [];
      begun = omega (arith, l.begun, length_push done t);
      kinds = ap (λ (ks : List Kind). ks ++ rest) (map_push kind_of done t ∙ ap (λ (j : Kind). map kind_of done ++ j ∷ []) kind) ∙ append_assoc (map kind_of done) (k ∷ []) rest ∙ l.kinds;
      spelt = subst (AllSpelt (es ++ e ∷ []) (length es ∷ f.last ∷ f.second_last ∷ [])) (sym (reverse-append done (t ∷ []))) (each_shift (λ q u before. Spelt (es ++ e ∷ []) q u) (length es) f.last f.second_last f.third_last t (reverse done) short (spelt_new es e t b) (all_push es e (positions f) (reverse done) l.spelt));
      counted = l.counted;
      has = l.has;
      so_far = ap (λ (xs : List Line). xs ++ lines t.1) l.so_far ∙ append_assoc before (opening f.heading.word (numbers_in f.heading) ∷ all_lines done) (lines t.1) ∙ ap (λ (xs : List Line). before ++ (opening f.heading.word (numbers_in f.heading) ∷ xs)) (sym (joined_push done t));
    } in
    ((rest, before, new, outer_push es e fs (entry f.heading.word).kind before o.3), some)

no_parts : (ks : List Kind) → not (some_kind ks) ≡ true → [] ≡ ks
no_parts [] e = refl
no_parts (k ∷ ks) e = absurd (false≢true e)

none_pending : (ks : List Kind) → is_some (maps.slice_get ks 0) ≡ false → ks ≡ []
none_pending [] e = refl
none_pending (k ∷ ks) e = absurd (true≢false e)

-- the lines of a form with parts
closed_lines : (w : Word) (h : Heading) (ps : List AnyTree) → some_kind (map kind_of ps) ≡ true → form_lines w (numbers_in h) (folds form_lines ps) ≡ opening w (numbers_in h) ∷ (all_lines ps ++ closing ∷ [])
closed_lines w h [] e = absurd (false≢true e)
closed_lines w h (p ∷ ps) e = refl

-- no wrong kind so far, nor at this line
still_right : (o : Option ℕ) (b : Bool) (n : ℕ) → or_else o (unless b n) ≡ None → (o ≡ None) × (b ≡ true)
still_right (Some k) b n e = absurd (cc)
still_right None true n e = (refl, refl)
still_right None false n e = absurd (cc)

kind_fits : (s : State) (h : Heading) (n : ℕ) → (begun_form h n s.at).wrong ≡ None → is_wanted (wanted (first_of s.at.open_forms) s.at.forms) (entry h.word).kind ≡ true
kind_fits s h n e = (still_right s.at.wrong (is_wanted (wanted (first_of s.at.open_forms) s.at.forms) (entry h.word).kind) n e).1

pub right_before : (t : Token Heading) (s : State) → (after_line t s).at.wrong ≡ None → s.at.wrong ≡ None
right_before (Opening h n) s e = (still_right s.at.wrong (is_wanted (wanted (first_of s.at.open_forms) s.at.forms) (entry h.word).kind) n e).0
right_before (Leaf h n) s e = (still_right s.at.wrong (is_wanted (wanted (first_of s.at.open_forms) s.at.forms) (entry h.word).kind) n e).0
right_before (Closing n) s e = go s.at.open_forms e
  where
    go : (fs : List Frame) → (close_innermost fs s).at.wrong ≡ None → s.at.wrong ≡ None
    go [] f = f
    go (f ∷ fs) g = g

-- a line more
pub step_at : (s : State) (last : Bool) (t : Token Heading) (ls : List Line) → Allowed s last t → (after_line t s).at.wrong ≡ None → Proper (as_line t) → At s.entries s.at.open_forms s.at.forms ls → At (after_line t s).entries (after_line t s).at.open_forms (after_line t s).at.forms (ls ++ as_line t ∷ [])
step_at s last (Opening h n) ls a right proper x =
    let outer = begin s.entries s.at.open_forms s.at.forms ls (entry h.word).kind x (kind_fits s h n right) in
    (((entry h.word).parts, ls, record { done = []; begun = refl; kinds = refl; spelt = tt; counted = proper; has = (and_parts (is_some (wanted (first_of s.at.open_forms) s.at.forms)) (has_parts h.word) a.fit).1; so_far = refl }, outer), omega arith)
step_at s last (Leaf h n) ls a right proper x =
    let outer = begin s.entries s.at.open_forms s.at.forms ls (entry h.word).kind x (kind_fits s h n right) in
    let kinds = no_parts (entry h.word).parts (and_parts (is_some (wanted (first_of s.at.open_forms) s.at.forms)) (not (has_parts h.word)) a.fit).1 in
    let m = made h.word h.first h.second [] kinds in
    let tree = make h.word (numbers_in h) [] in
    subst (λ (xs : List Line). At (after_line (Leaf h n) s).entries (after_line (Leaf h n) s).at.open_forms (s.at.forms + 1) (ls ++ xs)) (m.folded form_lines)
    (deliver s.entries (innermost with_begun s.at.open_forms) (entry h.word).kind ls (s.at.forms + 1) (entry_of (fresh h n s.at.forms)) tree outer m.kind (built h.word h.first h.second [] kinds (parts s.entries) 0 0 0 tt) (omega arith))
step_at s last (Closing n) ls a right proper x = go s.at.open_forms a.fit x
  where
    go : (fs : List Frame) → fits (first_of fs) (wanted (first_of fs) s.at.forms) (Closing n) ≡ true → At s.entries fs s.at.forms ls → At (close_innermost fs s).entries (close_innermost fs s).at.open_forms (close_innermost fs s).at.forms (ls ++ closing ∷ [])
    go [] fit y = absurd (false≢true fit)
    go (f ∷ fs) fit y =
        let b = y.0 in
        let l = b.2 in
        let nothing = none_pending b.0 (ap is_some (sym (next_is s.entries f b.0 b.1 ls l)) ∙ not-true (is_some (next_kind f)) fit) in
        let kinds : map kind_of l.done ≡ (entry f.heading.word).parts = sym (append-nil (map kind_of l.done)) ∙ ap (λ (ks : List Kind). map kind_of l.done ++ ks) (sym nothing) ∙ l.kinds in
        let w = f.heading.word in
        let m = made w f.heading.first f.heading.second l.done kinds in
        let tree = make w (numbers_in f.heading) l.done in
        let whole : lines tree.1 ≡ opening w (numbers_in f.heading) ∷ (all_lines l.done ++ closing ∷ []) = m.folded form_lines ∙ closed_lines w f.heading l.done (ap some_kind kinds ∙ l.has) in
        let shown : b.1 ++ lines tree.1 ≡ ls ++ closing ∷ [] = ap (λ (xs : List Line). b.1 ++ xs) whole ∙ sym (append_assoc b.1 (opening w (numbers_in f.heading) ∷ all_lines l.done) (closing ∷ [])) ∙ ap (λ (xs : List Line). xs ++ closing ∷ []) (sym l.so_far) in
        subst (At (close_innermost (f ∷ fs) s).entries (close_innermost (f ∷ fs) s).at.open_forms s.at.forms) shown
        (deliver s.entries fs (entry w).kind b.1 s.at.forms (entry_of f) tree b.3 m.kind (built w f.heading.first f.heading.second l.done kinds (parts s.entries) f.third_last f.second_last f.last (all_placed s.entries (positions f) (reverse l.done) l.spelt)) y.1)
