-- The lines of a tree within the limits are read, and each of its forms is entered with the line on which it opens.
use Rattle.std.proofs.Common.{◌≡◌, ℕ, suc, ◌+◌, ◌<◌, ◌≤◌, max, Bool, true, false, cond, not, ◌&&◌, ltb, List, [], ◌∷◌, ◌++◌, map, reverse, length, ℤ, is_some, Some, None, Ok, Err, sum, Option, Result, sym, refl, ap, ◌∙◌, subst, ap₂, append_assoc, append-nil, arith}
use mathlib.Core.List.{foldr, reverse_aux, reverse_aux-eq}
use Rattle.std.proofs.lemmas.List.{length_push, length-append, length-map, length-reverse}
use Rattle.std.proofs.lemmas.List.Sums.{sum_by-cons}
use Rattle.std.proofs.lemmas.Bool.{and_from, eq-eqb, lt-ltb, le-ltb, not_from_false, true≢false, false≢true}
use Rattle.std.specs.List.{AllByRecursion}
use Rattle.std.specs.List as maps
use Rattle.refusals.specs.Rules.{or_else, unless}
use Rattle.trees.proofs.Induction.{make, folds, Made, induct}
use Rattle.trees.specs.declared.Kind.{Kind}
use Rattle.trees.specs.declared.words.Word.{Word}
use Rattle.trees.specs.Size.{form_size, size, form_depth, depth, max_depth, max_forms}
use Rattle.trees.specs.Tree.{Tree, AnyTree, any}
use Rattle.trees.specs.Words.{entry}
use Rattle.trees.specs.Written.{Line, form_lines, lines}
use Rattle.trees.specs.Written.Line.{opening, leaf, closing}
use Rattle.lines.proofs.Readback.{heading_of, token_of}
use Rattle.lines.specs.declared.heading.Heading.{Heading}
use Rattle.lines.specs.declared.token.Token.{Token}
use Rattle.lines.specs.declared.token.Token.TheVariants.{Opening, Leaf, Closing}
use Rattle.lines.specs.Line.{after}
use Rattle.reading.proofs.Balance.{length_innermost}
use Rattle.reading.proofs.Lined.{line_behind, order_behind, InTurn, Grown, grown_on, StaysLined, parts_stay, closed_lined}
use Rattle.reading.proofs.Parts.{Each, each_shift}
use Rattle.reading.proofs.Run.{no_token, tokens_read, tokens_of}
use Rattle.reading.proofs.Sound.{all_lines, nth_behind}
use Rattle.reading.proofs.Typed.{kind_of}
use Rattle.reading.proofs.Wanted.{three_parts}
use Rattle.reading.specs.declared.fault.FormFault.{FormFault}
use Rattle.reading.specs.declared.fault.FormFault.TheVariants.{Misplaced, TooLarge}
use Rattle.reading.specs.declared.frame.Frame.{Frame}
use Rattle.reading.specs.Decide.{wanted, has_parts, some_kind, fits, leaves_open, has_room, line_of}
use Rattle.reading.specs.Frame.{fresh, with_begun, with_part, entry_of}
use Rattle.reading.specs.Progress.{State, rank, is_wanted, innermost, after_line, close_innermost, step}
use Rattle.reading.specs.Stack.{first_of}

-- a line that may stand is read
steps : (s : State) (last : Bool) (t : Token Heading) → fits (first_of s.at.open_forms) (wanted (first_of s.at.open_forms) s.at.forms) t ≡ true → (last && leaves_open (length s.at.open_forms) t) ≡ false → has_room (length s.at.open_forms) s.at.forms t ≡ true → step s last t ≡ Ok (after_line t s)
steps s last t fit shut roomy = go (fits (first_of s.at.open_forms) (wanted (first_of s.at.open_forms) s.at.forms) t) (last && leaves_open (length s.at.open_forms) t) (has_room (length s.at.open_forms) s.at.forms t) fit shut roomy
  where
    go : (x y z : Bool) → x ≡ true → y ≡ false → z ≡ true → after {X = Unit {0}} (cond x (cond y (Err (Misplaced (line_of t))) (cond z (Ok tt) (Err (TooLarge (line_of t))))) (Err (Misplaced (line_of t)))) (λ u. Ok (after_line t s)) ≡ Ok (after_line t s)
    go true false true e f g = refl
    go true false false e f g = absurd (false≢true g)
    go true true z e f g = absurd (true≢false f)
    go false y z e f g = absurd (false≢true e)

-- where nothing follows, nothing may be open
abbrev pub Ends : List Line → State → Type 0
Ends [] s = length s.at.open_forms ≡ 0
Ends (l ∷ ls) s = Unit {0}

ends_more : (xs : List Line) (l : Line) (ls : List Line) (s : State) → Ends (xs ++ l ∷ ls) s
ends_more [] l ls s = tt
ends_more (x ∷ xs) l ls s = tt

-- the tokens of ls, from line n on, lead from s to s', and those of rest follow
abbrev pub Leads : State → ℕ → (ls rest : List Line) → State → Type 0
Leads s n ls rest s' = tokens_read s (tokens_of n (ls ++ rest)) ≡ tokens_read s' (tokens_of (n + length ls) rest)

leads_on : (s s₁ s₂ : State) (n : ℕ) (xs ys rest : List Line) → Leads s n xs (ys ++ rest) s₁ → Leads s₁ (n + length xs) ys rest s₂ → Leads s n (xs ++ ys) rest s₂
leads_on s s₁ s₂ n xs ys rest first later =
    let line : n + length xs + length ys ≡ n + length (xs ++ ys) = omega (arith, length-append xs ys) in
    ap (λ (ls : List Line). tokens_read s (tokens_of n ls)) (append_assoc xs ys rest) ∙ first ∙ later ∙ ap (λ (i : ℕ). tokens_read s₂ (tokens_of i rest)) line

-- the tree p, which opens on line n, was read as a part of the innermost form, and its entry is the last
pub record Delivered (s : State) (p : AnyTree) (n : ℕ) (s' : State) : Type 0 where
  pub position : ℕ
  pub open_now : s'.at.open_forms ≡ innermost (λ f. with_part position (with_begun f)) s.at.open_forms
  pub forms_now : s'.at.forms ≡ s.at.forms + size p.1
  pub wrong_now : s'.at.wrong ≡ s.at.wrong
  pub grown : Grown s.entries s'.entries
  pub at_end : length s'.entries ≡ position + 1
  pub lined : StaysLined s'.entries p position n s.at.forms

abbrev pub Goes : AnyTree → Type 0
Goes p =
    (s : State) (n : ℕ) (rest : List Line)
    → is_wanted (wanted (first_of s.at.open_forms) s.at.forms) (kind_of p) ≡ true
    → s.at.forms + size p.1 ≤ max_forms
    → length s.at.open_forms + depth p.1 ≤ max_depth
    → Ends rest s
    → (s' : State) × Leads s n (lines p.1) rest s' × Delivered s p n s'

no_wrong : (o : Option ℕ) (b : Bool) (n : ℕ) → b ≡ true → or_else o (unless b n) ≡ o
no_wrong None b n e = ap (λ (t : Bool). unless t n) e
no_wrong (Some k) b n e = refl

wanted_some : (o : Option Kind) (k : Kind) → is_wanted o k ≡ true → is_some o ≡ true
wanted_some None k e = e
wanted_some (Some j) k e = refl

roomy : (d n : ℕ) → d < max_depth → n < max_forms → (ltb d max_depth && ltb n max_forms) ≡ true
roomy d n h k = and_from (ltb d max_depth) (ltb n max_forms) (lt-ltb d max_depth h) (lt-ltb n max_forms k)

both_changed : (q : ℕ) (fs : List Frame) → innermost (with_part q) (innermost with_begun fs) ≡ innermost (λ f. with_part q (with_begun f)) fs
both_changed q [] = refl
both_changed q (f ∷ fs) = refl

not_last : (n : ℕ) (rest : List Line) (s : State) (d : ℕ) (t : Token Heading) → Ends rest s → (length s.at.open_forms ≡ 0 → leaves_open d t ≡ false) → (no_token (tokens_of n rest) && leaves_open d t) ≡ false
not_last n [] s d t e h = h e
not_last n (l ∷ ls) s d t e h = refl

-- one line, then the others
one : (s s' : State) (n : ℕ) (l : Line) (rest : List Line) → step s (no_token (tokens_of (n + 1) rest)) (token_of n l) ≡ Ok s' → Leads s n (l ∷ []) rest s'
one s s' n l rest e = ap (λ (r : Result State FormFault). after r (λ x. tokens_read x (tokens_of (n + 1) rest))) e

goes_leaf : (w : Word) (ns : List ℤ) → Made w ns [] → Goes (make w ns [])
goes_leaf w ns made s n rest wants few deep end =
    let h = heading_of w ns in
    let o = wanted (first_of s.at.open_forms) s.at.forms in
    let s' = after_line (Leaf h n) s in
    let new = entry_of (fresh h n s.at.forms) in
    let sized = made.folded form_size in
    let deepest = made.folded form_depth in
    let fit = subst (λ (k : Kind). is_wanted o k ≡ true) made.kind wants in
    let none : has_parts w ≡ false = ap some_kind (sym made.parts) in
    let stepped = steps s (no_token (tokens_of (n + 1) rest)) (Leaf h n) (and_from (is_some o) (not (has_parts w)) (wanted_some o (entry w).kind fit) (not_from_false (has_parts w) none)) (not_last (n + 1) rest s (length s.at.open_forms) (Leaf h n) end (λ e. le-ltb 0 (length s.at.open_forms) (omega arith))) (roomy (length s.at.open_forms) s.at.forms (omega arith) (omega arith)) in (
      s',
      subst (λ (ls : List Line). Leads s n ls rest s') (sym (made.folded form_lines)) (one s s' n (leaf w ns) rest stepped),
      record {
        position = length s.entries;
        open_now = both_changed (length s.entries) s.at.open_forms;
        forms_now = omega arith;
        wrong_now = no_wrong s.at.wrong (is_wanted o (entry w).kind) n fit;
        grown = (new ∷ [], refl);
        at_end = length_push s.entries new;
        lined = closed_lined w ns [] made.parts h.first h.second n s.at.forms 0 0 0 s.entries tt;
      },
    )

same_kind : (k : Kind) → is_wanted (Some k) k ≡ true
same_kind k = eq-eqb (rank k) (rank k) refl

-- an open form, which opened on line n as form o
abbrev partly : Heading → (n o begun third second last : ℕ) → Frame
partly h n o begun third second last = record { heading = h; line = n; order = o; begun = begun; third_last = third; second_last = second; last = last }

-- such a form, inside the forms fs
module _ (h : Heading) (n o : ℕ) (fs : List Frame) where
  -- the parts that are done, the last first, are read, and parts of the kinds ahead are to come
  record Among (s : State) (done : List AnyTree) (ahead : List Kind) : Type 0 where
    begun : ℕ
    third : ℕ
    second : ℕ
    last : ℕ
    open_now : s.at.open_forms ≡ partly h n o begun third second last ∷ fs
    count : begun ≡ length done
    kinds : reverse_aux (map kind_of done) ahead ≡ (entry h.word).parts
    forms_now : s.at.forms ≡ order_behind (o + 1) done
    lined : Each (InTurn (StaysLined s.entries) n o) (last ∷ second ∷ third ∷ []) done

  among_wants : (s : State) (done : List AnyTree) (ahead : List Kind) → Among s done ahead → wanted (first_of s.at.open_forms) s.at.forms ≡ maps.slice_get ahead 0
  among_wants s done ahead m =
      let before = map kind_of done in
      let count : m.begun ≡ length (reverse before) = omega (arith, m.count, length-reverse before, length-map done kind_of) in
      ap (λ (xs : List Frame). wanted (first_of xs) s.at.forms) m.open_now
      ∙ ap₂ (maps.slice_get {X = Kind}) (sym m.kinds ∙ reverse_aux-eq before ahead) count
      ∙ nth_behind (reverse before) ahead

  among_next : (s s' : State) (done : List AnyTree) (p : AnyTree) (ahead : List Kind) → Among s done (kind_of p ∷ ahead) → Delivered s p (line_behind (n + 1) done) s' → Among s' (p ∷ done) ahead
  among_next s s' done p ahead m d =
      let before = map kind_of done in
      let short : length done < 3 = omega (arith, length-map done kind_of, length-reverse before, length-append (reverse before) (kind_of p ∷ ahead), ap length (sym (reverse_aux-eq before (kind_of p ∷ ahead)) ∙ m.kinds), three_parts h.word) in
      record {
        begun = m.begun + 1;
        third = m.second;
        second = m.last;
        last = d.position;
        open_now = d.open_now ∙ ap (innermost (λ f. with_part d.position (with_begun f))) m.open_now;
        count = omega (arith, m.count);
        kinds = m.kinds;
        forms_now = d.forms_now ∙ ap (λ (i : ℕ). i + size p.1) m.forms_now;
        lined = each_shift (InTurn (StaysLined s'.entries) n o) d.position m.last m.second m.third p done short (subst (StaysLined s'.entries p d.position (line_behind (n + 1) done)) m.forms_now d.lined) (parts_stay s.entries s'.entries d.grown n o (m.last ∷ m.second ∷ m.third ∷ []) done m.lined);
      }

  record PartsRead (s : State) (done ps : List AnyTree) (rest : List Line) : Type 0 where
    end : State
    way : Leads s (line_behind (n + 1) done) (all_lines ps) rest end
    among : Among end (reverse_aux ps done) []
    forms_now : end.at.forms ≡ s.at.forms + sum (folds form_size ps)
    wrong_now : end.at.wrong ≡ s.at.wrong
    grown : Grown s.entries end.entries

  goes_parts : (ps : List AnyTree) → AllByRecursion Goes ps → (s : State) (done : List AnyTree) (l : Line) (ls : List Line) → Among s done (map kind_of ps) → s.at.forms + sum (folds form_size ps) ≤ max_forms → suc (length fs) + foldr max 0 (folds form_depth ps) ≤ max_depth → PartsRead s done ps (l ∷ ls)
  goes_parts [] all s done l ls m few deep = record { end = s; way = ap (λ (i : ℕ). tokens_read s (tokens_of i (l ∷ ls))) (omega arith); among = m; forms_now = omega arith; wrong_now = refl; grown = ([], sym (append-nil s.entries)) }
  goes_parts (p ∷ ps) all s done l ls m few deep =
      let sizes = sum_by-cons (λ x. x) (size p.1) (folds form_size ps) in
      let opened = ap length m.open_now in
      let at_line = line_behind (n + 1) done in
      let first = all.0 s at_line (all_lines ps ++ (l ∷ ls)) (ap (λ (k : Option Kind). is_wanted k (kind_of p)) (among_wants s done (kind_of p ∷ map kind_of ps) m) ∙ same_kind (kind_of p)) (omega arith) (omega arith) (ends_more (all_lines ps) l ls s) in
      let s₁ = first.0 in
      let d = first.2 in
      let later = goes_parts ps all.1 s₁ (p ∷ done) l ls (among_next s s₁ done p (map kind_of ps) m d) (omega (arith, d.forms_now)) (omega arith) in
      record {
        end = later.end;
        way = leads_on s s₁ later.end at_line (lines p.1) (all_lines ps) (l ∷ ls) first.1 later.way;
        among = later.among;
        forms_now = omega (arith, later.forms_now, d.forms_now);
        wrong_now = later.wrong_now ∙ d.wrong_now;
        grown = grown_on s.entries s₁.entries later.end.entries d.grown later.grown;
      }

  -- the line that closes a form whose parts are all read
  goes_close : (s : State) (i : ℕ) (rest : List Line) (done : List AnyTree) (m : Among s done []) → (rest ≡ [] → length fs ≡ 0) → Leads s i (closing ∷ []) rest (close_innermost (partly h n o m.begun m.third m.second m.last ∷ fs) s)
  goes_close s i rest done m shut =
      let f = partly h n o m.begun m.third m.second m.last in
      let nothing : wanted (first_of s.at.open_forms) s.at.forms ≡ None = among_wants s done [] m in
      let fit : fits (first_of s.at.open_forms) (wanted (first_of s.at.open_forms) s.at.forms) (Closing i) ≡ true = ap₂ (λ (xs : List Frame) (k : Option Kind). fits (first_of xs) k (Closing i)) m.open_now nothing in
      let alone : (no_token (tokens_of (i + 1) rest) && leaves_open (length s.at.open_forms) (Closing i)) ≡ false = last_close rest shut in
      one s (close_innermost (f ∷ fs) s) i closing rest (steps s (no_token (tokens_of (i + 1) rest)) (Closing i) fit alone refl ∙ ap (λ (xs : List Frame). Ok (close_innermost xs s)) m.open_now)
    where
      last_close : (xs : List Line) → (xs ≡ [] → length fs ≡ 0) → (no_token (tokens_of (i + 1) xs) && ltb 1 (length s.at.open_forms)) ≡ false
      last_close [] g = le-ltb 1 (length s.at.open_forms) (omega (arith, g refl, ap length m.open_now))
      last_close (x ∷ xs) g = refl

goes_form : (w : Word) (ns : List ℤ) (q : AnyTree) (ps : List AnyTree) → Made w ns (q ∷ ps) → AllByRecursion Goes (q ∷ ps) → Goes (make w ns (q ∷ ps))
goes_form w ns q ps made all s n rest wants few deep end =
    let h = heading_of w ns in
    let o = wanted (first_of s.at.open_forms) s.at.forms in
    let s₁ = after_line (Opening h n) s in
    let fs = innermost with_begun s.at.open_forms in
    let around = length_innermost with_begun s.at.open_forms in
    let inside = all_lines (q ∷ ps) in
    let sized = made.folded form_size in
    let deepest = made.folded form_depth in
    let fit = subst (λ (k : Kind). is_wanted o k ≡ true) made.kind wants in
    let some : has_parts w ≡ true = ap some_kind (sym made.parts) in
    let opened = steps s false (Opening h n) (and_from (is_some o) (has_parts w) (wanted_some o (entry w).kind fit) some) refl (roomy (length s.at.open_forms) s.at.forms (omega arith) (omega arith)) in
    let m : Among h n s.at.forms fs s₁ [] (map kind_of (q ∷ ps)) = record { begun = 0; third = 0; second = 0; last = 0; open_now = refl; count = refl; kinds = made.parts; forms_now = refl; lined = tt } in
    let parts = goes_parts h n s.at.forms fs (q ∷ ps) all s₁ [] closing rest m (omega arith) (omega arith) in
    let last = parts.end in
    let among = parts.among in
    let f = partly h n s.at.forms among.begun among.third among.second among.last in
    let s' = close_innermost (f ∷ fs) last in
    let closed = goes_close h n s.at.forms fs last (n + 1 + length inside) rest (reverse (q ∷ ps)) among (λ e. around ∙ subst (λ (xs : List Line). Ends xs s) e end) in
    let first = one s s₁ n (opening w ns) ((inside ++ closing ∷ []) ++ rest) (ap (λ (b : Bool). step s b (Opening h n)) (never_last (n + 1) inside rest) ∙ opened) in
    let whole = leads_on s s₁ s' n (opening w ns ∷ []) (inside ++ closing ∷ []) rest first (leads_on s₁ last s' (n + 1) inside (closing ∷ []) rest parts.way closed) in (
      s',
      subst (λ (ls : List Line). Leads s n ls rest s') (sym (made.folded form_lines)) whole,
      record {
        position = length last.entries;
        open_now = both_changed (length last.entries) s.at.open_forms;
        forms_now = omega (arith, parts.forms_now);
        wrong_now = parts.wrong_now ∙ no_wrong s.at.wrong (is_wanted o (entry w).kind) n fit;
        grown = grown_on s.entries last.entries s'.entries parts.grown (entry_of f ∷ [], refl);
        at_end = length_push last.entries (entry_of f);
        lined = closed_lined w ns (q ∷ ps) made.parts h.first h.second n s.at.forms among.third among.second among.last last.entries among.lined;
      },
    )
  where
    never_last : (i : ℕ) (xs ys : List Line) → no_token (tokens_of i ((xs ++ closing ∷ []) ++ ys)) ≡ false
    never_last i [] ys = refl
    never_last i (x ∷ xs) ys = refl

form_goes : (w : Word) (ns : List ℤ) (ps : List AnyTree) → Made w ns ps → AllByRecursion Goes ps → Goes (make w ns ps)
form_goes w ns [] made all = goes_leaf w ns made
form_goes w ns (q ∷ ps) made all = goes_form w ns q ps made all

-- the lines of a tree lead from a place that wants it to the place behind it
pub goes : {k : Kind} (t : Tree k) → Goes (any t)
goes = induct Goes form_goes
