-- A text as a list of tokens: what is read of them, and how they stand for the bytes.
use Rattle.std.proofs.Common.{◌≡◌, ℕ, zero, suc, pred, ◌+◌, ◌<◌, ◌≤◌, Bool, true, false, List, [], ◌∷◌, ◌++◌, map, length, None, Ok, Err, Result, sym, refl, ap, ◌∙◌, subst, append_assoc, append-nil, arith}
use Rattle.std.proofs.lemmas.Bool.{ltb-false, true≢false, ne_eqb}
use Rattle.std.specs.List.{flat_map, AllByRecursion}
use Rattle.trees.specs.Size.{max_depth}
use Rattle.trees.specs.Written.{Line, line_bytes, forms_in, deepest}
use Rattle.trees.specs.Written.Line.{opening, leaf, closing}
use Rattle.lines.proofs.Readback.{token_of, read_back}
use Rattle.lines.proofs.Told.{written_by}
use Rattle.lines.specs.declared.fault.LineFault.{LineFault}
use Rattle.lines.specs.declared.heading.Heading.{Heading}
use Rattle.lines.specs.declared.token.Token.{Token}
use Rattle.lines.specs.declared.token.Token.TheVariants.{Opening, Leaf, Closing}
use Rattle.lines.specs.Line.{after, line_read, as_line, Proper}
use Rattle.reading.proofs.Balance.{taken, length_innermost, step_balanced}
use Rattle.reading.proofs.Cut.{turn, turn_fault, no_lines}
use Rattle.reading.proofs.Places.{Allowed, room_below}
use Rattle.reading.proofs.Sound.{At, step_at, right_before}
use Rattle.reading.specs.declared.fault.FormFault.{FormFault}
use Rattle.reading.specs.declared.frame.Frame.{Frame}
use Rattle.reading.specs.Frame.{with_begun, with_part}
use Rattle.reading.specs.Progress.{State, Balanced, innermost, after_line, close_innermost, step}
use Rattle.reading.specs.Text.{lines_of, none, lines_read}

abbrev pub no_token : List (Token Heading) → Bool
no_token [] = true
no_token (t ∷ ts) = false

-- what is read of tokens
abbrev pub tokens_read : State → List (Token Heading) → Result State FormFault
tokens_read s [] = Ok s
tokens_read s (t ∷ ts) = after (step s (no_token ts) t) (λ s'. tokens_read s' ts)

-- from bytes to tokens

pub record Parsed (s : State) (bs : List ℕ) (s' : State) : Type 0 where
  pub tokens : List (Token Heading)
  pub reads : tokens_read s tokens ≡ Ok s'
  pub bytes : bs ≡ flat_map line_bytes (map as_line tokens)
  pub proper : AllByRecursion Proper (map as_line tokens)
  pub ends : no_token tokens ≡ none (lines_of bs)

-- a first token, and those behind it
parsed_more : (s s₁ s' : State) (n : ℕ) (bs more : List ℕ) (t : Token Heading) → 0 < length bs → line_read n bs ≡ Ok (t, more) → step s (none (lines_of more)) t ≡ Ok s₁ → Parsed s₁ more s' → Parsed s bs s'
parsed_more s s₁ s' n bs more t h reads first p =
    let w = written_by n bs t more reads in
    record {
      tokens = t ∷ p.tokens;
      reads = ap (λ (b : Bool). after (step s b t) (λ x. tokens_read x p.tokens)) p.ends ∙ ap (λ (r : Result State FormFault). after r (λ x. tokens_read x p.tokens)) first ∙ p.reads;
      bytes = w.0 ∙ ap (λ (xs : List ℕ). line_bytes (as_line t) ++ xs) p.bytes;
      proper = (w.1, p.proper);
      ends = sym (no_lines bs ∙ ne_eqb (length bs) 0 (λ e. omega arith));
    }

pub parse : (k n : ℕ) (bs : List ℕ) (s s' : State) → length bs ≤ k → lines_read s n (lines_of bs) ≡ Ok s' → Parsed s bs s'
parse k n [] s s' h e = let same : s ≡ s' = cc in record { tokens = []; reads = ap (λ x. Ok x) same; bytes = refl; proper = tt; ends = refl }
parse zero n (c ∷ cs) s s' h e = absurd (omega arith)
parse (suc k) n (c ∷ cs) s s' h e = go (line_read n (c ∷ cs)) refl (λ more y l g. parse k (n + 1) more y s' l g)
  where
    stepped : (t : Token Heading) (more : List ℕ) → line_read n (c ∷ cs) ≡ Ok (t, more) → ((x : State) → lines_read x (n + 1) (lines_of more) ≡ Ok s' → Parsed x more s') → (r : Result State FormFault) → step s (none (lines_of more)) t ≡ r → after r (λ x. lines_read x (n + 1) (lines_of more)) ≡ Ok s' → Parsed s (c ∷ cs) s'
    stepped t more reads ih (Ok x) f g = parsed_more s x s' n (c ∷ cs) more t (omega arith) reads f (ih x g)
    stepped t more reads ih (Err x) f g = absurd (cc)

    go : (r : Result (Token Heading × List ℕ) LineFault) → line_read n (c ∷ cs) ≡ r → ((more : List ℕ) (y : State) → length more ≤ k → lines_read y (n + 1) (lines_of more) ≡ Ok s' → Parsed y more s') → Parsed s (c ∷ cs) s'
    go (Err x) f ih = let g = turn_fault s n (c ∷ cs) x (omega arith) f in absurd (cc)
    go (Ok x) f ih =
        let there = turn s n (c ∷ cs) x.0 x.1 (omega arith) f in
        stepped x.0 x.1 f (λ y g. ih x.1 y (omega (arith, there.1)) g) (step s (none (lines_of x.1)) x.0) refl (sym there.0 ∙ e)

-- from lines to bytes

-- the tokens of lines, from line n on
abbrev pub tokens_of : ℕ → List Line → List (Token Heading)
tokens_of n [] = []
tokens_of n (l ∷ ls) = token_of n l ∷ tokens_of (n + 1) ls

some_bytes : (l : Line) (xs : List ℕ) → 0 < length (line_bytes l ++ xs)
some_bytes (opening w ns) xs = omega arith
some_bytes (leaf w ns) xs = omega arith
some_bytes closing xs = omega arith

same_end : (n : ℕ) (ls : List Line) → none (lines_of (flat_map line_bytes ls)) ≡ no_token (tokens_of n ls)
same_end n [] = refl
same_end n (l ∷ ls) = no_lines (flat_map line_bytes (l ∷ ls)) ∙ ne_eqb (length (flat_map line_bytes (l ∷ ls))) 0 (λ e. omega (arith, some_bytes l (flat_map line_bytes ls)))

after_same : {X Y E : Type 0} (r : Result X E) (f g : X → Result Y E) → ((x : X) → f x ≡ g x) → after r f ≡ after r g
after_same (Ok x) f g h = h x
after_same (Err e) f g h = refl

pub unparse : (n : ℕ) (ls : List Line) (s : State) → AllByRecursion Proper ls → lines_read s n (lines_of (flat_map line_bytes ls)) ≡ tokens_read s (tokens_of n ls)
unparse n [] s all = refl
unparse n (l ∷ ls) s all =
    let rest = flat_map line_bytes ls in
    (turn s n (line_bytes l ++ rest) (token_of n l) rest (some_bytes l rest) (read_back n l rest all.0)).0
    ∙ ap (λ (b : Bool). after (step s b (token_of n l)) (λ x. lines_read x (n + 1) (lines_of rest))) (same_end (n + 1) ls)
    ∙ after_same (step s (no_token (tokens_of (n + 1) ls)) (token_of n l)) (λ x. lines_read x (n + 1) (lines_of rest)) (λ x. tokens_read x (tokens_of (n + 1) ls)) (λ x. unparse (n + 1) ls x all.1)

-- what is known of tokens that are read

first_step : (s s' : State) (t : Token Heading) (ts : List (Token Heading)) → tokens_read s (t ∷ ts) ≡ Ok s' → (x : State) × (step s (no_token ts) t ≡ Ok x) × (tokens_read x ts ≡ Ok s')
first_step s s' t ts e = go (step s (no_token ts) t) refl e
  where
    go : (r : Result State FormFault) → step s (no_token ts) t ≡ r → after r (λ x. tokens_read x ts) ≡ Ok s' → (x : State) × (step s (no_token ts) t ≡ Ok x) × (tokens_read x ts ≡ Ok s')
    go (Ok x) f g = (x, f, g)
    go (Err x) f g = absurd (cc)

right_all : (ts : List (Token Heading)) (s s' : State) → tokens_read s ts ≡ Ok s' → s'.at.wrong ≡ None → s.at.wrong ≡ None
right_all [] s s' e right = let same : s ≡ s' = cc in ap (λ (x : State). x.at.wrong) same ∙ right
right_all (t ∷ ts) s s' e right =
    let x = first_step s s' t ts e in
    let y = taken s (no_token ts) t x.0 x.1 in
    right_before t s (ap (λ (z : State). z.at.wrong) y.1 ∙ right_all ts x.0 s' x.2 right)

pub stand : (ts : List (Token Heading)) (s s' : State) (ls : List Line) → tokens_read s ts ≡ Ok s' → s'.at.wrong ≡ None → AllByRecursion Proper (map as_line ts) → At s.entries s.at.open_forms s.at.forms ls → At s'.entries s'.at.open_forms s'.at.forms (ls ++ map as_line ts)
stand [] s s' ls e right proper a =
    let same : s ≡ s' = cc in
    subst (At s'.entries s'.at.open_forms s'.at.forms) (sym (append-nil ls)) (subst (λ (x : State). At x.entries x.at.open_forms x.at.forms ls) same a)
stand (t ∷ ts) s s' ls e right proper a =
    let x = first_step s s' t ts e in
    let y = taken s (no_token ts) t x.0 x.1 in
    let now_right = ap (λ (z : State). z.at.wrong) y.1 ∙ right_all ts x.0 s' x.2 right in
    let next = step_at s (no_token ts) t ls y.0 now_right proper.0 a in
    subst (At s'.entries s'.at.open_forms s'.at.forms) (append_assoc ls (as_line t ∷ []) (map as_line ts))
    (stand ts x.0 s' (ls ++ as_line t ∷ []) x.2 right proper.1 (subst (λ (z : State). At z.entries z.at.open_forms z.at.forms (ls ++ as_line t ∷ [])) y.1 next))

close_open : (fs : List Frame) (s : State) → s.at.open_forms ≡ fs → length (close_innermost fs s).at.open_forms ≡ pred (length fs)
close_open [] s e = ap length e
close_open (f ∷ fs) s e = length_innermost (with_part (length s.entries)) fs

-- no form is deeper than the limit
within : (s : State) (last : Bool) (t : Token Heading) (ls : List Line) → Allowed s last t → deepest (length (after_line t s).at.open_forms) ls ≤ max_depth → deepest (length s.at.open_forms) (as_line t ∷ ls) ≤ max_depth
within s last (Opening h n) ls a d =
    let below = room_below (length s.at.open_forms) s.at.forms a.roomy in
    let deep : deepest (suc (length s.at.open_forms)) ls ≤ max_depth = subst (λ (i : ℕ). deepest i ls ≤ max_depth) (ap suc (length_innermost with_begun s.at.open_forms)) d in
    omega (arith, below.0)
within s last (Leaf h n) ls a d =
    let below = room_below (length s.at.open_forms) s.at.forms a.roomy in
    let deep : deepest (length s.at.open_forms) ls ≤ max_depth = subst (λ (i : ℕ). deepest i ls ≤ max_depth) (length_innermost (with_part (length s.entries)) (innermost with_begun s.at.open_forms) ∙ length_innermost with_begun s.at.open_forms) d in
    omega (arith, below.0)
within s last (Closing n) ls a d = subst (λ (i : ℕ). deepest i ls ≤ max_depth) (close_open s.at.open_forms s refl) d

pub shallow : (ts : List (Token Heading)) (s s' : State) → tokens_read s ts ≡ Ok s' → deepest (length s.at.open_forms) (map as_line ts) ≤ max_depth
shallow [] s s' e = omega arith
shallow (t ∷ ts) s s' e =
    let x = first_step s s' t ts e in
    let y = taken s (no_token ts) t x.0 x.1 in
    within s (no_token ts) t (map as_line ts) y.0 (subst (λ (z : State). deepest (length z.at.open_forms) (map as_line ts) ≤ max_depth) (sym y.1) (shallow ts x.0 s' x.2))

-- every form is counted
count_line : (t : Token Heading) (s : State) (ls : List Line) → (after_line t s).at.forms + forms_in ls ≡ s.at.forms + forms_in (as_line t ∷ ls)
count_line (Opening h n) s ls = omega arith
count_line (Leaf h n) s ls = omega arith
count_line (Closing n) s ls = go s.at.open_forms
  where
    go : (fs : List Frame) → (close_innermost fs s).at.forms + forms_in ls ≡ s.at.forms + forms_in ls
    go [] = refl
    go (f ∷ fs) = refl

pub counts : (ts : List (Token Heading)) (s s' : State) → tokens_read s ts ≡ Ok s' → s'.at.forms ≡ s.at.forms + forms_in (map as_line ts)
counts [] s s' e = let same : s ≡ s' = cc in omega (arith, ap (λ (x : State). x.at.forms) same)
counts (t ∷ ts) s s' e =
    let x = first_step s s' t ts e in
    let y = taken s (no_token ts) t x.0 x.1 in
    omega (arith, counts ts x.0 s' x.2, ap (λ (z : State). z.at.forms) y.1, count_line t s (map as_line ts))

pub balanced : (ts : List (Token Heading)) (s s' : State) → tokens_read s ts ≡ Ok s' → Balanced s → Balanced s'
balanced [] s s' e b = let same : s ≡ s' = cc in subst Balanced same b
balanced (t ∷ ts) s s' e b = let x = first_step s s' t ts e in balanced ts x.0 s' x.2 (step_balanced s (no_token ts) t x.0 x.1 b)

-- behind the last line no form is open
last_shut : (s : State) (t : Token Heading) → Allowed s true t → length (after_line t s).at.open_forms ≡ 0
last_shut s (Opening h n) a = absurd (true≢false a.shut)
last_shut s (Leaf h n) a =
    omega (arith, ltb-false 0 (length s.at.open_forms) a.shut, length_innermost (with_part (length s.entries)) (innermost with_begun s.at.open_forms), length_innermost with_begun s.at.open_forms)
last_shut s (Closing n) a = omega (arith, ltb-false 1 (length s.at.open_forms) a.shut, close_open s.at.open_forms s refl)

pub all_shut : (t : Token Heading) (ts : List (Token Heading)) (s s' : State) → tokens_read s (t ∷ ts) ≡ Ok s' → length s'.at.open_forms ≡ 0
all_shut t [] s s' e =
    let x = first_step s s' t [] e in
    let y = taken s true t x.0 x.1 in
    let same : x.0 ≡ s' = cc x.2 in
    ap (λ (z : State). length z.at.open_forms) (sym same) ∙ ap (λ (z : State). length z.at.open_forms) (sym y.1) ∙ last_shut s t y.0
all_shut t (u ∷ ts) s s' e = let x = first_step s s' t (u ∷ ts) e in all_shut u ts x.0 s' x.2
