-- A line that is read is the written form of what it says.
use Rattle.std.proofs.Common.{◌≡◌, ℕ, ◌+◌, ◌≤◌, Bool, true, false, cond, eqb, leb, ◌⊎◌, List, [], ◌∷◌, ◌++◌, map, length, take, drop, ℤ, pos, nat_abs, IfOk, Some, None, Ok, Err, codes, Option, Result, sym, refl, ap, ◌∙◌, subst, ap₂, inl, inr, append_assoc, add-one, arith}
use mathlib.Core.List.{tail-eq_of_cons-eq}
use Rattle.std.proofs.lemmas.List.{take-append-drop}
use Rattle.std.proofs.lemmas.Option.{some_pair_parts}
use Rattle.std.proofs.lemmas.Result.{IfOk-at_ok}
use Rattle.std.proofs.lemmas.Bool.{cond_both, eqb-true, leb-true}
use Rattle.std.specs.List.{onto_first, prefix_len, flat_map, AllByRecursion}
use Rattle.std.specs.Fmt.{signed_decimal}
use Rattle.trees.proofs.Spelling.{each_word, names}
use Rattle.trees.specs.declared.words.Word.{Word}
use Rattle.trees.specs.Size.{literal_bound}
use Rattle.trees.specs.Words.{entry, word_spelled}
use Rattle.trees.specs.Written.{line_bytes}
use Rattle.lines.proofs.Spelled.{spelled_tells}
use Rattle.lines.specs.declared.fault.LineFault.{LineFault}
use Rattle.lines.specs.declared.fault.LineFault.TheVariants.{NotAHeading}
use Rattle.lines.specs.declared.heading.Heading.{Heading}
use Rattle.lines.specs.declared.token.Token.{Token}
use Rattle.lines.specs.declared.token.Token.TheVariants.{Opening, Leaf, Closing}
use Rattle.lines.specs.Heading.{pieces_in, paired, numbers_read, numbered, with_numbers, heading_read}
use Rattle.lines.specs.Line.{after, token_heading, line_read, numbers_in, as_line, Counted, Proper}
use Rattle.lines.specs.Number.{number_spelled}
use Rattle.lines.specs.Split.{letter, fields, filled_run, one_more, pieces_run, Spelling, Found, leaf_ended, ended, with_pieces, with_word, form_token, closed, token_at, or_no_line}

-- the pieces begin with a space, or there are none
abbrev Spaced : List ℕ → Type 0
Spaced ps = (ps ≡ []) ⊎ ((cs : List ℕ) × (ps ≡ 32 ∷ cs))

-- what a token says of the bytes
abbrev Stands : List ℕ → Token Spelling → List ℕ → Type 0
Stands bs (Opening s n) rest = (bs ≡ 40 ∷ (s.word ++ (s.pieces ++ 10 ∷ rest))) × Spaced s.pieces
Stands bs (Leaf s n) rest = (bs ≡ 40 ∷ (s.word ++ (s.pieces ++ 41 ∷ 10 ∷ rest))) × Spaced s.pieces
Stands bs (Closing n) rest = bs ≡ 41 ∷ 10 ∷ rest

abbrev Holds : List ℕ → Found → Type 0
Holds bs None = Unit {0}
Holds bs (Some x) = Stands bs x.0 x.1

spaced_front : (bs : List ℕ) (k : ℕ) → pieces_run bs ≡ Some k → Spaced (take k bs)
spaced_front [] k e = let z : 0 ≡ k = cc in subst (λ j. Spaced (take j [])) z (inl refl)
spaced_front (c ∷ cs) k e = go (eqb c 32) refl (filled_run cs) e
  where
    go : (t : Bool) → eqb c 32 ≡ t → (o : Option ℕ) → cond t (one_more o) (Some 0) ≡ Some k → Spaced (take k (c ∷ cs))
    go true t None f = absurd (cc)
    go true t (Some m) f =
        let z : m + 1 ≡ k = cc in
        inr (take m cs, ap (λ j. take j (c ∷ cs)) (sym z ∙ add-one m) ∙ ap (λ x. x ∷ take m cs) (eqb-true c 32 t))
    go false t o f = let z : 0 ≡ k = cc in subst (λ j. Spaced (take j (c ∷ cs))) z (inl refl)

module _ (n : ℕ) (bs : List ℕ) where
  leaf_holds : (s : Spelling) (e : List ℕ) → bs ≡ 40 ∷ (s.word ++ (s.pieces ++ 41 ∷ e)) → Spaced s.pieces → Holds bs (leaf_ended n s e)
  leaf_holds s [] h sp = tt
  leaf_holds s (c ∷ cs) h sp =
      cond_both (eqb c 10) (Some (Leaf s n, cs)) None (Holds bs) (λ e. (h ∙ ap (λ x. 40 ∷ (s.word ++ (s.pieces ++ 41 ∷ x ∷ cs))) (eqb-true c 10 e), sp)) (λ e. tt)

  end_holds : (s : Spelling) (e : List ℕ) → bs ≡ 40 ∷ (s.word ++ (s.pieces ++ e)) → Spaced s.pieces → Holds bs (ended n s e)
  end_holds s [] h sp = tt
  end_holds s (c ∷ cs) h sp =
      cond_both (eqb c 10) (Some (Opening s n, cs)) (cond (eqb c 41) (leaf_ended n s cs) None) (Holds bs)
      (λ e. (h ∙ ap (λ x. 40 ∷ (s.word ++ (s.pieces ++ x ∷ cs))) (eqb-true c 10 e), sp))
      (λ e. cond_both (eqb c 41) (leaf_ended n s cs) None (Holds bs) (λ f. leaf_holds s cs (h ∙ ap (λ x. 40 ∷ (s.word ++ (s.pieces ++ x ∷ cs))) (eqb-true c 41 f)) sp) (λ f. tt))

  pieces_hold : (w u : List ℕ) (o : Option ℕ) → pieces_run u ≡ o → bs ≡ 40 ∷ (w ++ u) → Holds bs (with_pieces n w u o)
  pieces_hold w u None e h = tt
  pieces_hold w u (Some k) e h = end_holds (record { word = w; pieces = take k u }) (drop k u) (h ∙ ap (λ (x : List ℕ). 40 ∷ (w ++ x)) (sym (take-append-drop k u))) (spaced_front u k e)

  word_holds : (w u : List ℕ) → bs ≡ 40 ∷ (w ++ u) → Holds bs (with_word n w u)
  word_holds [] u h = tt
  word_holds (c ∷ w) u h = pieces_hold (c ∷ w) u (pieces_run u) refl h

  closed_holds : (e : List ℕ) → bs ≡ 41 ∷ e → Holds bs (closed n e)
  closed_holds [] h = tt
  closed_holds (c ∷ cs) h = cond_both (eqb c 10) (Some (Closing n, cs)) None (Holds bs) (λ e. h ∙ ap (λ x. 41 ∷ x ∷ cs) (eqb-true c 10 e)) (λ e. tt)

token_holds : (n : ℕ) (bs : List ℕ) → Holds bs (token_at n bs)
token_holds n [] = tt
token_holds n (c ∷ cs) =
    cond_both (eqb c 41) (closed n cs) (cond (eqb c 40) (form_token n cs) None) (Holds (c ∷ cs))
    (λ e. closed_holds n (c ∷ cs) cs (ap (λ x. x ∷ cs) (eqb-true c 41 e)))
    (λ e. cond_both (eqb c 40) (form_token n cs) None (Holds (c ∷ cs)) (λ f. word_holds n (c ∷ cs) (take (prefix_len letter cs) cs) (drop (prefix_len letter cs) cs) (ap₂ (λ (x : ℕ) (xs : List ℕ). x ∷ xs) (eqb-true c 40 f) (sym (take-append-drop (prefix_len letter cs) cs)))) (λ f. tt))

-- what a heading says of its spelling
record Headed (s : Spelling) (h : Heading) : Type 0 where
  word : word_spelled s.word ≡ Some h.word
  count : length (pieces_in s.pieces) ≡ (entry h.word).numbers
  values : numbers_read (pieces_in s.pieces) ≡ Some (h.first, h.second)

headed : (n : ℕ) (s : Spelling) → IfOk (heading_read n s) (Headed s)
headed n s = go (word_spelled s.word) refl
  where
    values : (w : Word) (o : Option (ℤ × ℤ)) → word_spelled s.word ≡ Some w → length (pieces_in s.pieces) ≡ (entry w).numbers → numbers_read (pieces_in s.pieces) ≡ o → IfOk (numbered n w o) (Headed s)
    values w None e f g = tt
    values w (Some x) e f g = record { word = e; count = f; values = g }

    go : (o : Option Word) → word_spelled s.word ≡ o → IfOk (with_numbers n o (pieces_in s.pieces)) (Headed s)
    go None e = tt
    go (Some w) e =
        cond_both (eqb (length (pieces_in s.pieces)) (entry w).numbers) (numbered n w (numbers_read (pieces_in s.pieces))) (Err (NotAHeading n)) (λ (r : Result Heading LineFault). IfOk r (Headed s))
        (λ f. values w (numbers_read (pieces_in s.pieces)) e (eqb-true (length (pieces_in s.pieces)) (entry w).numbers f) refl) (λ f. tt)

pub two_numbers : (w : Word) → (entry w).numbers ≤ 2
two_numbers w = leb-true (entry w).numbers 2 (each_word (λ v. leb (entry v).numbers 2) refl w)

both : (o p : Option ℤ) (x y : ℤ) → paired o p ≡ Some (x, y) → (o ≡ Some x) × (p ≡ Some y)
both None p x y e = absurd (cc)
both (Some a) None x y e = absurd (cc)
both (Some a) (Some b) x y e =
    let (f, g) = some_pair_parts a x b y e in
    (ap (λ z. Some z) f, ap (λ z. Some z) g)

-- pieces that are read as numbers are these numbers in decimal
pieces_tell : (ps : List (List ℕ)) (x y : ℤ) → length ps ≤ 2 → numbers_read ps ≡ Some (x, y) → (ps ≡ map signed_decimal (take (length ps) (x ∷ y ∷ []))) × ((length (take (length ps) (x ∷ y ∷ [])) ≡ length ps) × AllByRecursion (λ z. nat_abs z ≤ literal_bound) (take (length ps) (x ∷ y ∷ [])))
pieces_tell [] x y h e = (refl, (refl, tt))
pieces_tell (p ∷ []) x y h e =
    let a = spelled_tells p x (both (number_spelled p) (Some (pos 0)) x y e).0 in
    (ap (λ (q : List ℕ). q ∷ []) a.0, (refl, (a.1, tt)))
pieces_tell (p ∷ q ∷ []) x y h e =
    let (f, g) = both (number_spelled p) (number_spelled q) x y e in
    let a = spelled_tells p x f in
    let b = spelled_tells q y g in
    (ap₂ (λ (r s : List ℕ). r ∷ s ∷ []) a.0 b.0, (refl, (a.1, (b.1, tt))))
pieces_tell (p ∷ q ∷ r ∷ ps) x y h e = absurd (omega arith)

rejoin : (cs : List ℕ) → flat_map (λ (f : List ℕ). 32 ∷ f) (fields cs) ≡ 32 ∷ cs
rejoin [] = refl
rejoin (c ∷ cs) = go (eqb c 32) refl (fields cs) (rejoin cs)
  where
    go : (t : Bool) → eqb c 32 ≡ t → (fs : List (List ℕ)) → flat_map (λ (f : List ℕ). 32 ∷ f) fs ≡ 32 ∷ cs → flat_map (λ (f : List ℕ). 32 ∷ f) (cond t ([] ∷ fs) (onto_first c fs)) ≡ 32 ∷ c ∷ cs
    go true e fs ih = ap (λ (xs : List ℕ). 32 ∷ xs) ih ∙ ap (λ x. 32 ∷ x ∷ cs) (sym (eqb-true c 32 e))
    go false e [] ih = absurd (cc)
    go false e (f ∷ fs) ih = ap (λ (xs : List ℕ). 32 ∷ c ∷ xs) (tail-eq_of_cons-eq ih)

rejoined : (ps : List ℕ) → Spaced ps → flat_map (λ (f : List ℕ). 32 ∷ f) (pieces_in ps) ≡ ps
rejoined ps (inl e) = ap (λ (xs : List ℕ). flat_map (λ (f : List ℕ). 32 ∷ f) (pieces_in xs)) e ∙ sym e
rejoined ps (inr x) = ap (λ (xs : List ℕ). flat_map (λ (f : List ℕ). 32 ∷ f) (pieces_in xs)) x.1 ∙ rejoin x.0 ∙ sym x.1

-- numbers, each behind a space
abbrev pub spaced : List ℤ → List ℕ
spaced ns = flat_map (λ z. codes " " ++ signed_decimal z) ns

joined_signed : (ns : List ℤ) → flat_map (λ (f : List ℕ). 32 ∷ f) (map signed_decimal ns) ≡ spaced ns
joined_signed [] = refl
joined_signed (x ∷ ns) = ap (λ (xs : List ℕ). 32 ∷ (signed_decimal x ++ xs)) (joined_signed ns)

record WrittenHeading (s : Spelling) (h : Heading) : Type 0 where
  word : s.word ≡ (entry h.word).spelling
  pieces : s.pieces ≡ spaced (numbers_in h)
  counted : Counted h.word (numbers_in h)

written_heading : (s : Spelling) (h : Heading) → Spaced s.pieces → Headed s h → WrittenHeading s h
written_heading s h sp e =
    let ps = pieces_in s.pieces in
    let tell = pieces_tell ps h.first h.second (omega (arith, e.count, two_numbers h.word)) e.values in
    let taken : take (length ps) (h.first ∷ h.second ∷ []) ≡ numbers_in h = ap (λ i. take i (h.first ∷ h.second ∷ [])) e.count in
    record {
      word = (names s.word h.word).0 e.word;
      pieces = sym (rejoined s.pieces sp) ∙ ap (flat_map (λ (f : List ℕ). 32 ∷ f)) (tell.0 ∙ ap (map signed_decimal) taken) ∙ joined_signed (numbers_in h);
      counted = (ap length (sym taken) ∙ tell.1.0 ∙ e.count, subst (AllByRecursion (λ z. nat_abs z ≤ literal_bound)) taken tell.1.1);
    }

abbrev WrittenLine : List ℕ → Token Heading → List ℕ → Type 0
WrittenLine bs t rest = (bs ≡ line_bytes (as_line t) ++ rest) × Proper (as_line t)

-- the parts of a form's line in their place, in the order in which they are read
pub line_up : (w p e rest : List ℕ) → 40 ∷ (w ++ (p ++ (e ++ rest))) ≡ (codes "(" ++ ((w ++ p) ++ e)) ++ rest
line_up w p e rest = ap (λ (xs : List ℕ). 40 ∷ xs) (sym (append_assoc (w ++ p) e rest ∙ append_assoc w p (e ++ rest)))

token_written : (bs rest : List ℕ) (t : Token Spelling) → Stands bs t rest → IfOk (token_heading t) (λ u. WrittenLine bs u rest)
token_written bs rest (Opening s n) st = go (heading_read n s) (headed n s)
  where
    go : (r : Result Heading LineFault) → IfOk r (Headed s) → IfOk (after r (λ h. Ok (Opening h n))) (λ u. WrittenLine bs u rest)
    go (Err e) h = tt
    go (Ok h) e =
        let x = written_heading s h st.1 e in
        (st.0 ∙ ap₂ (λ (a b : List ℕ). 40 ∷ (a ++ (b ++ 10 ∷ rest))) x.word x.pieces ∙ line_up (entry h.word).spelling (spaced (numbers_in h)) (10 ∷ []) rest, x.counted)
token_written bs rest (Leaf s n) st = go (heading_read n s) (headed n s)
  where
    go : (r : Result Heading LineFault) → IfOk r (Headed s) → IfOk (after r (λ h. Ok (Leaf h n))) (λ u. WrittenLine bs u rest)
    go (Err e) h = tt
    go (Ok h) e =
        let x = written_heading s h st.1 e in
        (st.0 ∙ ap₂ (λ (a b : List ℕ). 40 ∷ (a ++ (b ++ 41 ∷ 10 ∷ rest))) x.word x.pieces ∙ line_up (entry h.word).spelling (spaced (numbers_in h)) (41 ∷ 10 ∷ []) rest, x.counted)
token_written bs rest (Closing n) st = (st, tt)

line_written : (n : ℕ) (bs : List ℕ) → IfOk (line_read n bs) (λ x. WrittenLine bs x.0 x.1)
line_written n bs = go (token_at n bs) (token_holds n bs)
  where
    then : (rest : List ℕ) (r : Result (Token Heading) LineFault) → IfOk r (λ u. WrittenLine bs u rest) → IfOk (after {Y = Token Heading × List ℕ} r (λ u. Ok (u, rest))) (λ x. WrittenLine bs x.0 x.1)
    then rest (Ok u) h = h
    then rest (Err e) h = tt

    go : (o : Found) → Holds bs o → IfOk (after (or_no_line n o) (λ x. after {Y = Token Heading × List ℕ} (token_heading x.0) (λ u. Ok (u, x.1)))) (λ x. WrittenLine bs x.0 x.1)
    go None h = tt
    go (Some x) h = then x.1 (token_heading x.0) (token_written bs x.1 x.0 h)

pub written_by : (n : ℕ) (bs : List ℕ) (t : Token Heading) (rest : List ℕ) → line_read n bs ≡ Ok (t, rest) → (bs ≡ line_bytes (as_line t) ++ rest) × Proper (as_line t)
written_by n bs t rest e = IfOk-at_ok (λ (x : Token Heading × List ℕ). WrittenLine bs x.0 x.1) e (line_written n bs)
