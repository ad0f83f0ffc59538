-- The first line of a text says the same whether or not other lines follow it.
use Rattle.std.proofs.Common.{◌≡◌, ℕ, suc, ◌+◌, ◌<◌, Bool, true, false, cond, eqb, ◌⊎◌, List, [], ◌∷◌, ◌++◌, length, take, drop, Some, None, Ok, Err, Option, Result, sym, refl, ap, ◌∙◌, ap₂, inl, inr, arith}
use Rattle.std.proofs.ByRecursion.{All-drop}
use Rattle.std.proofs.lemmas.List.{take-append-le, drop-append-le, length-append}
use Rattle.std.proofs.lemmas.Bool.{cases_eq, cond-true, cond-false, eq-eqb, ne_eqb}
use Rattle.std.specs.List.{AllByRecursion, onto_first, prefix_len}
use Rattle.std.proofs.lemmas.List.Sums.{prefix_len-le-length}
use Rattle.lines.proofs.Splits.{pieces_le}
use Rattle.lines.specs.declared.fault.LineFault.{LineFault}
use Rattle.lines.specs.declared.heading.Heading.{Heading}
use Rattle.lines.specs.declared.token.Token.{Token}
use Rattle.lines.specs.declared.token.Token.TheVariants.{Opening, Leaf, Closing}
use Rattle.lines.specs.Line.{after, token_heading, line_read}
use Rattle.lines.specs.Split.{letter, inner, fields, filled, filled_run, one_more, pieces_run, Spelling, Found, leaf_ended, ended, with_pieces, with_word, form_token, closed, token_at, or_no_line}
use Rattle.reading.specs.declared.fault.FormFault.{FormFault}
use Rattle.reading.specs.declared.fault.FormFault.TheVariants.{Line}
use Rattle.reading.specs.Progress.{State, step}
use Rattle.reading.specs.Text.{lines_of, said, line_said, none, lines_read}

-- no line end
abbrev Inside : ℕ → Type 0
Inside c = c ≡ 10 → ⊥

-- a text is a first line with its end and what follows, or one line without an end
abbrev Cut : List ℕ → Type 0
Cut bs =
    ((m : List ℕ) × (r : List ℕ) × (bs ≡ m ++ 10 ∷ r) × AllByRecursion Inside m × (lines_of bs ≡ (m ++ 10 ∷ []) ∷ lines_of r))
    ⊎ (AllByRecursion Inside bs × (lines_of bs ≡ bs ∷ []))

lines_more : (c : ℕ) (cs : List ℕ) → Inside c → lines_of (c ∷ cs) ≡ onto_first c (lines_of cs)
lines_more c cs ne = cond-false (eqb c 10) ((10 ∷ []) ∷ lines_of cs) (onto_first c (lines_of cs)) (ne_eqb c 10 ne)

grow : (c : ℕ) (cs : List ℕ) → Inside c → Cut cs → Cut (c ∷ cs)
grow c cs ne (inl x) = inl (c ∷ x.0, x.1, ap (λ (ys : List ℕ). c ∷ ys) x.2, (ne, x.3), lines_more c cs ne ∙ ap (onto_first c) x.4)
grow c cs ne (inr x) = inr ((ne, x.0), lines_more c cs ne ∙ ap (onto_first c) x.1)

ends : (c : ℕ) (cs : List ℕ) → c ≡ 10 → Cut (c ∷ cs)
ends c cs e = inl ([], cs, ap (λ x. x ∷ cs) e, tt, cond-true (eqb c 10) ((10 ∷ []) ∷ lines_of cs) (onto_first c (lines_of cs)) (eq-eqb c 10 e))

cut : (c : ℕ) (cs : List ℕ) → Cut (c ∷ cs)
cut c [] = elim (cases_eq c 10) [ inl e ↦ ends c [] e | inr ne ↦ inr ((ne, tt), lines_more c [] ne) ]
cut c (d ∷ ds) = elim (cases_eq c 10) [ inl e ↦ ends c (d ∷ ds) e | inr ne ↦ grow c (d ∷ ds) ne (cut d ds) ]

-- a run that stops at a line end does not look behind it
run_inside : (test : ℕ → Bool) → test 10 ≡ false → (m r : List ℕ) → prefix_len test (m ++ 10 ∷ r) ≡ prefix_len test m
run_inside test e [] r = cond-false (test 10) (1 + prefix_len test r) 0 e
run_inside test e (c ∷ m) r = ap (λ n. cond (test c) (1 + n) 0) (run_inside test e m r)

filled_inside : (m r : List ℕ) → filled_run (m ++ 10 ∷ r) ≡ filled_run m
filled_inside m r =
    let same = run_inside inner refl m r in
    ap₂ (λ (xs : List ℕ) (n : ℕ). cond (filled (fields xs)) (Some n) None) (ap (λ n. take n (m ++ 10 ∷ r)) same ∙ take-append-le (prefix_len inner m) m (10 ∷ r) (prefix_len-le-length inner m)) same

pieces_inside : (m r : List ℕ) → pieces_run (m ++ 10 ∷ r) ≡ pieces_run m
pieces_inside [] r = refl
pieces_inside (c ∷ m) r = ap (λ (o : Option ℕ). cond (eqb c 32) (one_more o) (Some 0)) (filled_inside m r)

-- the token of a line, from its bytes before the line end
abbrev leaf_in : ℕ → Spelling → List ℕ → Option (Token Spelling)
leaf_in n s [] = Some (Leaf s n)
leaf_in n s (c ∷ v) = None

abbrev end_in : ℕ → Spelling → List ℕ → Option (Token Spelling)
end_in n s [] = Some (Opening s n)
end_in n s (c ∷ v) = cond (eqb c 41) (leaf_in n s v) None

abbrev pieces_token : ℕ → List ℕ → List ℕ → Option ℕ → Option (Token Spelling)
pieces_token n w u None = None
pieces_token n w u (Some k) = end_in n (record { word = w; pieces = take k u }) (drop k u)

abbrev word_token : ℕ → List ℕ → List ℕ → Option (Token Spelling)
word_token n [] u = None
word_token n (c ∷ w) u = pieces_token n (c ∷ w) u (pieces_run u)

abbrev closed_in : ℕ → List ℕ → Option (Token Spelling)
closed_in n [] = Some (Closing n)
closed_in n (c ∷ m) = None

abbrev token_in : ℕ → List ℕ → Option (Token Spelling)
token_in n [] = None
token_in n (c ∷ m) = cond (eqb c 41) (closed_in n m) (cond (eqb c 40) (word_token n (take (prefix_len letter m) m) (drop (prefix_len letter m) m)) None)

abbrev with_rest : List ℕ → Option (Token Spelling) → Found
with_rest r None = None
with_rest r (Some t) = Some (t, r)

choose : (t : Bool) (r : List ℕ) (x y : Found) (o p : Option (Token Spelling)) → x ≡ with_rest r o → y ≡ with_rest r p → cond t x y ≡ with_rest r (cond t o p)
choose true r x y o p e f = e
choose false r x y o p e f = f

module _ (n : ℕ) (r : List ℕ) where
  leaf_same : (s : Spelling) (v : List ℕ) → AllByRecursion Inside v → leaf_ended n s (v ++ 10 ∷ r) ≡ with_rest r (leaf_in n s v)
  leaf_same s [] all = refl
  leaf_same s (c ∷ v) all = cond-false (eqb c 10) (Some (Leaf s n, v ++ 10 ∷ r)) None (ne_eqb c 10 all.0)

  end_same : (s : Spelling) (v : List ℕ) → AllByRecursion Inside v → ended n s (v ++ 10 ∷ r) ≡ with_rest r (end_in n s v)
  end_same s [] all = refl
  end_same s (c ∷ v) all =
      cond-false (eqb c 10) (Some (Opening s n, v ++ 10 ∷ r)) (cond (eqb c 41) (leaf_ended n s (v ++ 10 ∷ r)) None) (ne_eqb c 10 all.0)
      ∙ choose (eqb c 41) r (leaf_ended n s (v ++ 10 ∷ r)) None (leaf_in n s v) None (leaf_same s v all.1) refl

  pieces_same : (w u : List ℕ) (o : Option ℕ) → pieces_run u ≡ o → AllByRecursion Inside u → with_pieces n w (u ++ 10 ∷ r) o ≡ with_rest r (pieces_token n w u o)
  pieces_same w u None e all = refl
  pieces_same w u (Some k) e all =
      let small = pieces_le u k e in
      ap₂ (λ (x y : List ℕ). ended n (record { word = w; pieces = x }) y) (take-append-le k u (10 ∷ r) small) (drop-append-le k u (10 ∷ r) small)
      ∙ end_same (record { word = w; pieces = take k u }) (drop k u) (All-drop Inside k u all)

  word_same : (w u : List ℕ) → AllByRecursion Inside u → with_word n w (u ++ 10 ∷ r) ≡ with_rest r (word_token n w u)
  word_same [] u all = refl
  word_same (c ∷ w) u all = ap (with_pieces n (c ∷ w) (u ++ 10 ∷ r)) (pieces_inside u r) ∙ pieces_same (c ∷ w) u (pieces_run u) refl all

  form_same : (m : List ℕ) → AllByRecursion Inside m → form_token n (m ++ 10 ∷ r) ≡ with_rest r (word_token n (take (prefix_len letter m) m) (drop (prefix_len letter m) m))
  form_same m all =
      let same = run_inside letter refl m r in
      let small = prefix_len-le-length letter m in
      ap₂ (with_word n) (ap (λ i. take i (m ++ 10 ∷ r)) same ∙ take-append-le (prefix_len letter m) m (10 ∷ r) small) (ap (λ i. drop i (m ++ 10 ∷ r)) same ∙ drop-append-le (prefix_len letter m) m (10 ∷ r) small)
      ∙ word_same (take (prefix_len letter m) m) (drop (prefix_len letter m) m) (All-drop Inside (prefix_len letter m) m all)

  closed_same : (m : List ℕ) → AllByRecursion Inside m → closed n (m ++ 10 ∷ r) ≡ with_rest r (closed_in n m)
  closed_same [] all = refl
  closed_same (c ∷ m) all = cond-false (eqb c 10) (Some (Closing n, m ++ 10 ∷ r)) None (ne_eqb c 10 all.0)

  token_same : (m : List ℕ) → AllByRecursion Inside m → token_at n (m ++ 10 ∷ r) ≡ with_rest r (token_in n m)
  token_same [] all = refl
  token_same (c ∷ m) all =
      let form = word_token n (take (prefix_len letter m) m) (drop (prefix_len letter m) m) in
      choose (eqb c 41) r (closed n (m ++ 10 ∷ r)) (cond (eqb c 40) (form_token n (m ++ 10 ∷ r)) None) (closed_in n m) (cond (eqb c 40) form None) (closed_same m all.1)
      (choose (eqb c 40) r (form_token n (m ++ 10 ∷ r)) None form None (form_same m all.1) refl)

-- without a line end there is no token
neither : (t : Bool) (x y : Found) → x ≡ None → y ≡ None → cond t x y ≡ None
neither true x y e f = e
neither false x y e f = f

module _ (n : ℕ) where
  leaf_none : (s : Spelling) (v : List ℕ) → AllByRecursion Inside v → leaf_ended n s v ≡ None
  leaf_none s [] all = refl
  leaf_none s (c ∷ v) all = cond-false (eqb c 10) (Some (Leaf s n, v)) None (ne_eqb c 10 all.0)

  end_none : (s : Spelling) (v : List ℕ) → AllByRecursion Inside v → ended n s v ≡ None
  end_none s [] all = refl
  end_none s (c ∷ v) all =
      cond-false (eqb c 10) (Some (Opening s n, v)) (cond (eqb c 41) (leaf_ended n s v) None) (ne_eqb c 10 all.0) ∙ neither (eqb c 41) (leaf_ended n s v) None (leaf_none s v all.1) refl

  pieces_none : (w u : List ℕ) (o : Option ℕ) → AllByRecursion Inside u → with_pieces n w u o ≡ None
  pieces_none w u None all = refl
  pieces_none w u (Some k) all = end_none (record { word = w; pieces = take k u }) (drop k u) (All-drop Inside k u all)

  word_none : (w u : List ℕ) → AllByRecursion Inside u → with_word n w u ≡ None
  word_none [] u all = refl
  word_none (c ∷ w) u all = pieces_none (c ∷ w) u (pieces_run u) all

  closed_none : (m : List ℕ) → AllByRecursion Inside m → closed n m ≡ None
  closed_none [] all = refl
  closed_none (c ∷ m) all = cond-false (eqb c 10) (Some (Closing n, m)) None (ne_eqb c 10 all.0)

  token_none : (m : List ℕ) → AllByRecursion Inside m → token_at n m ≡ None
  token_none [] all = refl
  token_none (c ∷ m) all =
      neither (eqb c 41) (closed n m) (cond (eqb c 40) (form_token n m) None) (closed_none m all.1) (neither (eqb c 40) (form_token n m) None (word_none (take (prefix_len letter m) m) (drop (prefix_len letter m) m) (All-drop Inside (prefix_len letter m) m all.1)) refl)

abbrev found_read : ℕ → Found → Result (Token Heading × List ℕ) LineFault
found_read n o = after (or_no_line n o) (λ x. after (token_heading x.0) (λ t. Ok (t, x.1)))

-- the same is said, whatever follows, and what follows is left
same_said : (n : ℕ) (r q : List ℕ) (o : Option (Token Spelling)) → said (found_read n (with_rest r o)) ≡ said (found_read n (with_rest q o))
same_said n r q None = refl
same_said n r q (Some t) = go (token_heading t)
  where
    go : (h : Result (Token Heading) LineFault) → said (after h (λ u. Ok (u, r))) ≡ said (after h (λ u. Ok (u, q)))
    go (Ok u) = refl
    go (Err e) = refl

left_over : (n : ℕ) (r : List ℕ) (o : Option (Token Spelling)) (t : Token Heading) (more : List ℕ) → found_read n (with_rest r o) ≡ Ok (t, more) → more ≡ r
left_over n r None t more e = absurd (cc)
left_over n r (Some u) t more e = go (token_heading u) e
  where
    go : (h : Result (Token Heading) LineFault) → after {Y = Token Heading × List ℕ} h (λ v. Ok (v, r)) ≡ Ok (t, more) → more ≡ r
    go (Ok v) f = let pair : ◌≡◌ {A = Token Heading × List ℕ} (t, more) (v, r) = cc in ap (λ x. x.1) pair
    go (Err x) f = absurd (cc)

-- the first line by itself says what the text says first, and what is left are the other lines
pub record First (n : ℕ) (bs : List ℕ) : Type 0 where
  pub line : List ℕ
  pub others : List (List ℕ)
  pub cut_off : lines_of bs ≡ line ∷ others
  pub same : said (line_read n bs) ≡ line_said n line
  pub left : (t : Token Heading) (more : List ℕ) → line_read n bs ≡ Ok (t, more) → (others ≡ lines_of more) × (length more < length bs)

first_of_cut : (n : ℕ) (bs : List ℕ) → Cut bs → First n bs
first_of_cut n bs (inl x) =
    let m = x.0 in
    let r = x.1 in
    let here : token_at n bs ≡ with_rest r (token_in n m) = ap (token_at n) x.2 ∙ token_same n r m x.3 in
    let alone : token_at n (m ++ 10 ∷ []) ≡ with_rest [] (token_in n m) = token_same n [] m x.3 in
    record {
      line = m ++ 10 ∷ [];
      others = lines_of r;
      cut_off = x.4;
      same = ap (λ (o : Found). said (found_read n o)) here ∙ same_said n r [] (token_in n m) ∙ sym (ap (λ (o : Found). said (found_read n o)) alone);
      left = λ t more e.
          let over = left_over n r (token_in n m) t more (sym (ap (found_read n) here) ∙ e) in
          (ap lines_of (sym over), omega (arith, ap length x.2, length-append m (10 ∷ r), ap length over));
    }
first_of_cut n bs (inr x) =
    record {
      line = bs;
      others = [];
      cut_off = x.1;
      same = refl;
      left = λ t more e. absurd (cc (sym (ap (found_read n) (token_none n bs x.0)) ∙ e));
    }

first_line : (n : ℕ) (bs : List ℕ) → 0 < length bs → First n bs
first_line n [] h = absurd (omega arith)
first_line n (c ∷ cs) h = first_of_cut n (c ∷ cs) (cut c cs)

abbrev go_on : State → ℕ → List (List ℕ) → Token Heading → Result State FormFault
go_on s n ls t = after (step s (none ls) t) (λ s'. lines_read s' (n + 1) ls)

lines_first : (s : State) (n : ℕ) (bs : List ℕ) (f : First n bs) → lines_read s n (lines_of bs) ≡ after (said (line_read n bs)) (go_on s n f.others)
lines_first s n bs f = ap (lines_read s n) f.cut_off ∙ ap (λ (r : Result (Token Heading) FormFault). after r (go_on s n f.others)) (sym f.same)

-- one line of the text is read, and the others are left
pub turn : (s : State) (n : ℕ) (bs : List ℕ) (t : Token Heading) (more : List ℕ) → 0 < length bs → line_read n bs ≡ Ok (t, more) → (lines_read s n (lines_of bs) ≡ go_on s n (lines_of more) t) × (length more < length bs)
turn s n bs t more h e =
    let f = first_line n bs h in
    let (others, shorter) = f.left t more e in
    (lines_first s n bs f ∙ ap (λ (r : Result (Token Heading × List ℕ) LineFault). after (said r) (go_on s n f.others)) e ∙ ap (λ (ls : List (List ℕ)). go_on s n ls t) others, shorter)

pub turn_fault : (s : State) (n : ℕ) (bs : List ℕ) (e : LineFault) → 0 < length bs → line_read n bs ≡ Err e → lines_read s n (lines_of bs) ≡ Err (Line e)
turn_fault s n bs e h r =
    let f = first_line n bs h in
    lines_first s n bs f ∙ ap (λ (r : Result (Token Heading × List ℕ) LineFault). after (said r) (go_on s n f.others)) r

pub no_lines : (bs : List ℕ) → none (lines_of bs) ≡ eqb (length bs) 0
no_lines [] = refl
no_lines (c ∷ cs) = go (eqb c 10) (lines_of cs) ∙ sym (ne_eqb (suc (length cs)) 0 (λ e. omega arith))
  where
    go : (t : Bool) (ls : List (List ℕ)) → none (cond t ((10 ∷ []) ∷ ls) (onto_first c ls)) ≡ false
    go true ls = refl
    go false [] = refl
    go false (l ∷ ls) = refl
