-- A line in its written form is read.
use Rattle.std.proofs.Common.{◌≡◌, ℕ, suc, ◌+◌, ◌%◌, ◌^◌, ◌<◌, ◌≤◌, Bool, true, false, not, eqb, leb, List, [], ◌∷◌, ◌++◌, map, length, get_or, take, ℤ, pos, negsuc, nat_abs, Some, None, Ok, Err, decimal, Option, Result, sym, refl, ap, ◌∙◌, subst, ap₂, append-nil, add-one, one-add, arith}
use Rattle.std.proofs.lemmas.Fmt.{decimal_by_steps, decimal_nonempty}
use Rattle.std.proofs.ByRecursion.{All-append, All-push, All-weaker}
use Rattle.std.proofs.lemmas.List.{take_at, drop_at, length-map}
use Rattle.std.proofs.lemmas.Bool.Decides.{nat_tests}
use Rattle.std.proofs.lemmas.Bool.{cond-true, cond-false, eq-eqb, ne_eqb, leb-true, and_from}
use Rattle.std.specs.List.{onto_first, prefix_len, AllByRecursion}
use Rattle.std.specs.Int.{IsInRange}
use Rattle.std.specs.Fmt.{signed_decimal}
use Rattle.trees.proofs.Spelling.{each_word, found, letters}
use Rattle.trees.specs.declared.words.Word.{Word}
use Rattle.trees.specs.Size.{literal_bound}
use Rattle.trees.specs.Words.{entry}
use Rattle.trees.specs.Written.{Line, line_bytes}
use Rattle.trees.specs.Written.Line.{opening, leaf, closing}
use Rattle.lines.proofs.Spelled.{spelled_of}
use Rattle.lines.proofs.Told.{spaced, line_up, two_numbers, written_by}
use Rattle.lines.specs.declared.fault.LineFault.{LineFault}
use Rattle.lines.specs.declared.fault.LineFault.TheVariants.{NotAHeading}
use Rattle.lines.specs.declared.heading.Heading.{Heading}
use Rattle.lines.specs.declared.token.Token.{Token}
use Rattle.lines.specs.declared.token.Token.TheVariants.{Opening, Leaf, Closing}
use Rattle.lines.specs.Heading.{pieces_in, paired, numbers_read, numbered, with_numbers, heading_read}
use Rattle.lines.specs.Line.{after, token_heading, line_read, numbers_in, as_line, Counted, Proper, told_line, Tells}
use Rattle.lines.specs.Split.{letter, inner, fields, filled, one_more, pieces_run, Found, ended, with_pieces, with_word, form_token, or_no_line}

-- a run ends where the test fails
abbrev Fails : (ℕ → Bool) → List ℕ → Type 0
Fails test [] = Unit {0}
Fails test (c ∷ cs) = test c ≡ false

run_at : (test : ℕ → Bool) (xs ys : List ℕ) → AllByRecursion (λ c. test c ≡ true) xs → Fails test ys → prefix_len test (xs ++ ys) ≡ length xs
run_at test [] [] all f = refl
run_at test [] (y ∷ ys) all f = cond-false (test y) (1 + (prefix_len test ys)) 0 f
run_at test (x ∷ xs) ys all f = cond-true (test x) (1 + (prefix_len test (xs ++ ys))) 0 all.0 ∙ ap (λ n. 1 + n) (run_at test xs ys all.1 f) ∙ one-add (length xs)

-- digits and the minus
abbrev Figure : ℕ → Type 0
Figure c = IsInRange 45 57 c

figures_decimal : (n : ℕ) → n < 2 ^ 64 → AllByRecursion Figure (decimal n)
figures_decimal = decimal_by_steps (λ m ds. AllByRecursion Figure ds) (λ m l. ((omega arith, omega arith), tt)) (λ m ds l h. All-push Figure ds (48 + m % 10) h (omega arith, omega arith))

figures : (z : ℤ) → nat_abs z ≤ literal_bound → AllByRecursion Figure (signed_decimal z)
figures (pos n) h = figures_decimal n (omega arith)
figures (negsuc n) h = ((omega arith, omega arith), figures_decimal (suc n) (omega arith))

signed_some : (z : ℤ) → nat_abs z ≤ literal_bound → 0 < length (signed_decimal z)
signed_some (pos n) h = decimal_nonempty n (omega arith)
signed_some (negsuc n) h = omega arith

-- no space in it
abbrev Plain : ℕ → Type 0
Plain c = eqb c 32 ≡ false

plain_figure : (c : ℕ) → Figure c → Plain c
plain_figure c f = grind (arith, nat_tests, f.0)

fields_plain : (p : List ℕ) → AllByRecursion Plain p → fields p ≡ p ∷ []
fields_plain [] all = refl
fields_plain (c ∷ p) all = cond-false (eqb c 32) ([] ∷ fields p) (onto_first c (fields p)) all.0 ∙ ap (onto_first c) (fields_plain p all.1)

fields_next : (p u : List ℕ) → AllByRecursion Plain p → fields (p ++ 32 ∷ u) ≡ p ∷ fields u
fields_next [] u all = refl
fields_next (c ∷ p) u all = cond-false (eqb c 32) ([] ∷ fields (p ++ 32 ∷ u)) (onto_first c (fields (p ++ 32 ∷ u))) all.0 ∙ ap (onto_first c) (fields_next p u all.1)

abbrev Bounded : List ℤ → Type 0
Bounded ns = AllByRecursion (λ z. nat_abs z ≤ literal_bound) ns

-- the fields of numbers behind spaces are the numbers
fields_spaced : (x : ℤ) (ns : List ℤ) → Bounded (x ∷ ns) → fields (signed_decimal x ++ spaced ns) ≡ signed_decimal x ∷ map signed_decimal ns
fields_spaced x [] b =
    ap fields (append-nil (signed_decimal x)) ∙ fields_plain (signed_decimal x) (All-weaker Figure Plain plain_figure (signed_decimal x) (figures x b.0))
fields_spaced x (y ∷ ns) b =
    fields_next (signed_decimal x) (signed_decimal y ++ spaced ns) (All-weaker Figure Plain plain_figure (signed_decimal x) (figures x b.0)) ∙ ap (λ (fs : List (List ℕ)). signed_decimal x ∷ fs) (fields_spaced y ns b.1)

pieces_spaced : (ns : List ℤ) → Bounded ns → pieces_in (spaced ns) ≡ map signed_decimal ns
pieces_spaced [] b = refl
pieces_spaced (x ∷ ns) b = fields_spaced x ns b

filled_signed : (ns : List ℤ) → Bounded ns → filled (map signed_decimal ns) ≡ true
filled_signed [] b = refl
filled_signed (x ∷ ns) b =
    and_from (not (eqb (length (signed_decimal x)) 0)) (filled (map signed_decimal ns)) (ap not (ne_eqb (length (signed_decimal x)) 0 (λ e. omega (arith, signed_some x b.0)))) (filled_signed ns b.1)

abbrev Inner : ℕ → Type 0
Inner c = inner c ≡ true

inner_figure : (c : ℕ) → Figure c → Inner c
inner_figure c f = grind (arith, nat_tests, f.0)

inner_spaced : (ns : List ℤ) → Bounded ns → AllByRecursion Inner (spaced ns)
inner_spaced [] b = tt
inner_spaced (x ∷ ns) b = (refl, All-append Inner (signed_decimal x) (spaced ns) (All-weaker Figure Inner inner_figure (signed_decimal x) (figures x b.0)) (inner_spaced ns b.1))

-- what ends a line's pieces
abbrev Ending : List ℕ → Type 0
Ending e = Fails inner e × ((pieces_run e ≡ Some 0) × Fails letter e)

run_spaced : (ns : List ℤ) (e : List ℕ) → Bounded ns → Ending e → pieces_run (spaced ns ++ e) ≡ Some (length (spaced ns))
run_spaced [] e b end = end.1.0
run_spaced (x ∷ ns) e b end =
    let q : List ℕ = signed_decimal x ++ spaced ns in
    let count : prefix_len inner (q ++ e) ≡ length q = run_at inner q e (inner_spaced (x ∷ ns) b).1 end.0 in
    let front : take (prefix_len inner (q ++ e)) (q ++ e) ≡ q = take_at q e (prefix_len inner (q ++ e)) (sym count) in
    let full : filled (fields (take (prefix_len inner (q ++ e)) (q ++ e))) ≡ true = ap (λ (xs : List ℕ). filled (fields xs)) front ∙ ap filled (fields_spaced x ns b) ∙ filled_signed (x ∷ ns) b in
    ap one_more (cond-true (filled (fields (take (prefix_len inner (q ++ e)) (q ++ e)))) (Some (prefix_len inner (q ++ e))) None full ∙ ap (λ k. Some k) count) ∙ ap (λ k. Some k) (add-one (length q))

letter_in : (c : ℕ) → IsInRange 97 122 c → letter c ≡ true
letter_in c i = grind (arith, nat_tests, i.0, i.1)

spaced_fails : (ns : List ℤ) (e : List ℕ) → Fails letter e → Fails letter (spaced ns ++ e)
spaced_fails [] e f = f
spaced_fails (x ∷ ns) e f = refl

word_some : (w : Word) → length (entry w).spelling ≡ 0 → ⊥
word_some w e = let h = leb-true 1 (length (entry w).spelling) (each_word (λ v. leb 1 (length (entry v).spelling)) refl w) in omega arith

not_empty : (n : ℕ) (w bs : List ℕ) → (length w ≡ 0 → ⊥) → with_word n w bs ≡ with_pieces n w bs (pieces_run bs)
not_empty n [] bs some = absurd (some refl)
not_empty n (c ∷ cs) bs some = refl

-- what stands behind the bracket of a written line
form_read : (n : ℕ) (w : Word) (ns : List ℤ) (e : List ℕ) → Bounded ns → Ending e → form_token n ((entry w).spelling ++ (spaced ns ++ e)) ≡ ended n (record { word = (entry w).spelling; pieces = spaced ns }) e
form_read n w ns e b end =
    let word = (entry w).spelling in
    let tail = spaced ns ++ e in
    let count : prefix_len letter (word ++ tail) ≡ length word = run_at letter word tail (All-weaker (IsInRange 97 122) (λ c. letter c ≡ true) letter_in word (letters w)) (spaced_fails ns e end.1.1) in
    ap₂ (with_word n) (take_at word tail (prefix_len letter (word ++ tail)) (sym count)) (drop_at word tail (prefix_len letter (word ++ tail)) (sym count))
    ∙ not_empty n word tail (word_some w)
    ∙ ap (with_pieces n word tail) (run_spaced ns e b end)
    ∙ ap₂ (λ (x y : List ℕ). ended n (record { word = word; pieces = x }) y) (take_at (spaced ns) e (length (spaced ns)) refl) (drop_at (spaced ns) e (length (spaced ns)) refl)

-- a heading from the numbers of its word
abbrev pub heading_of : Word → List ℤ → Heading
heading_of w ns = record { word = w; first = get_or ns 0 (pos 0); second = get_or ns 1 (pos 0) }

values_read : (ns : List ℤ) → length ns ≤ 2 → Bounded ns → numbers_read (map signed_decimal ns) ≡ Some (get_or ns 0 (pos 0), get_or ns 1 (pos 0))
values_read [] h b = refl
values_read (x ∷ []) h b = ap (λ (o : Option ℤ). paired o (Some (pos 0))) (spelled_of x b.0)
values_read (x ∷ y ∷ []) h b = ap₂ paired (spelled_of x b.0) (spelled_of y b.1.0)
values_read (x ∷ y ∷ z ∷ ns) h b = absurd (omega arith)

two_back : (ns : List ℤ) → length ns ≤ 2 → take (length ns) (get_or ns 0 (pos 0) ∷ get_or ns 1 (pos 0) ∷ []) ≡ ns
two_back [] h = refl
two_back (x ∷ []) h = refl
two_back (x ∷ y ∷ []) h = refl
two_back (x ∷ y ∷ z ∷ ns) h = absurd (omega arith)

numbers_back : (w : Word) (ns : List ℤ) → length ns ≡ (entry w).numbers → numbers_in (heading_of w ns) ≡ ns
numbers_back w ns e = ap (λ i. take i (get_or ns 0 (pos 0) ∷ get_or ns 1 (pos 0) ∷ [])) (sym e) ∙ two_back ns (omega (arith, two_numbers w))

heading_back : (n : ℕ) (w : Word) (ns : List ℤ) → Counted w ns → heading_read n (record { word = (entry w).spelling; pieces = spaced ns }) ≡ Ok (heading_of w ns)
heading_back n w ns c =
    let pieces = pieces_spaced ns c.1 in
    let few : length ns ≤ 2 = omega (arith, c.0, two_numbers w) in
    ap₂ (with_numbers n) (found w) pieces
    ∙ cond-true (eqb (length (map signed_decimal ns)) (entry w).numbers) (numbered n w (numbers_read (map signed_decimal ns))) (Err (NotAHeading n)) (eq-eqb (length (map signed_decimal ns)) (entry w).numbers (length-map ns signed_decimal ∙ c.0))
    ∙ ap (numbered n w) (values_read ns few c.1)

-- line n, as a token
abbrev pub token_of : ℕ → Line → Token Heading
token_of n (opening w ns) = Opening (heading_of w ns) n
token_of n (leaf w ns) = Leaf (heading_of w ns) n
token_of n closing = Closing n

pub token_back : (n : ℕ) (l : Line) → Proper l → as_line (token_of n l) ≡ l
token_back n (opening w ns) p = ap (opening w) (numbers_back w ns p.0)
token_back n (leaf w ns) p = ap (leaf w) (numbers_back w ns p.0)
token_back n closing p = refl

abbrev found_line : ℕ → Found → Result (Token Heading × List ℕ) LineFault
found_line n o = after (or_no_line n o) (λ x. after (token_heading x.0) (λ t. Ok (t, x.1)))

pub read_back : (n : ℕ) (l : Line) (rest : List ℕ) → Proper l → line_read n (line_bytes l ++ rest) ≡ Ok (token_of n l, rest)
read_back n (opening w ns) rest p =
    ap (line_read n) (sym (line_up (entry w).spelling (spaced ns) (10 ∷ []) rest))
    ∙ ap (found_line n) (form_read n w ns (10 ∷ rest) p.1 (refl, (refl, refl)))
    ∙ ap (λ (r : Result Heading LineFault). after (after r (λ h. Ok (Opening h n))) (λ t. Ok (t, rest))) (heading_back n w ns p)
read_back n (leaf w ns) rest p =
    ap (line_read n) (sym (line_up (entry w).spelling (spaced ns) (41 ∷ 10 ∷ []) rest))
    ∙ ap (found_line n) (form_read n w ns (41 ∷ 10 ∷ rest) p.1 (refl, (refl, refl)))
    ∙ ap (λ (r : Result Heading LineFault). after (after r (λ h. Ok (Leaf h n))) (λ t. Ok (t, rest))) (heading_back n w ns p)
read_back n closing rest p = refl

pub tells : (n : ℕ) (bs : List ℕ) (r : Result (Token Heading × List ℕ) LineFault) → r ≡ line_read n bs → Tells bs r
tells n bs r same l rest = (to r (sym same), λ e p. ap told_line same ∙ ap (λ (xs : List ℕ). told_line (line_read n xs)) e ∙ ap told_line (read_back n l rest p) ∙ ap (λ (k : Line). Some (k, rest)) (token_back n l p))
  where
    to : (r : Result (Token Heading × List ℕ) LineFault) → line_read n bs ≡ r → told_line r ≡ Some (l, rest) → (bs ≡ line_bytes l ++ rest) × Proper l
    to (Ok x) e f =
        let pair : ◌≡◌ {A = Line × List ℕ} (as_line x.0, x.1) (l, rest) = cc in
        subst (λ (y : Line × List ℕ). (bs ≡ line_bytes y.0 ++ y.1) × Proper y.0) pair (written_by n bs x.0 x.1 e)
    to (Err x) e f = absurd (cc)
