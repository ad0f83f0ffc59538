-- Exactly the written forms of number trees within the limits are read.
use Rattle.std.proofs.Common.{◌≡◌, ℕ, ◌-◌, ◌^◌, ◌<◌, ◌≤◌, ◌⊎◌, List, [], ◌∷◌, map, length, ℤ, nat_abs, Some, None, Ok, Err, Option, Result, sym, refl, ap, ◌∙◌, subst, inl, inr, append-nil, arith}
use Rattle.std.proofs.ByRecursion.{All-append, All-weaker}
use Rattle.std.specs.List.{flat_map, AllByRecursion}
use Rattle.trees.proofs.Induction.{folds, induct}
use Rattle.trees.proofs.Limits.{told_by_lines}
use Rattle.trees.proofs.Unique.{all_split, written_once}
use Rattle.trees.specs.declared.Kind.{Kind}
use Rattle.trees.specs.declared.Kind.TheVariants.{Number}
use Rattle.trees.specs.declared.words.Word.{Word}
use Rattle.trees.specs.Size.{form_size, size, numbers, literal_bound, WithinLimits}
use Rattle.trees.specs.Tree.{Tree, AnyTree, any}
use Rattle.trees.specs.Words.{entry}
use Rattle.trees.specs.Written.{Line, form_lines, lines, line_numbers, line_bytes, written, forms_in, deepest}
use Rattle.trees.specs.Written.Line.{opening, leaf, closing}
use Rattle.forms.specs.declared.form.Entry.{Entry}
use Rattle.forms.specs.Lined.{Lined}
use Rattle.forms.specs.Table.{part_at}
use Rattle.lines.specs.declared.heading.Heading.{Heading}
use Rattle.lines.specs.declared.token.Token.{Token}
use Rattle.lines.specs.Line.{after, as_line, Proper}
use Rattle.reading.proofs.Complete.{goes}
use Rattle.reading.proofs.Run.{parse, unparse, tokens_read, tokens_of, stand, shallow, counts, balanced, all_shut}
use Rattle.reading.proofs.Sound.{Spelt, Whole, At, all_lines}
use Rattle.reading.proofs.Typed.{part_of}
use Rattle.reading.specs.declared.fault.FormFault.{FormFault}
use Rattle.reading.specs.declared.frame.Frame.{Frame}
use Rattle.reading.specs.Law.{Holds, HoldsLined, OpensLines, ReadsTrees}
use Rattle.reading.specs.Progress.{State}
use Rattle.reading.specs.Text.{lines_of, lines_read, beginning, kinds_read, text_read, replied, entries_of}

-- the lines of a tree are proper

-- as many numbers as the word has
abbrev Full : Line → Type 0
Full (opening w ns) = length ns ≡ (entry w).numbers
Full (leaf w ns) = length ns ≡ (entry w).numbers
Full closing = Unit {0}

abbrev Bounded : List ℤ → Type 0
Bounded ns = AllByRecursion (λ z. nat_abs z ≤ literal_bound) ns

full_parts : (ps : List AnyTree) → AllByRecursion (λ p. AllByRecursion Full (lines p.1)) ps → AllByRecursion Full (all_lines ps)
full_parts [] all = tt
full_parts (p ∷ ps) all = All-append Full (lines p.1) (all_lines ps) all.0 (full_parts ps all.1)

full_form : (w : Word) (ns : List ℤ) (ps : List AnyTree) → length ns ≡ (entry w).numbers → AllByRecursion (λ p. AllByRecursion Full (lines p.1)) ps → AllByRecursion Full (form_lines w ns (folds form_lines ps))
full_form w ns [] e all = (e, tt)
full_form w ns (p ∷ ps) e all = (e, All-append Full (all_lines (p ∷ ps)) (closing ∷ []) (full_parts (p ∷ ps) all) (tt, tt))

full : {k : Kind} (t : Tree k) → AllByRecursion Full (lines t)
full = induct (λ p. AllByRecursion Full (lines p.1)) (λ w ns ps made all. subst (AllByRecursion Full) (sym (made.folded form_lines)) (full_form w ns ps made.numbers all))

proper_line : (l : Line) → Full l → Bounded (line_numbers l) → Proper l
proper_line (opening w ns) f b = (f, b)
proper_line (leaf w ns) f b = (f, b)
proper_line closing f b = tt

proper_lines : (ls : List Line) → AllByRecursion Full ls → Bounded (flat_map line_numbers ls) → AllByRecursion Proper ls
proper_lines [] f b = tt
proper_lines (l ∷ ls) f b = let r = all_split (λ z. nat_abs z ≤ literal_bound) (line_numbers l) (flat_map line_numbers ls) b in (proper_line l f.0 r.0, proper_lines ls f.1 r.1)

bounded_line : (l : Line) → Proper l → Bounded (line_numbers l)
bounded_line (opening w ns) p = p.1
bounded_line (leaf w ns) p = p.1
bounded_line closing p = tt

bounded_lines : (ls : List Line) → AllByRecursion Proper ls → Bounded (flat_map line_numbers ls)
bounded_lines [] p = tt
bounded_lines (l ∷ ls) p = All-append (λ z. nat_abs z ≤ literal_bound) (line_numbers l) (flat_map line_numbers ls) (bounded_line l p.0) (bounded_lines ls p.1)

-- every tree is read

complete : (t : Tree Number) → WithinLimits t → (s : State) × (lines_read beginning 1 (lines_of (written t)) ≡ Ok s) × (s.at.wrong ≡ None) × Lined s.entries t (length s.entries - 1) 1 0
complete t limits =
    let proper = proper_lines (lines t) (full t) (subst Bounded (told_by_lines Number t).2 limits.small) in
    let g = goes t beginning 1 [] refl (omega (arith, limits.few)) (omega (arith, limits.shallow)) refl in
    let es = g.0.entries in
    let d = g.2 in (
      g.0,
      unparse 1 (lines t) beginning proper ∙ ap (λ (ls : List Line). tokens_read beginning (tokens_of 1 ls)) (sym (append-nil (lines t))) ∙ g.1,
      d.wrong_now,
      subst (λ (q : ℕ). Lined es t q 1 0) (omega (arith, d.at_end)) (d.lined es ([], sym (append-nil es))),
    )

read_written : (t : Tree Number) → WithinLimits t → replied (text_read (written t)) ≡ Ok tt
read_written t limits =
    let c = complete t limits in
    ap (λ (r : Result State FormFault). replied (after r (λ s. after (kinds_read s.at.wrong) (λ u. Ok s.entries)))) c.1 ∙ ap (λ (o : Option ℕ). replied (after (kinds_read o) (λ u. Ok c.0.entries))) c.2

-- what is read is a tree

abbrev TreeOf : List ℕ → List Entry → Type 0
TreeOf text es = (t : Tree Number) × WithinLimits t × (text ≡ written t) × HoldsLined es t

holds_from : (es : List Entry) (t : Tree Number) → Spelt es (length es - 1) (any t) → length es ≡ size t → Lined es t (length es - 1) 1 0 → HoldsLined es t
unfolding part_at
holds_from es t s e l = ((s.there, e), l)

-- the written form of t leaves the entries that `complete` speaks of
lined_from : (text : List ℕ) (s : State) (t : Tree Number) → WithinLimits t → text ≡ written t → lines_read beginning 1 (lines_of text) ≡ Ok s → Lined s.entries t (length s.entries - 1) 1 0
lined_from text s t limits e reads =
    let c = complete t limits in
    let both : ◌≡◌ {A = Result State FormFault} (Ok c.0) (Ok s) = sym c.1 ∙ ap (λ (bs : List ℕ). lines_read beginning 1 (lines_of bs)) (sym e) ∙ reads in
    let same : c.0 ≡ s = cc in
    subst (λ (x : State). Lined x.entries t (length x.entries - 1) 1 0) same c.3

whole_from : (es : List Entry) (fs : List Frame) (forms : ℕ) (l : Line) (ls : List Line) → length fs ≡ 0 → At es fs forms (l ∷ ls) → Whole es (l ∷ ls)
whole_from es [] forms l ls e (inl x) = let f = ap length x.1 in absurd (omega arith)
whole_from es [] forms l ls e (inr x) = x.0
whole_from es (f ∷ fs) forms l ls e x = absurd (omega arith)

tree_from : (text : List ℕ) (s : State) (t : Token Heading) (ts : List (Token Heading)) → lines_read beginning 1 (lines_of text) ≡ Ok s → tokens_read beginning (t ∷ ts) ≡ Ok s → text ≡ flat_map line_bytes (map as_line (t ∷ ts)) → AllByRecursion Proper (map as_line (t ∷ ts)) → s.at.wrong ≡ None → TreeOf text s.entries
tree_from text s t ts from_text reads bytes proper right =
    let shut = all_shut t ts beginning s reads in
    let w = whole_from s.entries s.at.open_forms s.at.forms (as_line t) (map as_line ts) shut (stand (t ∷ ts) beginning s [] reads right proper (inl (refl, refl))) in
    let tree = w.0 in
    let told = told_by_lines Number tree in
    let b = balanced (t ∷ ts) beginning s reads (record { all = refl; few = omega arith }) in
    let count = counts (t ∷ ts) beginning s reads in
    let forms = ap forms_in w.1 in
    let limits : WithinLimits tree = record {
      few = omega (arith, told.0, b.few);
      shallow = omega (arith, told.1, ap (deepest 0) w.1, shallow (t ∷ ts) beginning s reads);
      small = subst Bounded (sym told.2) (subst (λ (ls : List Line). Bounded (flat_map line_numbers ls)) w.1 (bounded_lines (map as_line (t ∷ ts)) proper));
    } in
    let spelling = bytes ∙ ap (flat_map line_bytes) w.1 in
    (tree, limits, spelling, holds_from s.entries tree w.2 (omega (arith, told.0, b.all, shut)) (lined_from text s tree limits spelling from_text))

sound : (text : List ℕ) (s : State) → lines_read beginning 1 (lines_of text) ≡ Ok s → s.at.wrong ≡ None → (text ≡ []) ⊎ TreeOf text s.entries
sound text s e right = let p = parse (length text) 1 text beginning s (omega arith) e in go p.tokens p.reads p.bytes p.proper
  where
    go : (ts : List (Token Heading)) → tokens_read beginning ts ≡ Ok s → text ≡ flat_map line_bytes (map as_line ts) → AllByRecursion Proper (map as_line ts) → (text ≡ []) ⊎ TreeOf text s.entries
    go [] reads bytes proper = inl bytes
    go (t ∷ ts) reads bytes proper = inr (tree_from text s t ts e reads bytes proper right)

pub only_trees : (text : List ℕ) → replied (text_read text) ≡ Ok tt → (text ≡ []) ⊎ TreeOf text (entries_of (text_read text))
only_trees text e = go (lines_read beginning 1 (lines_of text)) refl e
  where
    kinds : (s : State) (o : Option ℕ) → s.at.wrong ≡ o → lines_read beginning 1 (lines_of text) ≡ Ok s → replied (after (kinds_read o) (λ u. Ok s.entries)) ≡ Ok tt → (text ≡ []) ⊎ TreeOf text (entries_of (after (kinds_read o) (λ u. Ok s.entries)))
    kinds s None w f g = sound text s f w
    kinds s (Some n) w f g = absurd (cc)

    go : (r : Result State FormFault) → lines_read beginning 1 (lines_of text) ≡ r → replied (after r (λ s. after (kinds_read s.at.wrong) (λ u. Ok s.entries))) ≡ Ok tt → (text ≡ []) ⊎ TreeOf text (entries_of (after r (λ s. after (kinds_read s.at.wrong) (λ u. Ok s.entries))))
    go (Ok s) f g = kinds s s.at.wrong refl f g
    go (Err x) f g = absurd (cc)

-- the tree that is read from a written form is the tree written

size_some : {k : Kind} (t : Tree k) → 0 < size t
size_some = induct (λ p. 0 < size p.1) (λ w ns ps made all. omega (arith, made.folded form_size))

some_written : (t : Tree Number) → WithinLimits t → written t ≡ [] → ⊥
some_written t limits e = go (lines t) (told_by_lines Number t).0 e
  where
    go : (ls : List Line) → size t ≡ forms_in ls → flat_map line_bytes ls ≡ [] → ⊥
    go [] f g = omega (arith, size_some t)
    go (opening w ns ∷ ls) f g = omega (arith, ap length g)
    go (leaf w ns ∷ ls) f g = omega (arith, ap length g)
    go (closing ∷ ls) f g = omega (arith, ap length g)

fit_64 : (t : Tree Number) → WithinLimits t → AllByRecursion (λ z. nat_abs z ≤ 2 ^ 63 - 1) (numbers t)
fit_64 t limits = All-weaker (λ z. nat_abs z ≤ literal_bound) (λ z. nat_abs z ≤ 2 ^ 63 - 1) (λ z h. omega arith) (numbers t) limits.small

same_tree : (es : List Entry) (t u : Tree Number) → any u ≡ any t → HoldsLined es u → HoldsLined es t
same_tree es t u e h = subst (λ (p : AnyTree). ((part_at es (length es - 1) ≡ part_of p) × (length es ≡ size p.1)) × Lined es p.1 (length es - 1) 1 0) e h

every_tree : (text : List ℕ) (t : Tree Number) → WithinLimits t → text ≡ written t → (replied (text_read text) ≡ Ok tt) × HoldsLined (entries_of (text_read text)) t
every_tree text t limits e =
    let read = ap (λ (bs : List ℕ). replied (text_read bs)) e ∙ read_written t limits in
    (read, go (only_trees text read))
  where
    go : (text ≡ []) ⊎ TreeOf text (entries_of (text_read text)) → HoldsLined (entries_of (text_read text)) t
    go (inl z) = absurd (some_written t limits (sym e ∙ z))
    go (inr x) = same_tree (entries_of (text_read text)) t x.0 (written_once Number Number x.0 t (fit_64 x.0 x.1) (fit_64 t limits) (sym x.2 ∙ e)) x.3

pub reads_trees : (text : List ℕ) → ReadsTrees text (replied (text_read text)) (entries_of (text_read text))
reads_trees text =
    record {
      only = λ e. unlined (only_trees text e);
      every = λ t limits e. let x = every_tree text t limits e in (x.0, x.1.0);
      nothing = λ e. (ap (λ (bs : List ℕ). replied (text_read bs)) e, ap (λ (bs : List ℕ). entries_of (text_read bs)) e);
    }
  where
    unlined : (text ≡ []) ⊎ TreeOf text (entries_of (text_read text)) → (text ≡ []) ⊎ ((t : Tree Number) × WithinLimits t × (text ≡ written t) × Holds (entries_of (text_read text)) t)
    unlined (inl e) = inl e
    unlined (inr x) = inr (x.0, x.1, x.2, x.3.0)

pub opens_lines : (text : List ℕ) → OpensLines text (entries_of (text_read text))
opens_lines text t limits e = (every_tree text t limits e).1.1
