-- Where a form opens whose entry is pushed: its parts, which stand before it, open behind it one after the other.
use Rattle.std.proofs.Common.{◌≡◌, ℕ, ◌+◌, List, [], ◌∷◌, ◌++◌, map, reverse, length, get_or, ℤ, sym, refl, ap, ◌∙◌, subst, append_assoc, arith}
use Rattle.std.proofs.lemmas.List.{get_or_append_left, get_or_push, length_push}
use Rattle.trees.proofs.Induction.{make}
use Rattle.trees.specs.declared.Kind.{Kind}
use Rattle.trees.specs.declared.words.Word.{Word}
use Rattle.trees.specs.declared.words.Word.TheVariants.{Bag, Keep, Put, Pool, Col, Lit, Plus, Times, Pick, Less, Equal, Either, Not, Num, Setting, Var, Count, Sum, Add, Sub, Least, Most, Scale, Clip, Let}
use Rattle.trees.specs.Size.{size}
use Rattle.trees.specs.Tree.{Tree, AnyTree, any}
use Rattle.trees.specs.Words.{entry}
use Rattle.forms.specs.declared.form.Entry.{Entry}
use Rattle.forms.specs.declared.form.Form.{Form}
use Rattle.forms.specs.Lined.{no_entry, entry_at, part_positions, part_position, past, Opens, Opening, AroundOne, AroundTwo, AroundThree, Lined}
use Rattle.reading.proofs.Parts.{Saying, Each, each_weaker}
use Rattle.reading.proofs.Typed.{kind_of, Trees, anys, typed}
use Rattle.reading.specs.Frame.{form_with}

-- the line and the number behind these trees, the last first
abbrev pub line_behind : ℕ → List AnyTree → ℕ
line_behind n [] = n
line_behind n (t ∷ ts) = past (line_behind n ts) t.1

abbrev pub order_behind : ℕ → List AnyTree → ℕ
order_behind o [] = o
order_behind o (t ∷ ts) = order_behind o ts + size t.1

-- a part of a form that opens on line n as form o opens behind the parts before it
abbrev pub InTurn : (AnyTree → Opening) → (n o : ℕ) → Saying
InTurn R n o q t before = R t q (line_behind (n + 1) before) (order_behind (o + 1) before)

abbrev LinedIn : List Entry → AnyTree → Opening
LinedIn es t p n o = Lined es t.1 p n o

-- the entry at p is this form, on line n as form o
abbrev Entered : List Entry → (p n o : ℕ) → Form → Type 0
Entered es p n o f = entry_at es p ≡ record { form = f; line = n; order = o }

-- a form at p that has its parts at the last of the positions a, b and c
module _ (es : List Entry) (p n o a b c : ℕ) where
  none : {f : Form} → Entered es p n o f → Opens es p n o
  none e = record { line = ap (λ (x : Entry). x.line) e; order = ap (λ (x : Entry). x.order) e }

  at_part : {f : Form} {qs : List ℕ} → Entered es p n o f → part_positions f ≡ qs → (i : ℕ) (P : ℕ → Type 0) → P (get_or qs i 0) → P (part_position es p i)
  at_part e g i P h = subst (λ (rs : List ℕ). P (get_or rs i 0)) (sym (ap (λ (x : Entry). part_positions x.form) e ∙ g)) h

  one : {f : Form} {j : Kind} → Entered es p n o f → part_positions f ≡ c ∷ [] → (t : Tree j) → Each (InTurn (LinedIn es) n o) (c ∷ b ∷ a ∷ []) (any t ∷ []) → AroundOne es (Lined es t) p n o
  one e g t h = (none e, at_part e g 0 (λ q. Lined es t q (n + 1) (o + 1)) h.0)

  two : {f : Form} {j k : Kind} → Entered es p n o f → part_positions f ≡ b ∷ c ∷ [] → (t : Tree j) (u : Tree k) → Each (InTurn (LinedIn es) n o) (c ∷ b ∷ a ∷ []) (any u ∷ any t ∷ []) → AroundTwo es t (Lined es t) (Lined es u) p n o
  two e g t u h = (none e, at_part e g 0 (λ q. Lined es t q (n + 1) (o + 1)) h.1.0, at_part e g 1 (λ q. Lined es u q (past (n + 1) t) (o + 1 + size t)) h.0)

  three : {f : Form} {i j k : Kind} → Entered es p n o f → part_positions f ≡ a ∷ b ∷ c ∷ [] → (t : Tree i) (u : Tree j) (v : Tree k) → Each (InTurn (LinedIn es) n o) (c ∷ b ∷ a ∷ []) (any v ∷ any u ∷ any t ∷ []) → AroundThree es t u (Lined es t) (Lined es u) (Lined es v) p n o
  three e g t u v h = (
    none e,
    at_part e g 0 (λ q. Lined es t q (n + 1) (o + 1)) h.1.1.0,
    at_part e g 1 (λ q. Lined es u q (past (n + 1) t) (o + 1 + size t)) h.1.0,
    at_part e g 2 (λ q. Lined es v q (past (past (n + 1) t) u) (o + 1 + size t + size u)) h.0,
  )

  -- a form of any word, from its parts
  around : (x y : ℤ) (ns : List ℤ) (w : Word) (ts : Trees (entry w).parts) → Entered es p n o (form_with w x y a b c) → Each (InTurn (LinedIn es) n o) (c ∷ b ∷ a ∷ []) (reverse (anys (entry w).parts ts)) → Lined es (make w ns (anys (entry w).parts ts)).1 p n o
  around x y ns Bag ts e h = none e
  around x y ns Keep ts e h = two e refl ts.0 ts.1.0 h
  around x y ns Put ts e h = two e refl ts.0 ts.1.0 h
  around x y ns Pool ts e h = two e refl ts.0 ts.1.0 h
  around x y ns Col ts e h = none e
  around x y ns Lit ts e h = none e
  around x y ns Plus ts e h = two e refl ts.0 ts.1.0 h
  around x y ns Times ts e h = two e refl ts.0 ts.1.0 h
  around x y ns Pick ts e h = three e refl ts.0 ts.1.0 ts.1.1.0 h
  around x y ns Less ts e h = two e refl ts.0 ts.1.0 h
  around x y ns Equal ts e h = two e refl ts.0 ts.1.0 h
  around x y ns Either ts e h = two e refl ts.0 ts.1.0 h
  around x y ns Not ts e h = one e refl ts.0 h
  around x y ns Num ts e h = none e
  around x y ns Setting ts e h = none e
  around x y ns Var ts e h = none e
  around x y ns Count ts e h = one e refl ts.0 h
  around x y ns Sum ts e h = two e refl ts.0 ts.1.0 h
  around x y ns Add ts e h = two e refl ts.0 ts.1.0 h
  around x y ns Sub ts e h = two e refl ts.0 ts.1.0 h
  around x y ns Least ts e h = two e refl ts.0 ts.1.0 h
  around x y ns Most ts e h = two e refl ts.0 ts.1.0 h
  around x y ns Scale ts e h = one e refl ts.0 h
  around x y ns Clip ts e h = one e refl ts.0 h
  around x y ns Let ts e h = two e refl ts.0 ts.1.0 h

-- the entries of es' begin with those of es
abbrev pub Grown : (es es' : List Entry) → Type 0
Grown es es' = (more : List Entry) × (es' ≡ es ++ more)

pub grown_on : (es es₁ es₂ : List Entry) → Grown es es₁ → Grown es₁ es₂ → Grown es es₂
grown_on es es₁ es₂ g h = (g.0 ++ h.0, h.1 ∙ ap (λ (xs : List Entry). xs ++ h.0) g.1 ∙ append_assoc es g.0 h.0)

-- the tree opens there, whatever is pushed behind these entries
abbrev pub StaysLined : List Entry → AnyTree → Opening
StaysLined es t p n o = (es' : List Entry) → Grown es es' → Lined es' t.1 p n o

pub parts_stay : (es es' : List Entry) → Grown es es' → (n o : ℕ) (qs : List ℕ) (ts : List AnyTree) → Each (InTurn (StaysLined es) n o) qs ts → Each (InTurn (StaysLined es') n o) qs ts
parts_stay es es' g n o = each_weaker (InTurn (StaysLined es) n o) (InTurn (StaysLined es') n o) (λ q t ts h es₂ g₂. h es₂ (grown_on es es' es₂ g g₂))

-- a form is closed, and its entry pushed behind those of its parts
pub closed_lined : (w : Word) (ns : List ℤ) (ds : List AnyTree) → map kind_of ds ≡ (entry w).parts → (x y : ℤ) (n o a b c : ℕ) (es : List Entry) → Each (InTurn (StaysLined es) n o) (c ∷ b ∷ a ∷ []) (reverse ds) → StaysLined (es ++ record { form = form_with w x y a b c; line = n; order = o } ∷ []) (make w ns ds) (length es) n o
closed_lined w ns ds kinds x y n o a b c es h es' g =
    let new : Entry = record { form = form_with w x y a b c; line = n; order = o } in
    let t = typed (entry w).parts ds kinds in
    let there : entry_at es' (length es) ≡ new = ap (λ (xs : List Entry). entry_at xs (length es)) g.1 ∙ get_or_append_left (es ++ new ∷ []) g.0 no_entry (length es) (omega (arith, length_push es new)) ∙ get_or_push es new no_entry (length es) refl in
    let parts = each_weaker (InTurn (StaysLined es) n o) (InTurn (LinedIn es') n o) (λ q u us k. k es' (grown_on es (es ++ new ∷ []) es' (new ∷ [], refl) g)) (c ∷ b ∷ a ∷ []) (reverse ds) h in
    subst (λ (us : List AnyTree). Lined es' (make w ns us).1 (length es) n o) (sym t.1)
    (around es' (length es) n o a b c x y ns w t.0 there (subst (λ (us : List AnyTree). Each (InTurn (LinedIn es') n o) (c ∷ b ∷ a ∷ []) (reverse us)) t.1 parts))
