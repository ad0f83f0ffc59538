-- The truth value says that the forms of a table open where they should.
use Rattle.std.proofs.Common.{◌≡◌, ℕ, ◌+◌, true, ◌&&◌, eqb, List}
use Rattle.std.proofs.lemmas.Bool.{and_from, and_parts, eq-eqb, eqb-true}
use Rattle.trees.specs.declared.Kind.{Kind}
use Rattle.trees.specs.Size.{size}
use Rattle.trees.specs.Tree.{Tree}
use Rattle.trees.specs.Tree.Tree.{bag, keep, put, pool, col, lit, plus, times, pick, less, equal, either, not, num, setting, var, count, sum, add, sub, least, most, scale, clip, let_in}
use Rattle.forms.specs.declared.form.Entry.{Entry}
use Rattle.forms.specs.Lined.{AroundOne, AroundThree, AroundTwo, Lined, Opening, Opens, entry_at, part_position, past}
use Rattle.checking.specs.Opening.{Test, around_one, around_three, around_two, is_lined, opens}

-- the test A says what P says, in both directions
pub record Says (A : Test) (P : Opening) : Type 0 where
  pub tells : (p n o : ℕ) → A p n o ≡ true → P p n o
  pub holds : (p n o : ℕ) → P p n o → A p n o ≡ true

module _ (es : List Entry) where
  opens_says : Says (opens es) (Opens es)
  opens_says =
      record {
        tells = λ p n o e. let q = and_parts (eqb (entry_at es p).line n) (eqb (entry_at es p).order o) e in record { line = eqb-true (entry_at es p).line n q.0; order = eqb-true (entry_at es p).order o q.1 };
        holds = λ p n o h. and_from (eqb (entry_at es p).line n) (eqb (entry_at es p).order o) (eq-eqb (entry_at es p).line n h.line) (eq-eqb (entry_at es p).order o h.order);
      }

  one_says : {A : Test} {P : Opening} → Says A P → Says (around_one es A) (AroundOne es P)
  one_says {A} {P} s =
      record {
        tells = λ p n o e. let q = and_parts (opens es p n o) (A (part_position es p 0) (n + 1) (o + 1)) e in (opens_says.tells p n o q.0, s.tells (part_position es p 0) (n + 1) (o + 1) q.1);
        holds = λ p n o h. and_from (opens es p n o) (A (part_position es p 0) (n + 1) (o + 1)) (opens_says.holds p n o h.0) (s.holds (part_position es p 0) (n + 1) (o + 1) h.1);
      }

  two_says : {j : Kind} (a : Tree j) {A B : Test} {P Q : Opening} → Says A P → Says B Q → Says (around_two es a A B) (AroundTwo es a P Q)
  two_says a {A} {B} {P} {Q} s t =
      record {
        tells = λ p n o e.
            let q = and_parts (opens es p n o) (A (part_position es p 0) (n + 1) (o + 1) && B (part_position es p 1) (past (n + 1) a) (o + 1 + size a)) e in
            let r = and_parts (A (part_position es p 0) (n + 1) (o + 1)) (B (part_position es p 1) (past (n + 1) a) (o + 1 + size a)) q.1 in
            (opens_says.tells p n o q.0, s.tells (part_position es p 0) (n + 1) (o + 1) r.0, t.tells (part_position es p 1) (past (n + 1) a) (o + 1 + size a) r.1);
        holds = λ p n o h.
            and_from (opens es p n o) (A (part_position es p 0) (n + 1) (o + 1) && B (part_position es p 1) (past (n + 1) a) (o + 1 + size a)) (opens_says.holds p n o h.0)
            (and_from (A (part_position es p 0) (n + 1) (o + 1)) (B (part_position es p 1) (past (n + 1) a) (o + 1 + size a)) (s.holds (part_position es p 0) (n + 1) (o + 1) h.1) (t.holds (part_position es p 1) (past (n + 1) a) (o + 1 + size a) h.2));
      }

  three_says : {j k : Kind} (a : Tree j) (b : Tree k) {A B C : Test} {P Q R : Opening} → Says A P → Says B Q → Says C R → Says (around_three es a b A B C) (AroundThree es a b P Q R)
  three_says a b {A} {B} {C} {P} {Q} {R} s t u =
      record {
        tells = λ p n o e.
            let x = A (part_position es p 0) (n + 1) (o + 1) in
            let y = B (part_position es p 1) (past (n + 1) a) (o + 1 + size a) in
            let z = C (part_position es p 2) (past (past (n + 1) a) b) (o + 1 + size a + size b) in
            let f = and_parts (opens es p n o) (x && (y && z)) e in
            let g = and_parts x (y && z) f.1 in
            let h = and_parts y z g.1 in
            (opens_says.tells p n o f.0, s.tells (part_position es p 0) (n + 1) (o + 1) g.0, t.tells (part_position es p 1) (past (n + 1) a) (o + 1 + size a) h.0, u.tells (part_position es p 2) (past (past (n + 1) a) b) (o + 1 + size a + size b) h.1);
        holds = λ p n o h.
            let x = A (part_position es p 0) (n + 1) (o + 1) in
            let y = B (part_position es p 1) (past (n + 1) a) (o + 1 + size a) in
            let z = C (part_position es p 2) (past (past (n + 1) a) b) (o + 1 + size a + size b) in
            and_from (opens es p n o) (x && (y && z)) (opens_says.holds p n o h.0) (and_from x (y && z) (s.holds (part_position es p 0) (n + 1) (o + 1) h.1) (and_from y z (t.holds (part_position es p 1) (past (n + 1) a) (o + 1 + size a) h.2) (u.holds (part_position es p 2) (past (past (n + 1) a) b) (o + 1 + size a + size b) h.3)));
      }

  pub lined_says : {k : Kind} (t : Tree k) → Says (is_lined es t) (Lined es t)
  lined_says (bag k) = opens_says
  lined_says (keep b c) = two_says b (lined_says b) (lined_says c)
  lined_says (put j b t) = two_says b (lined_says b) (lined_says t)
  lined_says (pool a b) = two_says a (lined_says a) (lined_says b)
  lined_says (col j) = opens_says
  lined_says (lit v) = opens_says
  lined_says (plus a b) = two_says a (lined_says a) (lined_says b)
  lined_says (times a b) = two_says a (lined_says a) (lined_says b)
  lined_says (pick c a b) = three_says c a (lined_says c) (lined_says a) (lined_says b)
  lined_says (less a b) = two_says a (lined_says a) (lined_says b)
  lined_says (equal a b) = two_says a (lined_says a) (lined_says b)
  lined_says (either c d) = two_says c (lined_says c) (lined_says d)
  lined_says (not c) = one_says (lined_says c)
  lined_says (num v) = opens_says
  lined_says (setting k) = opens_says
  lined_says (var i) = opens_says
  lined_says (count b) = one_says (lined_says b)
  lined_says (sum lo hi b t) = two_says b (lined_says b) (lined_says t)
  lined_says (add a b) = two_says a (lined_says a) (lined_says b)
  lined_says (sub a b) = two_says a (lined_says a) (lined_says b)
  lined_says (least a b) = two_says a (lined_says a) (lined_says b)
  lined_says (most a b) = two_says a (lined_says a) (lined_says b)
  lined_says (scale v a) = one_says (lined_says a)
  lined_says (clip lo hi a) = one_says (lined_says a)
  lined_says (let_in a b) = two_says a (lined_says a) (lined_says b)
