-- Whether the forms of a table open where the written form of their tree has them, as a truth value.
use Rattle.std.specs.Prelude.{ℕ, ◌+◌, Bool, ◌&&◌, List, ◌==◌}
use Rattle.trees.specs.declared.Kind.{Kind}
use Rattle.trees.specs.Size.{size}
use Rattle.trees.specs.Tree.{Tree}
use Rattle.trees.specs.Tree.Tree.{bag, keep, put, pool, col, lit, plus, times, pick, less, equal, either, not, num, setting, var, count, sum, add, sub, least, most, scale, clip, let_in}
use Rattle.forms.specs.declared.form.Entry.{Entry}
use Rattle.forms.specs.Lined.{entry_at, part_position, past}

abbrev pub opens : List Entry → (p n o : ℕ) → Bool
opens es p n o = (entry_at es p).line == n && (entry_at es p).order == o

abbrev pub Test : Type 0
Test = (p n o : ℕ) → Bool

abbrev pub around_one : List Entry → Test → Test
around_one es A p n o = opens es p n o && A (part_position es p 0) (n + 1) (o + 1)

abbrev pub around_two : List Entry → {j : Kind} → Tree j → Test → Test → Test
around_two es a A B p n o = opens es p n o && (A (part_position es p 0) (n + 1) (o + 1) && B (part_position es p 1) (past (n + 1) a) (o + 1 + size a))

abbrev pub around_three : List Entry → {j k : Kind} → Tree j → Tree k → Test → Test → Test → Test
around_three es a b A B C p n o =
    opens es p n o && (A (part_position es p 0) (n + 1) (o + 1) && (B (part_position es p 1) (past (n + 1) a) (o + 1 + size a) && C (part_position es p 2) (past (past (n + 1) a) b) (o + 1 + size a + size b)))

-- t, whose entry stands at p, opens on line n as form o, and all its parts open behind it
abbrev pub is_lined : List Entry → {k : Kind} → Tree k → Test
is_lined es (bag k) p n o = opens es p n o
is_lined es (keep b c) p n o = around_two es b (is_lined es b) (is_lined es c) p n o
is_lined es (put j b t) p n o = around_two es b (is_lined es b) (is_lined es t) p n o
is_lined es (pool a b) p n o = around_two es a (is_lined es a) (is_lined es b) p n o
is_lined es (col j) p n o = opens es p n o
is_lined es (lit v) p n o = opens es p n o
is_lined es (plus a b) p n o = around_two es a (is_lined es a) (is_lined es b) p n o
is_lined es (times a b) p n o = around_two es a (is_lined es a) (is_lined es b) p n o
is_lined es (pick c a b) p n o = around_three es c a (is_lined es c) (is_lined es a) (is_lined es b) p n o
is_lined es (less a b) p n o = around_two es a (is_lined es a) (is_lined es b) p n o
is_lined es (equal a b) p n o = around_two es a (is_lined es a) (is_lined es b) p n o
is_lined es (either c d) p n o = around_two es c (is_lined es c) (is_lined es d) p n o
is_lined es (not c) p n o = around_one es (is_lined es c) p n o
is_lined es (num v) p n o = opens es p n o
is_lined es (setting k) p n o = opens es p n o
is_lined es (var i) p n o = opens es p n o
is_lined es (count b) p n o = around_one es (is_lined es b) p n o
is_lined es (sum lo hi b t) p n o = around_two es b (is_lined es b) (is_lined es t) p n o
is_lined es (add a b) p n o = around_two es a (is_lined es a) (is_lined es b) p n o
is_lined es (sub a b) p n o = around_two es a (is_lined es a) (is_lined es b) p n o
is_lined es (least a b) p n o = around_two es a (is_lined es a) (is_lined es b) p n o
is_lined es (most a b) p n o = around_two es a (is_lined es a) (is_lined es b) p n o
is_lined es (scale v a) p n o = around_one es (is_lined es a) p n o
is_lined es (clip lo hi a) p n o = around_one es (is_lined es a) p n o
is_lined es (let_in a b) p n o = around_two es a (is_lined es a) (is_lined es b) p n o
