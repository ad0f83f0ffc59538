-- Where the forms of a table open in their text: the line of each entry, and its number in the order of opening lines.
use Rattle.std.specs.Prelude.{◌≡◌, ℕ, ◌+◌, List, [], ◌∷◌, length, pos, slice_index, slice_index_or}
use Rattle.trees.specs.declared.Kind.{Kind}
use Rattle.trees.specs.Size.{size}
use Rattle.trees.specs.Tree.{Tree}
use Rattle.trees.specs.Tree.Tree.{bag, keep, put, pool, col, lit, plus, times, pick, less, equal, either, not, num, setting, var, count, sum, add, sub, least, most, scale, clip, let_in}
use Rattle.trees.specs.Written.{lines}
use Rattle.forms.specs.declared.form.Entry.{Entry}
use Rattle.forms.specs.declared.form.Form.{Form}
use Rattle.forms.specs.declared.form.Form.TheVariants as form

abbrev pub no_entry : Entry
no_entry = record { form = form.Bag (pos 0); line = 0; order = 0 }

abbrev pub entry_at : List Entry → ℕ → Entry
entry_at es p = slice_index_or es p no_entry

-- the positions of a form's parts, in order
abbrev pub part_positions : Form → List ℕ
part_positions (form.Bag k) = []
part_positions (form.Keep b c) = b ∷ c ∷ []
part_positions (form.Put j b t) = b ∷ t ∷ []
part_positions (form.Pool a b) = a ∷ b ∷ []
part_positions (form.Col j) = []
part_positions (form.Lit n) = []
part_positions (form.Plus a b) = a ∷ b ∷ []
part_positions (form.Times a b) = a ∷ b ∷ []
part_positions (form.Pick c a b) = c ∷ a ∷ b ∷ []
part_positions (form.Less a b) = a ∷ b ∷ []
part_positions (form.Equal a b) = a ∷ b ∷ []
part_positions (form.Either a b) = a ∷ b ∷ []
part_positions (form.Not c) = c ∷ []
part_positions (form.Num n) = []
part_positions (form.Setting k) = []
part_positions (form.Var i) = []
part_positions (form.Count b) = b ∷ []
part_positions (form.Sum lo hi b t) = b ∷ t ∷ []
part_positions (form.Add a b) = a ∷ b ∷ []
part_positions (form.Sub a b) = a ∷ b ∷ []
part_positions (form.Least a b) = a ∷ b ∷ []
part_positions (form.Most a b) = a ∷ b ∷ []
part_positions (form.Scale n a) = a ∷ []
part_positions (form.Clip lo hi a) = a ∷ []
part_positions (form.Let a b) = a ∷ b ∷ []

-- the position of part i of the form at p
abbrev pub part_position : List Entry → ℕ → ℕ → ℕ
part_position es p i = slice_index (part_positions (entry_at es p).form) i

-- the first line behind those of t, which begin on line n
abbrev pub past : ℕ → {k : Kind} → Tree k → ℕ
past n t = n + length (lines t)

-- the entry at p opens on line n, as form o
pub record Opens (es : List Entry) (p n o : ℕ) : Type 0 where
  pub line : (entry_at es p).line ≡ n
  pub order : (entry_at es p).order ≡ o

-- what is said of an entry that opens at a line, as a form of some number
abbrev pub Opening : Type 1
Opening = (p n o : ℕ) → Type 0

-- a form opens, and its parts behind it one after the other
abbrev pub AroundOne : List Entry → Opening → Opening
AroundOne es A p n o = Opens es p n o × A (part_position es p 0) (n + 1) (o + 1)

abbrev pub AroundTwo : List Entry → {j : Kind} → Tree j → Opening → Opening → Opening
AroundTwo es a A B p n o = Opens es p n o × A (part_position es p 0) (n + 1) (o + 1) × B (part_position es p 1) (past (n + 1) a) (o + 1 + size a)

abbrev pub AroundThree : List Entry → {j k : Kind} → Tree j → Tree k → Opening → Opening → Opening → Opening
AroundThree es a b A B C p n o =
    Opens es p n o
    × A (part_position es p 0) (n + 1) (o + 1)
    × B (part_position es p 1) (past (n + 1) a) (o + 1 + size a)
    × C (part_position es p 2) (past (past (n + 1) a) b) (o + 1 + size a + size b)

-- t, whose entry stands at p, opens on line n as form o, and all its parts open where the written form has them
abbrev pub Lined : List Entry → {k : Kind} → Tree k → Opening
Lined es (bag k) p n o = Opens es p n o
Lined es (keep b c) p n o = AroundTwo es b (Lined es b) (Lined es c) p n o
Lined es (put j b t) p n o = AroundTwo es b (Lined es b) (Lined es t) p n o
Lined es (pool a b) p n o = AroundTwo es a (Lined es a) (Lined es b) p n o
Lined es (col j) p n o = Opens es p n o
Lined es (lit v) p n o = Opens es p n o
Lined es (plus a b) p n o = AroundTwo es a (Lined es a) (Lined es b) p n o
Lined es (times a b) p n o = AroundTwo es a (Lined es a) (Lined es b) p n o
Lined es (pick c a b) p n o = AroundThree es c a (Lined es c) (Lined es a) (Lined es b) p n o
Lined es (less a b) p n o = AroundTwo es a (Lined es a) (Lined es b) p n o
Lined es (equal a b) p n o = AroundTwo es a (Lined es a) (Lined es b) p n o
Lined es (either c d) p n o = AroundTwo es c (Lined es c) (Lined es d) p n o
Lined es (not c) p n o = AroundOne es (Lined es c) p n o
Lined es (num v) p n o = Opens es p n o
Lined es (setting k) p n o = Opens es p n o
Lined es (var i) p n o = Opens es p n o
Lined es (count b) p n o = AroundOne es (Lined es b) p n o
Lined es (sum lo hi b t) p n o = AroundTwo es b (Lined es b) (Lined es t) p n o
Lined es (add a b) p n o = AroundTwo es a (Lined es a) (Lined es b) p n o
Lined es (sub a b) p n o = AroundTwo es a (Lined es a) (Lined es b) p n o
Lined es (least a b) p n o = AroundTwo es a (Lined es a) (Lined es b) p n o
Lined es (most a b) p n o = AroundTwo es a (Lined es a) (Lined es b) p n o
Lined es (scale v a) p n o = AroundOne es (Lined es a) p n o
Lined es (clip lo hi a) p n o = AroundOne es (Lined es a) p n o
Lined es (let_in a b) p n o = AroundTwo es a (Lined es a) (Lined es b) p n o
