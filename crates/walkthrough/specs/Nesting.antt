-- How deep the brackets of a text go.
use Rattle.std.specs.Prelude.{ℕ, ◌+◌, ◌-◌, max, cond, List, [], ◌∷◌, ◌==◌}

-- how many brackets are open behind a byte, where n are open before it
abbrev pub opened : ℕ → ℕ → ℕ
opened n c = cond (c == 40) (n + 1) (cond (c == 41) (n - 1) n)

-- the most brackets that are open at once
abbrev pub nesting : ℕ → List ℕ → ℕ
nesting n [] = n
nesting n (c ∷ cs) = max n (nesting (opened n c) cs)
