-- What a stack holds.
use Rattle.std.specs.Prelude.{ℕ, List, [], ◌∷◌, drop}
use Rattle.stacks.specs.declared.stack.Stack.{Stack}

-- the items, the innermost first
abbrev pub stacked : {T : Type 0} {N : ℕ} → Stack T N → List T
stacked s = drop s.first s.items

-- how many items more there is room for
abbrev pub spare : {T : Type 0} {N : ℕ} → Stack T N → ℕ
spare s = s.first

-- the innermost item is another, if there is one
abbrev pub replaced : {T : Type 0} → T → List T → List T
replaced x [] = []
replaced x (y ∷ ys) = x ∷ ys
