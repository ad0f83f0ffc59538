-- How a refusal is printed.
use Rattle.std.specs.Fmt.{decimal}
use Rattle.std.specs.Prelude.{ℕ, List, ◌++◌, codes}
use Rattle.refusals.specs.declared.Refusal.{Refusal}

-- the number, and where: `16 at 2 1`
abbrev pub printed : Refusal → List ℕ
printed r = decimal r.number ++ codes " at " ++ decimal r.first ++ codes " " ++ decimal r.second
