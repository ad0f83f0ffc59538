-- Some queries with what the rules give them, on a catalogue with 8 rows of two columns and 3 rows of one.
use Rattle.std.specs.Prelude.{◌≡◌, [], ◌∷◌, ℤ, pos, negsuc, Ok, Err, Result}
use Rattle.refusals.specs.Rules.{refusal}
use Rattle.refusals.specs.declared.Refusal.{Refusal}
use Rattle.sources.specs.Shapes.{range}
use Rattle.trees.specs.declared.Kind.TheVariants.{Number}
use Rattle.trees.specs.Tree.{Tree}
use Rattle.trees.specs.Tree.Tree.{add, bag, clip, col, count, least, let_in, lit, num, plus, scale, setting, sub, sum, var}
use Rattle.rules.specs.Amounts.{amounts}
use Rattle.rules.specs.Typing.{NumberType, number_typed}
use Rattle.rules.specs.declared.amounts.Amounts.{Amounts}
use Rattle.rules.specs.declared.catalogue.Catalogue.{Catalogue}

abbrev pub bench : Catalogue
bench =
    record {
      sources = record { width = 2; limit = 8; columns = range (pos 0) (pos 7) ∷ range (pos 1130) (pos 1200) ∷ [] }
          ∷ record { width = 1; limit = 3; columns = range (pos 20) (pos 30) ∷ [] }
          ∷ [];
      settings = range (pos 0) (pos 2000) ∷ range (negsuc 49) (pos 50) ∷ [];
    }

abbrev checked : Tree Number → Result NumberType Refusal
checked t = number_typed 1 bench [] t

abbrev gives : ℤ → ℤ → Amounts → Result NumberType Refusal
gives low high a = Ok (record { range = range low high; inputs = a; vars = [] })

abbrev thousands : ℤ → Tree Number
thousands n = scale (pos 1_000_000) (scale n (count (bag (pos 0))))

-- the range of a sum holds 0, and its sensitivity is the greater of its bounds, not their difference; a variable that is used more often is charged for more often
pub record TypedExamples : Type 0 where
  pub clipped_sum : checked (sum (negsuc 19) (pos 50) (bag (pos 0)) (plus (col (pos 1)) (lit (negsuc 1159)))) ≡ gives (negsuc 159) (pos 400) (amounts 50 0 0 0)
  pub narrow_sum : checked (sum (pos 5) (pos 6) (bag (pos 0)) (col (pos 0))) ≡ gives (pos 0) (pos 48) (amounts 6 0 0 0)
  pub named_count : checked (let_in (count (bag (pos 1))) (add (var (pos 0)) (scale (negsuc 2) (var (pos 0))))) ≡ gives (negsuc 8) (pos 3) (amounts 0 4 0 0)
  pub clipped_setting : checked (clip (pos 0) (pos 10) (sub (setting (pos 0)) (num (pos 1175)))) ≡ gives (pos 0) (pos 10) (amounts 0 0 1 0)
  pub lesser_count : checked (least (count (bag (pos 0))) (scale (pos 2) (count (bag (pos 0))))) ≡ gives (pos 0) (pos 8) (amounts 3 0 0 0)
  pub at_the_bound : checked (thousands (pos 1000)) ≡ gives (pos 0) (pos 8_000_000_000) (amounts 1_000_000_000 0 0 0)
  pub past_the_bound : checked (thousands (pos 1001)) ≡ Err (refusal 13 1 0)
  pub no_such_column : checked (sum (pos 0) (pos 1) (bag (pos 1)) (col (pos 1))) ≡ Err (refusal 11 3 0)
