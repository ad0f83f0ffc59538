-- The table of words: how each is spelled, what its form gives, how many numbers follow it, and the kinds of its parts.
use Rattle.std.specs.Prelude.{◌≡◌, ℕ, Bool, List, [], ◌∷◌, Some, codes, find, Option}
use Prim.Native.String.{String}
use Rattle.std.specs.Ordering.{on}
use Rattle.std.specs.Str.{bytes_eq}
use Rattle.trees.specs.declared.Kind.{Kind}
use Rattle.trees.specs.declared.Kind.TheVariants.{Term, Condition, Bag, Number}
use Rattle.trees.specs.declared.words.Word.{Word}
use Rattle.trees.specs.declared.words.Word.TheVariants.{Keep, Put, Pool, Col, Lit, Plus, Times, Pick, Less, Equal, Either, Not, Num, Setting, Var, Count, Sum, Add, Sub, Least, Most, Scale, Clip, Let}

-- a line of the table
pub record Entry : Type 0 where
  pub spelling : List ℕ
  pub kind : Kind
  pub numbers : ℕ
  pub parts : List Kind

abbrev row : String → Kind → ℕ → List Kind → Entry
row s k n ks = record { spelling = codes s; kind = k; numbers = n; parts = ks }

-- word: spelling, kind, how many numbers, kinds of the parts in order
abbrev pub entry : Word → Entry
entry Word.Bag = row "bag" Bag 1 []
entry Keep = row "keep" Bag 0 (Bag ∷ Condition ∷ [])
entry Put = row "put" Bag 1 (Bag ∷ Term ∷ [])
entry Pool = row "pool" Bag 0 (Bag ∷ Bag ∷ [])
entry Col = row "col" Term 1 []
entry Lit = row "lit" Term 1 []
entry Plus = row "plus" Term 0 (Term ∷ Term ∷ [])
entry Times = row "times" Term 0 (Term ∷ Term ∷ [])
entry Pick = row "pick" Term 0 (Condition ∷ Term ∷ Term ∷ [])
entry Less = row "less" Condition 0 (Term ∷ Term ∷ [])
entry Equal = row "equal" Condition 0 (Term ∷ Term ∷ [])
entry Either = row "either" Condition 0 (Condition ∷ Condition ∷ [])
entry Not = row "not" Condition 0 (Condition ∷ [])
entry Num = row "num" Number 1 []
entry Setting = row "setting" Number 1 []
entry Var = row "var" Number 1 []
entry Count = row "count" Number 0 (Bag ∷ [])
entry Sum = row "sum" Number 2 (Bag ∷ Term ∷ [])
entry Add = row "add" Number 0 (Number ∷ Number ∷ [])
entry Sub = row "sub" Number 0 (Number ∷ Number ∷ [])
entry Least = row "least" Number 0 (Number ∷ Number ∷ [])
entry Most = row "most" Number 0 (Number ∷ Number ∷ [])
entry Scale = row "scale" Number 1 (Number ∷ [])
entry Clip = row "clip" Number 2 (Number ∷ [])
entry Let = row "let" Number 0 (Number ∷ Number ∷ [])

-- every word once
abbrev pub all_words : List Word
all_words = Word.Bag ∷ Keep ∷ Put ∷ Pool ∷ Col ∷ Lit ∷ Plus ∷ Times ∷ Pick ∷ Less ∷ Equal ∷ Either ∷ Not ∷ Num ∷ Setting ∷ Var ∷ Count ∷ Sum ∷ Add ∷ Sub ∷ Least ∷ Most ∷ Scale ∷ Clip ∷ Let ∷ []

-- whether two words are spelled alike
abbrev pub spelled_alike : Word → Word → Bool
spelled_alike = on (λ w. (entry w).spelling) bytes_eq

-- the first of ws that is spelled bs
abbrev pub spelled_in : List Word → List ℕ → Option Word
spelled_in ws bs = find (λ w. bytes_eq (entry w).spelling bs) ws

-- the word that is spelled bs, if any is
unfoldable pub word_spelled : List ℕ → Option Word
word_spelled bs = spelled_in all_words bs

-- r is the word w exactly when bs is how w is spelled, for every word
abbrev pub Names : List ℕ → Option Word → Type 0
Names bs r = (w : Word) → (r ≡ Some w → bs ≡ (entry w).spelling) × (bs ≡ (entry w).spelling → r ≡ Some w)

-- no two words are spelled alike
abbrev pub SpelledApart : Type 0
SpelledApart = (v w : Word) → (entry v).spelling ≡ (entry w).spelling → v ≡ w
