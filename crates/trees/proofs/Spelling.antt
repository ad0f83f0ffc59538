-- A word and its spelling: each is found by the other.
use Rattle.std.proofs.Common.{◌≡◌, ℕ, Bool, true, false, cond, get_or, leb, List, [], ◌∷◌, Some, Option, sym, refl, ap, ◌∙◌}
use Rattle.std.proofs.lemmas.Slice.Eq.{bytes_eq-Decides}
use Rattle.std.proofs.lemmas.Bool.{and_parts, leb-true}
use Rattle.std.proofs.lemmas.List.Elements.{recursion_from_All}
use Rattle.std.proofs.lemmas.List.Sums.{AllPass-from_list_all}
use Rattle.std.specs.List.{AllByRecursion, list_all}
use Rattle.std.specs.Str.{bytes_eq}
use Rattle.std.specs.Int.{IsInRange, is_in_range}
use Rattle.trees.specs.declared.words.Word.{Word}
use Rattle.trees.specs.declared.words.Word.TheVariants.{Bag, Keep, Put, Pool, Col, Lit, Plus, Times, Pick, Less, Equal, Either, Not, Num, Setting, Var, Count, Sum, Add, Sub, Least, Most, Scale, Clip, Let}
use Rattle.trees.specs.Words.{entry, all_words, spelled_in, word_spelled, Names, SpelledApart}

pub found : (w : Word) → word_spelled (entry w).spelling ≡ Some w
unfolding word_spelled
found Bag = refl
found Keep = refl
found Put = refl
found Pool = refl
found Col = refl
found Lit = refl
found Plus = refl
found Times = refl
found Pick = refl
found Less = refl
found Equal = refl
found Either = refl
found Not = refl
found Num = refl
found Setting = refl
found Var = refl
found Count = refl
found Sum = refl
found Add = refl
found Sub = refl
found Least = refl
found Most = refl
found Scale = refl
found Clip = refl
found Let = refl

pub spelled_apart : SpelledApart
spelled_apart v w e =
    let p = found v in
    let q = found w in
    let f = ap word_spelled e in
    cc

spelled_by : (v w : Word) (bs : List ℕ) (o : Option Word) → (o ≡ Some w → bs ≡ (entry w).spelling) → (t : Bool) → bytes_eq (entry v).spelling bs ≡ t → cond t (Some v) o ≡ Some w → bs ≡ (entry w).spelling
spelled_by v w bs o later true s e =
    let h : (entry v).spelling ≡ bs = (bytes_eq-Decides (entry v).spelling bs).0 s in
    let same : v ≡ w = cc in
    sym h ∙ ap (λ (x : Word). (entry x).spelling) same
spelled_by v w bs o later false s e = later e

pub found_spelling : (ws : List Word) (bs : List ℕ) (w : Word) → spelled_in ws bs ≡ Some w → bs ≡ (entry w).spelling
found_spelling [] bs w e = cc
found_spelling (v ∷ ws) bs w e = spelled_by v w bs (spelled_in ws bs) (found_spelling ws bs w) (bytes_eq (entry v).spelling bs) refl e

pub names : (bs : List ℕ) → Names bs (word_spelled bs)
unfolding word_spelled
names bs w = (found_spelling all_words bs w, λ e. ap word_spelled e ∙ found w)

pass_by : (test : Word → Bool) (v w : Word) (o : Option Word) → test v ≡ true → (o ≡ Some w → test w ≡ true) → (t : Bool) → cond t (Some v) o ≡ Some w → test w ≡ true
pass_by test v w o passes later true e = let same : v ≡ w = cc in sym (ap test same) ∙ passes
pass_by test v w o passes later false e = later e

found_passes : (test : Word → Bool) (ws : List Word) (bs : List ℕ) (w : Word) → list_all test ws ≡ true → spelled_in ws bs ≡ Some w → test w ≡ true
found_passes test [] bs w all e = cc
found_passes test (v ∷ ws) bs w all e =
    let (here, later) = and_parts (test v) (list_all test ws) all in
    pass_by test v w (spelled_in ws bs) here (found_passes test ws bs w later) (bytes_eq (entry v).spelling bs) e

-- what a test over the table tells holds of every word
pub each_word : (test : Word → Bool) → list_all test all_words ≡ true → (w : Word) → test w ≡ true
unfolding word_spelled
each_word test all w = found_passes test all_words (entry w).spelling w all (found w)

-- a word is spelled with lower-case letters
pub letters : (w : Word) → AllByRecursion (IsInRange 97 122) (entry w).spelling
letters w =
    let passes = AllPass-from_list_all (is_in_range 97 122) (entry w).spelling (each_word (λ v. list_all (is_in_range 97 122) (entry v).spelling) refl w) in
    recursion_from_All (IsInRange 97 122) (entry w).spelling
    (λ k d lt.
    let c : ℕ = get_or (entry w).spelling k d in
    let (lo, hi) = and_parts (leb 97 c) (leb c 122) (passes k d lt) in
    (leb-true 97 c lo, leb-true c 122 hi))
