-- Notes from the first place on, and blank places behind them.
use Rattle.std.proofs.Common.{◌≡◌, ℕ, ◌+◌, List, ◌++◌, length, take, drop, replicate, sym, ap, ◌∙◌, ap₂, append-nil, append_assoc, arith, length-drop}
use borrow.Rule.Slice.PartMut.{mid_of, put_mid}
use Rattle.std.proofs.lemmas.List.{drop_all, length-take-le, replicate-append-replicate, take_at}
use Rattle.typing.specs.Notes.{blank_note, noted_at}
use Rattle.typing.specs.declared.note.Note.{Note}

-- all places from k on are written
pub put_behind : (xs ys : List Note) (k n : ℕ) → k + n ≡ length xs → put_mid k n xs ys ≡ take k xs ++ ys
put_behind xs ys k n e = ap (λ (zs : List Note). take k xs ++ (ys ++ zs)) (drop_all n (drop k xs) (omega (arith, length-drop k xs))) ∙ ap (λ (zs : List Note). take k xs ++ zs) (append-nil ys)

pub length_behind : (xs : List Note) (k n : ℕ) → k + n ≡ length xs → length (mid_of k n xs) ≡ n
length_behind xs k n e = length-take-le n (drop k xs) (omega (arith, length-drop k xs))

pub noted_first : (before ns now_noted : List Note) (k : ℕ) → now_noted ≡ noted_at before 0 ns → k ≡ length ns → take k now_noted ≡ ns
noted_first before ns now_noted k noted at = ap (take k) noted ∙ take_at ns (drop (0 + length ns) before) k (sym at)

-- blank places behind blank places
pub blank_joined : (n m k : ℕ) → n + m ≡ k → replicate n blank_note ++ replicate m blank_note ≡ replicate k blank_note
blank_joined n m k e = replicate-append-replicate n m blank_note ∙ ap (λ (i : ℕ). replicate i blank_note) e

-- blank places behind notes that have blank places behind them
pub blank_behind : (ns first behind : List Note) (n m k : ℕ) → first ≡ ns ++ replicate n blank_note → behind ≡ replicate m blank_note → n + m ≡ k → first ++ behind ≡ ns ++ replicate k blank_note
blank_behind ns first behind n m k e f sum = ap₂ (λ (a b : List Note). a ++ b) e f ∙ append_assoc ns (replicate n blank_note) (replicate m blank_note) ∙ ap (λ (zs : List Note). ns ++ zs) (blank_joined n m k sum)
