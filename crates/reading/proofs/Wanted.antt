-- A form has at most three parts.
use Rattle.std.proofs.Common.{◌≤◌, leb, length, refl}
use Rattle.std.proofs.lemmas.Bool.{leb-true}
use Rattle.trees.proofs.Spelling.{each_word}
use Rattle.trees.specs.declared.words.Word.{Word}
use Rattle.trees.specs.Words.{entry}

pub three_parts : (w : Word) → length (entry w).parts ≤ 3
three_parts w = leb-true (length (entry w).parts) 3 (each_word (λ v. leb (length (entry v).parts) 3) refl w)
