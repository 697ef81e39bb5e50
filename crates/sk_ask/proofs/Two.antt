-- What is said where not two files are named.
use Rattle.std.proofs.Common.{◌≡◌, ◌++◌, Err, cond, ap, length, codes, [], Ok}
use Rattle.std.proofs.lemmas.Bool.{ne_eqb}
use Rattle.sk_ask.specs.Asking.{Question, two_named, word_name}
use Rattle.sk_ask.specs.Complaints.{of_word}

pub not_two : (asked : Question) → (length asked.names ≡ 2 → ⊥) → two_named asked ≡ Err (of_word (word_name asked.word ++ codes ": expected two FILEs, OLD and NEW") [])
not_two asked other = ap (λ two. cond two (Ok asked) (Err (of_word (word_name asked.word ++ codes ": expected two FILEs, OLD and NEW") []))) (ne_eqb (length asked.names) 2 other)
