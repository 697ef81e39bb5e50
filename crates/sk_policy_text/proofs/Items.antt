-- The items of a row are read one by one.
use Rattle.std.proofs.Common.{◌+◌, ℕ, List, ◌++◌, length, Option, Some, None, Result, Ok, Bor}
use Rattle.sk_policy_text.specs.declared.sentence.Range.{Range}
use Rattle.sk_policy_text.specs.declared.stop.Stop.{Stop}
use Rattle.sk_policy_text.specs.declared.word.Word.{Word as CodeWord}
use Rattle.sk_policy_text.specs.Sentences.{◌>>=◌}

-- these ranges before others
abbrev pub behind_ranges : List Range → Result (List Range) Stop → Result (List Range) Stop
behind_ranges ranges others = others >>= λ more. Ok (ranges ++ more)

-- how many words are left
abbrev pub words_in : Option (Bor (List CodeWord)) → ℕ
words_in None = 0
words_in (Some words) = 1 + length words.now
