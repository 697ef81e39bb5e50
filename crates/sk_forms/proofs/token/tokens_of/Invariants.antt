use Rattle.std.proofs.Common.{◌≡◌, ◌++◌, [], map}
use Rattle.sk_forms.specs.Words.{words_behind}
use Rattle.sk_forms.specs.Tokens.{token_of, tokens_of}
use Rattle.sk_forms.proofs.token.tokens_of.Given as goal

-- the tokens so far, and those of the words that are left, are all
abbrev pub invariant-loop-word : goal.invariant-loop-word
invariant-loop-word l = l.tokens.items ++ map token_of (words_behind [] l.word-iterator.0.now) ≡ tokens_of l.text
