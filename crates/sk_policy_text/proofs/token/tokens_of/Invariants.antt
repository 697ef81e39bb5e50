use Rattle.std.proofs.Common.{◌≡◌, take}
use Rattle.sk_policy_text.specs.ConditionsTokens.{tokens_of}
use Rattle.sk_policy_text.proofs.token.tokens_of.Given as goal

abbrev pub invariant-loop-word : goal.invariant-loop-word
invariant-loop-word l = l.tokens.items ≡ tokens_of (take l.word-index l.words)
