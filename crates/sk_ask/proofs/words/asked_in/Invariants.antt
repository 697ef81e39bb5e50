use Rattle.std.proofs.Common.{◌≡◌, map, length, string_bytes}
use Rattle.sk_ask.specs.Asking.{asked_of, nothing_asked}
use Rattle.sk_ask.specs.Asked.{question_of}
use Rattle.sk_ask.proofs.words.asked_in.Given as goal

abbrev pub invariant-loop-text : goal.invariant-loop-text
invariant-loop-text l = asked_of (question_of l.asked) (map string_bytes l.rest) ≡ asked_of (nothing_asked l.fn.word) (map string_bytes l.words)

abbrev pub decreases-loop-text : goal.decreases-loop-text
decreases-loop-text l = length l.rest
