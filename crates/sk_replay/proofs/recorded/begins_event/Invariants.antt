use Rattle.std.proofs.Common.{◌≡◌}
use Rattle.sk_text.specs.Lines.{words_of}
use Rattle.sk_replay.specs.Lines.{begins_event}
use Rattle.sk_replay.proofs.recorded.begins_event.Given as goal

-- the words that are left begin an event where all of them do
abbrev pub invariant-loop-word : goal.invariant-loop-word
invariant-loop-word l = begins_event (words_of l.words.0.now) ≡ begins_event (words_of l.initial.words.0.now)
