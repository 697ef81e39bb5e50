use Rattle.std.proofs.Common.{◌≡◌}
use Rattle.sk_text.specs.Lines.{words_of}
use Rattle.sk_replay.specs.AuditRecords.{has_source_and_type}
use Rattle.sk_replay.proofs.audit.has_source_and_type.Given as goal

-- the words that are left have the type behind where a record comes from, where all of them have
abbrev pub invariant-loop-word : goal.invariant-loop-word
invariant-loop-word l = has_source_and_type (words_of l.words.0.now) ≡ has_source_and_type (words_of l.initial.words.0.now)
