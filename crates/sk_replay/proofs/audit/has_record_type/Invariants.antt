use Rattle.std.proofs.Common.{◌≡◌}
use Rattle.std.specs.List.{list_any}
use Rattle.sk_text.specs.Lines.{words_of}
use Rattle.sk_replay.specs.AuditRecords.{is_record_type}
use Rattle.sk_replay.proofs.audit.has_record_type.Given as goal

-- the words that are left have a type where all of them have
abbrev pub invariant-loop-word : goal.invariant-loop-word
invariant-loop-word l = list_any is_record_type (words_of l.words.0.now) ≡ list_any is_record_type (words_of l.initial.words.0.now)
