use Rattle.std.proofs.Common.{◌≡◌, ◌≤◌, List, length}
use Rattle.std.specs.List.{All}
use Rattle.sk_insn.specs.declared.record.Record.{Record}
use Rattle.sk_terms.specs.Lines.{told_by, IsMetBy, MeetAlike}
use Rattle.sk_terms.proofs.merging.merged_once.Given as goal

abbrev pub invariant-loop-register : goal.invariant-loop-register
invariant-loop-register l = record {
  told : (call : Record) → length (told_by l.initial.merged.items call) ≤ 1 → told_by l.merged.items call ≡ told_by l.initial.merged.items call;
  met : (calls : List Record) → All (IsMetBy calls) l.initial.merged.items → All (IsMetBy calls) l.merged.items;
  alike : (one other : Record) → All (MeetAlike one other) l.initial.merged.items → All (MeetAlike one other) l.merged.items;
}
