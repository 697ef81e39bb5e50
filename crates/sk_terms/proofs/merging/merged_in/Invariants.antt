use Rattle.std.proofs.Common.{◌≡◌, ◌≤◌, ◌++◌, List, length}
use Rattle.std.specs.List.{All}
use Rattle.sk_insn.specs.declared.record.Record.{Record}
use Rattle.sk_terms.specs.Lines.{told_by, IsMetBy, MeetAlike}
use Rattle.sk_terms.proofs.merging.merged_in.Given as goal

abbrev pub invariant-loop-line : goal.invariant-loop-line
invariant-loop-line l = record {
  told : (call : Record) → length (told_by l.initial.line-iterator.rest.items call) ≤ 1
      → told_by l.merged.items call ++ told_by l.line-iterator.rest.items call ≡ told_by l.initial.line-iterator.rest.items call;
  met : (calls : List Record) → All (IsMetBy calls) l.initial.line-iterator.rest.items
      → All (IsMetBy calls) l.merged.items × All (IsMetBy calls) l.line-iterator.rest.items;
  alike : (one other : Record) → All (MeetAlike one other) l.initial.line-iterator.rest.items
      → All (MeetAlike one other) l.merged.items × All (MeetAlike one other) l.line-iterator.rest.items;
}
