use Rattle.std.proofs.Common.{◌≡◌, ◌++◌, List}
use Rattle.std.specs.List.{All}
use Rattle.sk_insn.specs.declared.record.Record.{Record}
use Rattle.sk_terms.specs.Lines.{told_by, IsMetBy, MeetAlike}
use Rattle.sk_terms.proofs.lines.all_written.Given as goal

abbrev pub invariant-loop-line : goal.invariant-loop-line
invariant-loop-line l = record {
  told : (call : Record) → told_by l.all.items call ++ told_by l.line-iterator.rest.items call ≡ told_by l.initial.line-iterator.rest.items call;
  met : (calls : List Record) → All (IsMetBy calls) l.initial.line-iterator.rest.items → All (IsMetBy calls) l.all.items × All (IsMetBy calls) l.line-iterator.rest.items;
  alike : (one other : Record) → All (MeetAlike one other) l.initial.line-iterator.rest.items
      → All (MeetAlike one other) l.all.items × All (MeetAlike one other) l.line-iterator.rest.items;
}
