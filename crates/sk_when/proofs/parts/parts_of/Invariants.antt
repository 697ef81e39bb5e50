use Rattle.std.proofs.Common.{◌≡◌, ◌+◌, ◌*◌, ◌≤◌, ◌<◌, ◌||◌, true, length}
use Rattle.std.specs.Prelude.{IsSome}
use Rattle.std.specs.List.{All, list_any}
use Rattle.sk_insn.specs.declared.record.Record.{Record}
use Rattle.sk_terms.specs.Lines.{IsMetBy, meets_line}
use Rattle.sk_terms.specs.Numbers.{TellsNoWhole}
use Rattle.sk_when.specs.Pieces.{Fails, HoldsPart, IsShown, SaysOfLine, meets_calls}
use Rattle.sk_when.proofs.parts.parts_of.Given as goal

abbrev pub invariant-loop-line : goal.invariant-loop-line
invariant-loop-line l = record {
  hold : All (HoldsPart l.chains) l.parts.items;
  say : All (SaysOfLine l.chains l.differences.pairs.items) l.line-iterator.rest.items;
  numbers : All (TellsNoWhole l.chains.numbers.first l.chains.numbers.last) l.line-iterator.rest.items;
  cover : (call : Record) → Fails l.chains call → list_any (λ line. meets_line line call) l.initial.line-iterator.rest.items ≡ true
      → (list_any (λ part. meets_calls part.calls call) l.parts.items || list_any (λ line. meets_line line call) l.line-iterator.rest.items) ≡ true;
  met : All (IsMetBy l.differences.calls.items) l.initial.line-iterator.rest.items → All (IsMetBy l.differences.calls.items) l.line-iterator.rest.items;
  values : All (λ line. IsSome line.value) l.initial.line-iterator.rest.items → All (λ line. IsSome line.value) l.line-iterator.rest.items;
  decided : All (IsMetBy l.differences.calls.items) l.initial.line-iterator.rest.items → All (λ line. IsSome line.value) l.initial.line-iterator.rest.items
      → 0 < l.budget.steps → All IsShown l.parts.items;
  left : l.budget.steps ≤ l.initial.budget.steps;
  within : length l.line-iterator.rest.items ≤ length l.initial.line-iterator.rest.items;
  none : length l.line-iterator.rest.items ≡ length l.initial.line-iterator.rest.items → l.initial.budget.steps ≤ l.budget.steps;
  few : length l.line-iterator.rest.items < length l.initial.line-iterator.rest.items → length l.initial.line-iterator.rest.items ≤ 1
      → l.initial.budget.steps ≤ l.budget.steps + 64 * length l.differences.calls.items;
}
