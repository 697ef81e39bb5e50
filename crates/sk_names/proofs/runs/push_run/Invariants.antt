use Rattle.std.proofs.Common.{◌≡◌, ◌++◌, ◌-◌}
use Rattle.std.specs.List.{range_with_len}
use Rattle.sk_names.proofs.runs.push_run.Given as goal

abbrev pub invariant-loop-number : goal.invariant-loop-number
invariant-loop-number l =
    l.numbers.items ++ range_with_len l.number (l.number-end - l.number) ≡ l.fn.numbers.items ++ range_with_len l.first (l.number-end - l.first)
