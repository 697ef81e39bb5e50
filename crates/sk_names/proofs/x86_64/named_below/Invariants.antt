use Rattle.std.proofs.Common.{◌≡◌, ◌++◌, ◌-◌}
use Rattle.sk_names.specs.X86_64.{named_from}
use Rattle.sk_names.proofs.x86_64.named_below.Given as goal

abbrev pub invariant-loop-nr : goal.invariant-loop-nr
invariant-loop-nr l = l.numbers.items ++ named_from (l.count - l.nr) l.nr ≡ named_from l.count 0
