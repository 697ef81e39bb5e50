use Rattle.std.proofs.Common.{◌≡◌, ◌++◌, ◌-◌}
use Rattle.sk_arguments.specs.Reading.{narrow_from}
use Rattle.sk_arguments.proofs.reading.push_narrow.Given as goal

abbrev pub invariant-loop-nr : goal.invariant-loop-nr
invariant-loop-nr l = l.numbers.items ++ narrow_from (l.nr-end - l.nr) l.nr ≡ l.fn.numbers.items ++ narrow_from 512 l.first
