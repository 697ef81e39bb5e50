use Rattle.std.proofs.Common.{length, drop, ◌≡◌, ◌-◌, ◌≤◌}
use Rattle.sk_filter.specs.Verdict.{values_of}
use Rattle.sk_show.proofs.Newer.{IsNotBefore}
use Rattle.sk_show.proofs.example.answering.Given as goal

-- what is left are the older ones, and no newer one answers the value
abbrev pub invariant-loop-program : goal.invariant-loop-program
invariant-loop-program l = record {
  rest : l.program-iterator ≡ drop (length l.chain - l.older) l.chain;
  older : l.older ≤ length l.chain;
  none : IsNotBefore (values_of l.chain l.call) l.value (length l.chain - l.older);
}
