use Rattle.std.proofs.Common.{◌≡◌, length}
use Rattle.sk_filter.proofs.ForwardPass.{Counts, NoneUnstored}
use Rattle.sk_filter.proofs.pass.first_unstored.Given as goal

abbrev pub invariant-loop-at : goal.invariant-loop-at
invariant-loop-at l = record {
  room : length l.stored ≡ 4096;
  counts : Counts l.insns l.at l.stored;
  stored : NoneUnstored l.insns l.at;
}
