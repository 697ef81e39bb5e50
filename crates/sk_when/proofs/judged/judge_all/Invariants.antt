use Rattle.std.proofs.Common.{◌≡◌, ◌++◌, map, take}
use Rattle.sk_when.specs.Verdicts.{judged_of}
use Rattle.sk_when.proofs.judged.judge_all.Given as goal

abbrev pub invariant-loop-call : goal.invariant-loop-call
invariant-loop-call l = l.judged.items ≡ l.initial.judged.items ++ map (judged_of l.chain) (take l.call-index l.calls)
