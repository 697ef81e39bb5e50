use Rattle.std.proofs.Common.{take}
use Rattle.sk_replay.proofs.SeenShown.{AreShown}
use Rattle.sk_replay.proofs.seen.seen_numbers.Given as goal

-- the numbers that are there are those of the calls that are done
abbrev pub invariant-loop-call : goal.invariant-loop-call
invariant-loop-call l = AreShown (take l.call-index l.calls) l.nr l.argument l.mask l.numbers.keys
