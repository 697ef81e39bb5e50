use Rattle.std.proofs.Common.{ℕ, ◌<◌, ◌-◌, length}
use Rattle.sk_show.specs.Runs.{ComesTo}
use Rattle.sk_show.specs.Tracing.{state_of}
use Rattle.sk_show.proofs.turning.end_of.Given as goal

abbrev pub invariant-loop-skip : goal.invariant-loop-skip
invariant-loop-skip l = record {
  inside : l.place < length l.insns;
  comes : (steps : ℕ) × ComesTo l.insns l.call steps l.place (state_of l.run);
}

abbrev pub decreases-loop-skip : goal.decreases-loop-skip
decreases-loop-skip l = length l.insns - l.place
