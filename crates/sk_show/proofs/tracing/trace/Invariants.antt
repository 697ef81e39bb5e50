use Rattle.std.proofs.Common.{ℕ, ◌≡◌, ◌++◌, ◌<◌, ◌-◌, length}
use Rattle.sk_show.specs.Runs.{ComesTo}
use Rattle.sk_show.specs.Tracing.{state_of}
use Rattle.sk_show.specs.Paths.{path_of, steps_from}
use Rattle.sk_show.proofs.tracing.trace.Given as goal

abbrev pub invariant-loop-skip : goal.invariant-loop-skip
invariant-loop-skip l = record {
  inside : l.place < length l.insns;
  comes : (count : ℕ) × ComesTo l.insns l.call count l.place (state_of l.run);
  path : l.steps.items ++ steps_from l.insns 0 l.place l.call (state_of l.run) ≡ path_of l.insns l.call;
}

abbrev pub decreases-loop-skip : goal.decreases-loop-skip
decreases-loop-skip l = length l.insns - l.place
