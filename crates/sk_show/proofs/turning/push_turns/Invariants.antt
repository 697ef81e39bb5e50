use Rattle.std.proofs.Common.{length, ◌-◌, ◌≤◌}
use Rattle.sk_show.proofs.turning.push_turns.Given as goal

abbrev pub invariant-loop-place : goal.invariant-loop-place
invariant-loop-place l = record { few : length l.calls.items ≤ 512 }

abbrev pub decreases-loop-place : goal.decreases-loop-place
decreases-loop-place l = length l.insns - l.place
