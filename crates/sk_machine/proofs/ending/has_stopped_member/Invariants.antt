use Rattle.std.proofs.Common.{◌≡◌, ◌-◌, ◌≤◌, ◌&&◌, ℕ, false}
use Rattle.sk_world.specs.World.{at, is_stopped, is_member_of}
use Rattle.sk_machine.proofs.ending.has_stopped_member.Given as goal

abbrev pub invariant-loop-pid : goal.invariant-loop-pid
invariant-loop-pid g l =
    (q : ℕ) → q ≤ l.after
    → (is_stopped (at (g.S.ProcStore.contents l.store) q) && is_member_of l.group (at (g.S.ProcStore.contents l.store) q)) ≡ false

abbrev pub decreases-loop-pid : goal.decreases-loop-pid
decreases-loop-pid g l = 32767 - l.after
