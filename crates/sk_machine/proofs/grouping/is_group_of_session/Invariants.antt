use Rattle.std.proofs.Common.{◌≡◌, ◌-◌, ◌≤◌, ◌==◌, ◌&&◌, ℕ, false}
use Rattle.sk_world.specs.World.{at, is_member_of}
use Rattle.sk_machine.specs.Sessions.{session_of}
use Rattle.sk_machine.proofs.grouping.is_group_of_session.Given as goal

abbrev pub invariant-loop-pid : goal.invariant-loop-pid
invariant-loop-pid g l =
    (q : ℕ) → q ≤ l.after
    → (is_member_of l.group (at (g.S.ProcStore.contents l.store) q) && (session_of (at (g.S.ProcStore.contents l.store) q) == l.session)) ≡ false

abbrev pub decreases-loop-pid : goal.decreases-loop-pid
decreases-loop-pid g l = 32767 - l.after
