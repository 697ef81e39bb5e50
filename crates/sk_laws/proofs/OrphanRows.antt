-- Each worked run of orphaned groups is what the definitions compute.
use Rattle.std.proofs.Common.{refl, ◌≡◌, ◌≢◌, ℕ, None, Some, [], ◌∷◌}
use Rattle.sk_laws.proofs.Computing.{worked_runs}
use Rattle.sk_laws.specs.Common.{native, action_of, step_of, reason_of, World, at, INIT}
use Rattle.sk_laws.specs.WorkedOrphans.{HaltHangsUpNobody, WorkedOrphans, leaderless}
use Rattle.sk_world.proofs.Stored.{at_other}
use Rattle.sk_laws.specs.Scripts.{nothing_given, exit}
use Rattle.sk_laws.proofs.Stepping.{verdict_by, by_verdict}

-- an exit(2) of process 1 leaves every other one
exits_alone : (w : World) (code q : ℕ) → q ≢ INIT → reason_of w (exit 1 code) ≡ None
    → verdict_by (native 60 0 (code ∷ 0 ∷ 0 ∷ 0 ∷ 0 ∷ 0 ∷ [])) (at w 1) ≡ Some 0x7fff0000 → at (step_of nothing_given w (exit 1 code)).world q ≡ at w q
unfolding action_of
exits_alone w code q other possible is =
    by_verdict nothing_given w 1 0 (record { nr = 60; args = code ∷ 0 ∷ 0 ∷ 0 ∷ 0 ∷ 0 ∷ [] }) 0x7fff0000 (λ s. at s.world q ≡ at w q) possible is (λ body. at_other w INIT _ q other)

halt_hangs_up_nobody : HaltHangsUpNobody
unfolding worked_runs
halt_hangs_up_nobody = exits_alone leaderless 0 2 (λ e. cc) refl refl

pub worked_orphans : WorkedOrphans
unfolding worked_runs
worked_orphans = record {
  hangs_up_job = refl;
  turns_of_job = refl;
  ignores_terminal_stop = refl;
  turns_of_unstopped = refl;
  stops_by_sigstop_alone = refl;
  stops_where_tied = refl;
  hangs_up_each_group = refl;
  spares_running_groups = refl;
  spares_where_stopped_one_ends = refl;
  spares_orphaned_before = refl;
  spares_tied_groups = refl;
  counts_no_zombies = refl;
  continues_group = refl;
  announces_to_new_parent = refl;
  hangs_up_after_filter_kill = refl;
  hangs_up_after_other_kills = refl;
  hangs_up_after_crash = refl;
  hangs_up_after_signal = refl;
  hangs_up_without_room_for_frame = refl;
  halt_hangs_up_nobody = halt_hangs_up_nobody;
}
