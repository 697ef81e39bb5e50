-- Each worked run of groups and sessions is what the definitions compute.
use Rattle.std.proofs.Common.{refl, ◌≡◌, ◌∙◌, ℕ, ap, List, [], ◌∷◌, None, Some}
use Rattle.sk_laws.proofs.Computing.{worked_runs}
use Rattle.sk_laws.specs.Common.{native, action_of, step_of, reason_of, world_after, World, at, opening, Event}
use Rattle.sk_laws.specs.WorkedGroups.{ChangesNothingConfined, WorkedGroups, no_kill, confinement, confined_kills}
use Rattle.sk_laws.specs.Scripts.{kill, after, events_of, minus}
use Rattle.sk_laws.proofs.Stepping.{verdict_by, by_verdict}

-- a kill(2) that the filters answer with EPERM changes nothing
refuses : (w : World) (pid who : ℕ) → reason_of w (kill pid who 9) ≡ None
    → verdict_by (native 62 0 (who ∷ 9 ∷ 0 ∷ 0 ∷ 0 ∷ 0 ∷ [])) (at w pid) ≡ Some 0x00050001 → (step_of no_kill w (kill pid who 9)).world ≡ w
unfolding action_of
refuses w pid who possible is = by_verdict no_kill w pid 0 (record { nr = 62; args = who ∷ 9 ∷ 0 ∷ 0 ∷ 0 ∷ 0 ∷ [] }) 0x00050001 (λ s. s.world ≡ w) possible is (λ body. refl)

-- nor does any of these events
abbrev EachChangesNothing : World → List Event → Type 0
EachChangesNothing w [] = Unit {0}
EachChangesNothing w (event ∷ events) = ((step_of no_kill w event).world ≡ w) × EachChangesNothing w events

stays : (w : World) (events : List Event) → EachChangesNothing w events → world_after no_kill w events ≡ w
stays w [] each = refl
stays w (event ∷ events) each = ap (λ v. world_after no_kill v events) each.0 ∙ stays w events each.1

changes_nothing_confined : ChangesNothingConfined
unfolding worked_runs
changes_nothing_confined =
    let w : World = after no_kill opening confinement in
    stays w (events_of confined_kills) (
      refuses w 2 4 refl refl,
      (refuses w 2 (minus 1) refl refl, (refuses w 2 0 refl refl, (refuses w 3 4 refl refl, (refuses w 3 (minus 1) refl refl, (refuses w 3 0 refl refl, tt))))),
    )

pub worked_groups : WorkedGroups
unfolding worked_runs
worked_groups = record {
  kills_by_ids = refl;
  continues_within_session = refl;
  regroups_child = refl;
  refuses_to_regroup = refl;
  founds_session = refl;
  kills_nobody = refl;
  kills_groups = refl;
  finds_zombie = refl;
  leaves_zombie = refl;
  leaves_sender = refl;
  confines_kill = refl;
  changes_nothing_confined = changes_nothing_confined;
  ends_confined = refl;
}
