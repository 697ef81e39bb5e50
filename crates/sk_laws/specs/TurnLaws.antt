-- Laws on turns: whose turn it is can run, who can run has the event that it needs, and who cannot does nothing.
use Rattle.std.specs.Prelude.{ℕ, ◌≡◌, ◌<◌, ◌≤◌, ◌⊎◌, ◌↔◌, false, IsTrue, List, None, Some}
use Rattle.sk_laws.specs.Common.{is_some, World, Event, Resumed, Waits, pid_of, Images, reason_of, step_of, world_after, is_runnable, need_of, need_met_by, next_of}

-- it is the turn of this process: it can run, and it is the least that can above the one that ran last, or,
-- where none above can, the least of all that can
abbrev pub IsTurn : World → ℕ → ℕ → Type 0
IsTurn w last pid = record {
  runs : IsTrue (is_runnable w pid);
  least : ((last < pid) × ((k : ℕ) → IsTrue (is_runnable w k) → last < k → pid ≤ k)) ⊎ ((k : ℕ) → IsTrue (is_runnable w k) → (k ≤ last) × (pid ≤ k));
}

-- who is next has the turn
abbrev pub NextIsTurn : Type 0
NextIsTurn = (w : World) (last pid : ℕ) → next_of w last ≡ Some pid → IsTurn w last pid

-- nobody is next only where nobody can run
abbrev pub NobodysTurn : Type 0
NobodysTurn = (w : World) (last : ℕ) → next_of w last ≡ None → (pid : ℕ) → is_runnable w pid ≡ false

-- of a process that can run those events are possible that meet its need, and no others
abbrev pub RunnableHasEvent : Type 0
RunnableHasEvent =
    (w : World) (event : Event) → IsTrue (is_runnable w (pid_of event))
    → (reason_of w event ≡ None) ↔ (need_met_by event ≡ need_of w (pid_of event))

-- an event of a process that cannot run is not possible, or the call that it waits in goes on waiting and
-- the world stays as it is
abbrev pub IdleDoesNothing : Type 0
IdleDoesNothing =
    (declared : Images) (w : World) (event : Event) → is_runnable w (pid_of event) ≡ false
    → IsTrue (is_some (reason_of w event)) ⊎ (step_of declared w event ≡ record { answer = Resumed Waits; world = w })

-- so where it is nobody's turn no list of events changes anything
abbrev pub EndIsFinal : Type 0
EndIsFinal = (declared : Images) (w : World) (last : ℕ) (events : List Event) → next_of w last ≡ None → world_after declared w events ≡ w
