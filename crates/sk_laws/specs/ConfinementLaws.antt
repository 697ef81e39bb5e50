-- Laws on confinement: what a process whose filters refuse kill(2), and those that come from it, can do to
-- all others.
use Rattle.std.specs.Prelude.{ℕ, ◌≡◌, ◌≢◌, ◌<ℤ◌, ◌==◌, not, ◌&&◌, ◌||◌, Bool, true, false, IsTrue, IfSome, List, [], ◌∷◌, Option}
use Rattle.sk_laws.specs.Common.{is_some, option_map, list_all, Insn, Record, IsNative, Syscall, number_of, verdict_of, precedence_of, SIGHUP, SIGCHLD, SIGCONT, INIT, Body, Proc, World, at, parent_of, body_changed, IsWorld, signalled, group_of, is_orphaned, has_stopped_member, Event, Answer, Outcome, Effect, Images, pid_of, step_of, world_after, lineage_before, authority_at}
use Rattle.sk_laws.specs.LineageLaws.{happening, lineage_after}

-- the filters answer every kill(2) of x86-64 with an action that has precedence over SECCOMP_RET_LOG
abbrev pub RefusesKill : List (List Insn) → Type 0
RefusesKill filters = (call : Record) → IsNative call → call.nr ≡ number_of Syscall.Kill → precedence_of (verdict_of filters call) <ℤ precedence_of 0x7ffc0000

-- processes that refuse kill(2), with all their children; process 1 is none of them
pub record IsConfined (w : World) (inside : ℕ → Bool) : Type 0 where
  pub init : inside INIT ≡ false
  pub children : (q : ℕ) → IsTrue (is_some (at w q)) → IsTrue (inside (parent_of (at w q))) → IsTrue (inside q)
  pub refuses : (q : ℕ) → IsTrue (inside q) → IfSome (authority_at w q) (λ a. RefusesKill a.filters)

-- the outcome says that the process whose call it is has ended
abbrev pub is_end : Outcome → Bool
is_end (Outcome.Ended status) = true
is_end (Outcome.Returned n) = false
is_end (Outcome.Told child status) = false
is_end (Outcome.Ids real effective saved) = false
is_end (Outcome.Signals pending) = false
is_end Outcome.Waits = false
is_end Outcome.Trapped = false
is_end Outcome.Executed = false

-- the signal has ended the process
abbrev pub is_end_by_signal : Effect → Bool
is_end_by_signal (Effect.Ended status) = true
is_end_by_signal Effect.Stopped = false
is_end_by_signal Effect.Ignored = false
is_end_by_signal (Effect.Handler program interrupted) = false

-- the signal has stopped the process
abbrev pub is_stop : Effect → Bool
is_stop Effect.Stopped = true
is_stop (Effect.Ended status) = false
is_stop Effect.Ignored = false
is_stop (Effect.Handler program interrupted) = false

-- the event with this answer has ended its process
abbrev pub ends : Answer → Bool
ends (Answer.Call verdict o) = is_end o
ends (Answer.Signal n e) = is_end_by_signal e
ends (Answer.Resumed o) = is_end o
ends Answer.Crashed = true
ends (Answer.NotNow reason) = false

-- the event with this answer has stopped its process
abbrev pub stops : Answer → Bool
stops (Answer.Signal n e) = is_stop e
stops (Answer.Call verdict o) = false
stops (Answer.Resumed o) = false
stops Answer.Crashed = false
stops (Answer.NotNow reason) = false

-- a process after these signals, one after the other
abbrev pub after_signals : Bool → List ℕ → Body → Body
after_signals init [] body = body
after_signals init (n ∷ rest) body = after_signals init rest (signalled n init body)

-- the process of this pid is the one before after none or more signals that pass the test, and nothing else
abbrev pub IsTold : (ℕ → Bool) → ℕ → Option Proc → Option Proc → Type 0
IsTold may_come q before now =
    (signals : List ℕ) × IsTrue (list_all may_come signals) × (now ≡ option_map (body_changed (after_signals (q == INIT) signals)) before)

-- a signal that a stop sends to a process: SIGCHLD, to the parent of the one that stops: wait(2)
abbrev pub is_of_stop : Bool → ℕ → Bool
is_of_stop to_parent n = to_parent && (n == SIGCHLD)

-- a signal that an end sends to a process: SIGCHLD; and SIGHUP and SIGCONT where its group is left orphaned:
-- setpgid(2), credentials(7)
abbrev pub is_of_end : Bool → ℕ → Bool
is_of_end left_orphaned n = (n == SIGCHLD) || (left_orphaned && ((n == SIGHUP) || (n == SIGCONT)))

-- from one world to the next a group with a stopped process has become orphaned
abbrev pub becomes_orphaned : World → World → ℕ → Bool
becomes_orphaned before after group = not (is_orphaned before group) && is_orphaned after group && has_stopped_member before group

-- what an event of process `pid` with this answer, which leads from one world to the next, leaves of a process that
-- it is not meant to touch: all, where it neither ends nor stops its own; at a stop all but for SIGCHLD to the parent;
-- and at an end all but for SIGCHLD, and SIGHUP and SIGCONT to a group that it leaves orphaned
pub record LeavesAlone (w after : World) (pid : ℕ) (a : Answer) (q : ℕ) : Type 0 where
  pub same : ends a ≡ false → stops a ≡ false → at after q ≡ at w q
  pub stop : IsTrue (stops a) → IsTold (is_of_stop (q == parent_of (at w pid))) q (at w q) (at after q)
  pub end : IsTrue (ends a) → IsTold (is_of_end (becomes_orphaned w after (group_of (at w q)))) q (at w q) (at after q)

-- an event of a confined process leaves every other one equal, unless it ends or stops its own process, and
-- then it sends others such signals and does nothing else
abbrev pub EventIsConfined : Type 0
EventIsConfined =
    (declared : Images) (w : World) (event : Event) (inside : ℕ → Bool) (q : ℕ) → IsWorld w → IsConfined w inside
    → IsTrue (inside (pid_of event)) → inside q ≡ false → IsTrue (is_some (at w q))
    → LeavesAlone w (step_of declared w event).world (pid_of event) (step_of declared w event).answer q

-- whoever's event it is: those who come from the confined ones are confined
abbrev pub ConfinementStays : Type 0
ConfinementStays =
    (declared : Images) (w : World) (event : Event) (inside : ℕ → Bool) → IsWorld w → IsConfined w inside
    → IsConfined (step_of declared w event).world (λ q. inside (lineage_before q (happening declared w event)))

-- over any list of events: where a process other than 1 has no child and refuses kill(2), the events of
-- those whose lineage comes from it leave all others alone
abbrev pub LineageIsConfined : Type 0
LineageIsConfined =
    (declared : Images) (w : World) (events : List Event) (event : Event) (root q : ℕ) → IsWorld w → root ≢ INIT
    → ((k : ℕ) → IsTrue (is_some (at w k)) → parent_of (at w k) ≢ root) → IfSome (authority_at w root) (λ a. RefusesKill a.filters)
    → (lineage_after declared w events (pid_of event)).root ≡ root → (lineage_after declared w events q).root ≢ root
    → IsTrue (is_some (at (world_after declared w events) q))
    → LeavesAlone (world_after declared w events) (step_of declared (world_after declared w events) event).world (pid_of event)
    (step_of declared (world_after declared w events) event).answer q
