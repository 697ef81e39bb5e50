-- Laws on the process machine: what leaves the world as it is, and that every event keeps its rules.
use Rattle.std.specs.Prelude.{ℕ, negsuc, ◌≡◌, ◌≢◌, Bool, true, false, IsTrue, List, Some, None}
use Rattle.sk_laws.specs.Common.{is_some, Record, Action, action_of, SIGSYS, INIT, Body, World, at, is_alive, is_halted, opening, IsWorld, forced, is_subreaper, new_parent, ended_and_hung_up, Event, Answer, Outcome, Returned, Trapped, Ended, Reason, Waiting, pid_of, Images, performed, resumed, delivered, reason_of, step_of, halted_of, world_after}

-- an event that is not possible answers with the first reason, and changes nothing
abbrev pub ImpossibleChangesNothing : Type 0
ImpossibleChangesNothing =
    (declared : Images) (w : World) (event : Event) (reason : Reason) → reason_of w event ≡ Some reason
    → step_of declared w event ≡ record { answer = Answer.NotNow reason; world = w }

-- an event that is possible happens
abbrev pub PossibleHappens : Type 0
PossibleHappens =
    (declared : Images) (w : World) (event : Event) (reason : Reason) → reason_of w event ≡ None → (step_of declared w event).answer ≢ Answer.NotNow reason

-- an action of a filter that refuses the call and does nothing else: seccomp(2)
abbrev pub only_refuses : Action → Bool
only_refuses Action.Errno = true
only_refuses Action.UserNotif = true
only_refuses Action.Trace = true
only_refuses Action.KillProcess = false
only_refuses Action.KillThread = false
only_refuses Action.Trap = false
only_refuses Action.Log = false
only_refuses Action.Allow = false
only_refuses Action.Unknown = false

-- a call that is refused so changes nothing
abbrev pub RefusedChangesNothing : Type 0
RefusedChangesNothing =
    (declared : Images) (w : World) (event : Event) (verdict : ℕ) (outcome : Outcome) → (step_of declared w event).answer ≡ Answer.Call verdict outcome
    → IsTrue (only_refuses (action_of verdict)) → (step_of declared w event).world ≡ w

-- SECCOMP_RET_TRAP forces SIGSYS on the caller, and does nothing else: seccomp(2)
abbrev pub TrapForcesSigsys : Type 0
TrapForcesSigsys =
    (declared : Images) (w : World) (event : Event) (verdict : ℕ) (outcome : Outcome) → (step_of declared w event).answer ≡ Answer.Call verdict outcome
    → action_of verdict ≡ Action.Trap → step_of declared w event ≡ record { answer = Answer.Call verdict Trapped; world = forced w (pid_of event) }

-- an action of a filter that ends the caller: the two kills, and every action that has no name: seccomp(2)
abbrev pub ends_caller : Action → Bool
ends_caller Action.KillProcess = true
ends_caller Action.KillThread = true
ends_caller Action.Unknown = true
ends_caller Action.Errno = false
ends_caller Action.UserNotif = false
ends_caller Action.Trace = false
ends_caller Action.Trap = false
ends_caller Action.Log = false
ends_caller Action.Allow = false

-- it ends as by SIGSYS, and nothing else is done
abbrev pub KillEndsCaller : Type 0
KillEndsCaller =
    (declared : Images) (w : World) (event : Event) (verdict : ℕ) (outcome : Outcome) → (step_of declared w event).answer ≡ Answer.Call verdict outcome
    → IsTrue (ends_caller (action_of verdict))
    → step_of declared w event ≡ record { answer = Answer.Call verdict (Ended SIGSYS); world = ended_and_hung_up w (pid_of event) SIGSYS }

-- a call that answers an error, a filter's or its own, changes nothing
abbrev pub FailedChangesNothing : Type 0
FailedChangesNothing =
    (declared : Images) (w : World) (event : Event) (verdict n : ℕ) → (step_of declared w event).answer ≡ Answer.Call verdict (Returned (negsuc n))
    → (step_of declared w event).world ≡ w

-- a performed call of a process that is alive keeps the rules of the world
abbrev pub CallKeepsRules : Type 0
CallKeepsRules =
    (declared : Images) (w : World) (pid : ℕ) (body : Body) (call : Record) → IsWorld w → IsTrue (is_alive (at w pid))
    → IsWorld (performed declared w pid body call).world

-- so does the delivery of a signal to it
abbrev pub DeliveryKeepsRules : Type 0
DeliveryKeepsRules =
    (w : World) (pid : ℕ) (body : Body) (n : ℕ) → IsWorld w → IsTrue (is_alive (at w pid)) → IsWorld (delivered w pid body n).world

-- so does a call in which it waits
abbrev pub ResumptionKeepsRules : Type 0
ResumptionKeepsRules = (w : World) (pid : ℕ) (waiting : Waiting) → IsWorld w → IsTrue (is_alive (at w pid)) → IsWorld (resumed w pid waiting).world

-- so does every event
abbrev pub EventKeepsRules : Type 0
EventKeepsRules = (declared : Images) (w : World) (event : Event) → IsWorld w → IsWorld (step_of declared w event).world

-- and every list of events
abbrev pub RunKeepsRules : Type 0
RunKeepsRules = (declared : Images) (w : World) (events : List Event) → IsWorld w → IsWorld (world_after declared w events)

-- so the rules hold of every world that the system can come to
abbrev pub ReachedHasRules : Type 0
ReachedHasRules = (declared : Images) (events : List Event) → IsWorld (world_after declared opening events)

-- the status of a halted system is there exactly where it has halted
abbrev pub HaltHasStatus : Type 0
HaltHasStatus = (w : World) → is_some (halted_of w) ≡ is_halted w

-- nobody is a subreaper
abbrev pub HasNoSubreapers : World → Type 0
HasNoSubreapers w = (pid : ℕ) → is_subreaper (at w pid) ≡ false

-- where there are no subreapers no event makes one: prctl(2), PR_SET_CHILD_SUBREAPER
abbrev pub EventMarksNobody : Type 0
EventMarksNobody =
    (declared : Images) (w : World) (event : Event) → declared.subreapers ≡ false → HasNoSubreapers w → HasNoSubreapers (step_of declared w event).world

-- nor does any list of events
abbrev pub RunMarksNobody : Type 0
RunMarksNobody =
    (declared : Images) (w : World) (events : List Event) → declared.subreapers ≡ false → HasNoSubreapers w → HasNoSubreapers (world_after declared w events)

-- so there is none in any world that the system then comes to
abbrev pub NobodyIsMarked : Type 0
NobodyIsMarked = (declared : Images) (events : List Event) → declared.subreapers ≡ false → HasNoSubreapers (world_after declared opening events)

-- where nobody is a subreaper the children of each process go to process 1: wait(2), "Notes"
abbrev pub InitTakesOrphans : Type 0
InitTakesOrphans = (w : World) (pid : ℕ) → HasNoSubreapers w → new_parent w pid ≡ INIT

-- so without subreapers they go to process 1 in every world that the system comes to, as if there were no such mark
abbrev pub OrphansGoToInit : Type 0
OrphansGoToInit = (declared : Images) (events : List Event) (pid : ℕ) → declared.subreapers ≡ false → new_parent (world_after declared opening events) pid ≡ INIT
