-- Laws on what wait4(2) tells: of whom, to whom, and how often.
use Rattle.std.specs.Prelude.{ℕ, ◌≡◌, ◌%◌, ◌<◌, IsTrue, List, [], Option, None, Some}
use Rattle.sk_laws.specs.Common.{list_any, Zombie, Proc, World, at, Event, Answer, Outcome, Returned, Told, Ids, Waits, Trapped, Ended, Executed, Images, pid_of, step_of, world_after, is_fork_of, history_after}
use Rattle.sk_machine.specs.declared.answer.Outcome.TheVariants.{Signals}

-- the child and the status that are told, if any are
abbrev pub told_in : Outcome → Option (ℕ × ℕ)
told_in (Told child status) = Some (child, status)
told_in (Returned n) = None
told_in (Ids real effective saved) = None
told_in (Signals pending) = None
told_in Waits = None
told_in Trapped = None
told_in (Ended status) = None
told_in Executed = None

-- the child and the status that an answer tells, if it tells any
abbrev pub told_by : Answer → Option (ℕ × ℕ)
told_by (Answer.Call verdict outcome) = told_in outcome
told_by (Answer.Resumed outcome) = told_in outcome
told_by (Answer.Signal n effect) = None
told_by Answer.Crashed = None
told_by (Answer.NotNow reason) = None

-- the status is that of a process that has ended: wait(2), WIFEXITED and WIFSIGNALED
abbrev pub IsEnd : ℕ → Type 0
IsEnd status = status % 256 < 32

-- the process is a child of this one, and has ended with this status
pub record HasEndedUnder (caller status : ℕ) (p : Proc) : Type 0 where
  pub life : p.body.life ≡ Zombie status
  pub parent : p.links.parent ≡ caller

-- an end is told to the parent of a zombie, with the zombie's status, and then the zombie is gone
abbrev pub EndIsToldToParent : Type 0
EndIsToldToParent =
    (declared : Images) (w : World) (event : Event) (child status : ℕ) → told_by (step_of declared w event).answer ≡ Some (child, status) → IsEnd status
    → (p : Proc) × (at w child ≡ Some p) × HasEndedUnder (pid_of event) status p × (at (step_of declared w event).world child ≡ None)

-- an end is told once: before anything is told of the same pid again stands a fork that has given it
abbrev pub EndIsToldOnce : Type 0
EndIsToldOnce =
    (declared : Images) (w : World) (first : Event) (between : List Event) (later : Event) (child status again : ℕ)
    → told_by (step_of declared w first).answer ≡ Some (child, status) → IsEnd status
    → told_by (step_of declared (world_after declared (step_of declared w first).world between) later).answer ≡ Some (child, again)
    → IsTrue (list_any (is_fork_of child) (history_after declared (step_of declared w first).world between []))
