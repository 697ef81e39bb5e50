-- Machines that are wrong, and that the laws on authority refuse by themselves.
use Rattle.std.specs.Prelude.{ℕ, pos, Bool, true, false, if◌then◌else◌, [], Option, None, Some}
use Rattle.sk_laws.specs.Common.{option_map_or, Action, action_of, SIGHUP, INIT, Body, Proc, each, World, at, is_child_of, parent_of, body_changed, changed, sent, Event, Call, Answer, Returned, Executed, Ended, pid_of, recorded, performed, step_of, is_fork_of, Images, Record}
use Rattle.sk_laws.specs.TellingLaws.{told_by}
use Rattle.sk_laws.specs.ConfinementLaws.{ends, stops}
use Rattle.sk_laws.specs.AnyMachine.{Machine, GivesAuthorityByLineage, TellsEndsOnce, KeepsToConfined}

-- the number that a call has returned
abbrev pub number_in : Answer → Option ℕ
number_in (Answer.Call verdict (Returned (pos n))) = Some n
number_in other = None

-- the machine of the definitions, but for the process that a fork has made
abbrev pub with_child : (World → Body → Body) → Machine
with_child f declared w event =
    option_map_or (λ child. if is_fork_of child (event, (step_of declared w event).answer) then record (step_of declared w event) { world = changed (step_of declared w event).world child (f w) } else step_of declared w event)
    (number_in (step_of declared w event).answer) (step_of declared w event)

-- no filter
abbrev pub bare : Body → Body
bare body = record body { chain = [] }

-- fork(2) gives the child no filters
abbrev pub forks_bare : Machine
forks_bare declared w event = with_child (λ before. bare) declared w event

-- fork(2) leaves the child the filters of another process, as one would that finds them in an old slot
abbrev pub forks_into_old : Machine
forks_into_old declared w event = with_child (λ before body. record body { chain = option_map_or (λ p. p.body.chain) (at before INIT) body.chain }) declared w event

-- the call was an execve(2)
abbrev pub has_executed : Answer → Bool
has_executed (Answer.Call verdict Executed) = true
has_executed other = false

-- execve(2) clears the filters
abbrev pub executes_bare : Machine
executes_bare declared w event =
    if has_executed (step_of declared w event).answer then record (step_of declared w event) { world = changed (step_of declared w event).world (pid_of event) bare }
    else step_of declared w event

-- the call has ended its caller
abbrev pub has_ended_caller : Answer → Bool
has_ended_caller (Answer.Call verdict (Ended status)) = true
has_ended_caller other = false

-- an orphan gets the ids of process 1
abbrev pub with_first_ids : World → Event → ℕ → Proc → Option Proc
with_first_ids before event k p =
    Some (
    if is_child_of (pid_of event) (at before k) then body_changed (λ body. record body { creds = option_map_or (λ p. p.body.creds) (at before INIT) body.creds }) p
    else p)

-- so do all children of a process that ends
abbrev pub orphans_with_first_ids : Machine
orphans_with_first_ids declared w event =
    if has_ended_caller (step_of declared w event).answer
    then record (step_of declared w event) { world = record (step_of declared w event).world { procs = each (with_first_ids w event) (step_of declared w event).world.procs } }
    else step_of declared w event

-- wait4(2) leaves the zombie that it tells of
abbrev pub leaves_zombies : Machine
leaves_zombies declared w event = option_map_or (λ told. record (step_of declared w event) { world = w }) (told_by (step_of declared w event).answer) (step_of declared w event)

-- a filter answered the call with an error
abbrev pub is_errno : Action → Bool
is_errno Action.Errno = true
is_errno other = false

-- it was refused so
abbrev pub is_refused : Answer → Bool
is_refused (Answer.Call verdict outcome) = is_errno (action_of verdict)
is_refused other = false

-- the world after a process, if it is there, has performed a call
abbrev pub world_performed : Images → World → ℕ → Record → World
world_performed declared w pid call = option_map_or (λ p. (performed declared w pid p.body call).world) (at w pid) w

-- a call that a filter answers with an error is performed all the same
abbrev pub performs_refused : Machine
performs_refused declared w (Call pid ip call) =
    if is_refused (step_of declared w (Call pid ip call)).answer
    then record (step_of declared w (Call pid ip call)) { world = world_performed declared w pid (recorded ip call) }
    else step_of declared w (Call pid ip call)
performs_refused declared w event = step_of declared w event

-- a stop sends the parent SIGHUP besides
abbrev pub stops_with_hangup : Machine
stops_with_hangup declared w event =
    if stops (step_of declared w event).answer then record (step_of declared w event) { world = sent (step_of declared w event).world (parent_of (at w (pid_of event))) SIGHUP }
    else step_of declared w event

-- so does an end, though it leaves no group orphaned
abbrev pub ends_with_hangup : Machine
ends_with_hangup declared w event =
    if ends (step_of declared w event).answer then record (step_of declared w event) { world = sent (step_of declared w event).world (parent_of (at w (pid_of event))) SIGHUP }
    else step_of declared w event

-- none of them has the law that it breaks
pub record WrongsAreRefused : Type 0 where
  pub forks_bare : GivesAuthorityByLineage forks_bare → ⊥
  pub forks_into_old : GivesAuthorityByLineage forks_into_old → ⊥
  pub executes_bare : GivesAuthorityByLineage executes_bare → ⊥
  pub orphans_with_first_ids : GivesAuthorityByLineage orphans_with_first_ids → ⊥
  pub leaves_zombies : TellsEndsOnce leaves_zombies → ⊥
  pub performs_refused : KeepsToConfined performs_refused → ⊥
  pub stops_with_hangup : KeepsToConfined stops_with_hangup → ⊥
  pub ends_with_hangup : KeepsToConfined ends_with_hangup → ⊥
