-- The lineage of a process: where it comes from, and the calls that it and those it was forked from have
-- made until then; and what a lineage says of its authority.
use Rattle.std.specs.Prelude.{ℕ, pos, ◌==◌, Bool, false, not, ◌&&◌, if◌then◌else◌, List, [], ◌∷◌, ◌++◌, reverse, Option, None, Some}
use Rattle.std.specs.Option.{option_map, option_map_or, option_to_list}
use Rattle.std.specs.List.{zip}
use Rattle.std.specs.Result.{result_unwrap_or}
use Rattle.sk_insn.specs.declared.record.Record.{Record}
use Rattle.sk_insn.specs.Actions.{action_of, performs}
use Rattle.sk_names.specs.declared.syscall.Syscall.TheVariants as syscall
use Rattle.sk_names.specs.Syscalls.{number_of}
use Rattle.sk_world.specs.World.{World, at}
use Rattle.sk_machine.specs.declared.event.Event.{Event}
use Rattle.sk_machine.specs.declared.event.Event.TheVariants.{Call}
use Rattle.sk_machine.specs.declared.answer.Answer.{Answer}
use Rattle.sk_machine.specs.declared.answer.Answer.TheVariants as answer
use Rattle.sk_machine.specs.declared.answer.Outcome.{Outcome}
use Rattle.sk_machine.specs.declared.answer.Outcome.TheVariants.{Returned}
use Rattle.sk_machine.specs.Images.{Images}
use Rattle.sk_machine.specs.Events.{pid_of, recorded}
use Rattle.sk_machine.specs.Authority.{Authority, authority_of, authority_after_call}
use Rattle.sk_machine.specs.Machine.{step_of}

-- the calls of a lineage, the oldest first, and the process that it comes from
pub record Lineage : Type 0 where
  pub root : ℕ
  pub calls : List Record

-- an event with its answer
abbrev pub Happening : Type 0
Happening = Event × Answer

-- the call that an event is, if it is one
abbrev pub call_of : Event → Option Record
call_of (Call pid ip call) = Some (recorded ip call)
call_of other = None

-- the filters let the call through: its verdict's action is allow or log
abbrev pub is_performed : Answer → Bool
is_performed (answer.Call verdict outcome) = performs (action_of verdict)
is_performed other = false

-- the call that was performed in an event, if one was
abbrev pub performed_call : Happening → Option Record
performed_call (event, answer) = if is_performed answer then call_of event else None

-- the outcome is this number
abbrev pub has_returned : ℕ → Outcome → Bool
has_returned n (Returned (pos m)) = n == m
has_returned n other = false

-- the event's answer is a call that returned this number
abbrev pub has_answered : ℕ → Answer → Bool
has_answered n (answer.Call verdict outcome) = has_returned n outcome
has_answered n other = false

-- a call of fork(2)
abbrev pub is_fork : Option Record → Bool
is_fork o = option_map_or (λ call. call.nr == number_of syscall.Fork) o false

-- the event is a performed fork that gave this pid
abbrev pub is_fork_of : ℕ → Happening → Bool
is_fork_of pid x = is_fork (performed_call x) && has_answered pid x.1

-- whose lineage it was before the event that is the lineage of this process after it
abbrev pub lineage_before : ℕ → Happening → ℕ
lineage_before pid x = if is_fork_of pid x then pid_of x.0 else pid

-- the calls that an event adds to the lineage of a process: its own performed call
abbrev pub calls_added : ℕ → Happening → List Record
calls_added pid x = if (pid_of x.0 == pid) && not (is_fork_of pid x) then option_to_list (performed_call x) else []

-- a lineage with later calls
abbrev pub with_calls : List Record → Lineage → Lineage
with_calls calls lineage = record lineage { calls = lineage.calls ++ calls }

-- the lineage of a process, by a history whose newest event is the first
abbrev pub lineage_of : List Happening → ℕ → Lineage
lineage_of [] pid = record { root = pid; calls = [] }
lineage_of (newest ∷ older) pid = with_calls (calls_added pid newest) (lineage_of older (lineage_before pid newest))

-- the authority after these calls, the oldest first. A call that fails leaves it as it was
abbrev pub authority_after_calls : Images → List Record → Authority → Authority
authority_after_calls declared [] a = a
authority_after_calls declared (call ∷ calls) a =
    authority_after_calls declared calls (result_unwrap_or (authority_after_call declared call a) a)

-- the authority of the process of a pid, if there is one
abbrev pub authority_at : World → ℕ → Option Authority
authority_at w pid = option_map (λ p. authority_of p.body) (at w pid)

-- the authority of a lineage, from the one that its root had in the world before, if the root was there
abbrev pub authority_of_lineage : Images → World → Lineage → Option Authority
authority_of_lineage declared w lineage = option_map (authority_after_calls declared lineage.calls) (authority_at w lineage.root)

-- the history that these events and their answers make, the newest first
abbrev pub history_of : List Event → List Answer → List Happening
history_of events answers = reverse (zip events answers)

-- the history of a list of events in a world, after one that was there before
abbrev pub history_after : Images → World → List Event → List Happening → List Happening
history_after declared w [] before = before
history_after declared w (event ∷ events) before =
    history_after declared (step_of declared w event).world events ((event, (step_of declared w event).answer) ∷ before)
