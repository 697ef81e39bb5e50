-- How far each process is: a stack of levels, with a level on top for each handler that runs.
use Rattle.std.specs.Prelude.{ℕ, suc, ◌+◌, ◌==◌, pos, true, false, Bool, ◌&&◌, if◌then◌else◌, List, [], ◌∷◌, slice_index_or, Option, None, Some}
use Rattle.std.specs.Option.{option_and_then}
use Rattle.sk_insn.specs.Actions.{action_of, performs}
use Rattle.sk_names.specs.declared.call.Call.{Call}
use Rattle.sk_names.specs.declared.syscall.Syscall.TheVariants as syscall
use Rattle.sk_names.specs.Syscalls.{number_of}
use Rattle.sk_scenario.specs.declared.call.ScriptCall.{ScriptCall}
use Rattle.sk_machine.specs.declared.event.Event.{Event}
use Rattle.sk_machine.specs.declared.event.Event.TheVariants as event
use Rattle.sk_machine.specs.declared.answer.Answer.{Answer}
use Rattle.sk_machine.specs.declared.answer.Answer.TheVariants as answer
use Rattle.sk_machine.specs.declared.answer.Outcome.{Outcome}
use Rattle.sk_machine.specs.declared.answer.Outcome.TheVariants.{Returned, Executed}
use Rattle.sk_machine.specs.declared.answer.Effect.{Effect}
use Rattle.sk_machine.specs.declared.answer.Effect.TheVariants as effect
use Rattle.sk_machine.specs.Lineages.{has_returned}
use Rattle.sk_run.specs.declared.level.Level.{Level}

-- the levels of a process: the one that runs, and those below it, the nearest first
pub record Stack : Type 0 where
  pub top : Level
  pub below : List Level

-- the levels of each process, by its pid
abbrev pub Stacks : Type 0
Stacks = ℕ → Stack

-- the first call of a program, whose mark is not set
abbrev pub first_call : ℕ → Level
first_call program = record { program = program; position = 0; refused = false }

-- this level alone
abbrev pub alone : Level → Stack
alone level = record { top = level; below = [] }

-- a handler begins: its program's level comes on top
abbrev pub handling : ℕ → Stack → Stack
handling program s = record { top = first_call program; below = s.top ∷ s.below }

-- what is left when the level above these goes, where there are any
abbrev pub top_of : Stack → List Level → Stack
top_of s [] = s
top_of s (level ∷ below) = record { top = level; below = below }

-- a handler has returned: its level goes
abbrev pub returned : Stack → Stack
returned s = top_of s s.below

-- the position moves on to the next call of the script
abbrev pub next_call : Stack → Stack
next_call s = record s { top = record s.top { position = s.top.position + 1 } }

-- the mark is set
abbrev pub marked : Stack → Stack
marked s = record s { top = record s.top { refused = true } }

-- a child of `fork NAME` begins with the first call of the program, in place of its parent's top level
abbrev pub begun : Option ℕ → Stack → Stack
begun None s = s
begun (Some program) s = record s { top = first_call program }

-- ---- what follows from an answer

-- a call of the script was made: it is behind the process, whatever its answer is. The call that ends the script, which is none
-- of its lines, leaves the mark where it was not performed
abbrev pub made : Option ScriptCall → Bool → Stack → Stack
made (Some line) performed s = next_call s
made None true s = s
made None false s = marked s

-- what a performed call does to the levels of its caller: execve(2) leaves one level, at the new program's first call, and
-- rt_sigreturn(2) that gave 0 takes the top level off
abbrev pub performing : Call → Outcome → Stack → Stack
performing call Executed s = alone (first_call (slice_index_or call.args 0 0))
performing call (Returned n) s = if call.nr == number_of syscall.RtSigreturn && has_returned 0 (Returned n) then returned s else s
performing call other s = s

-- the levels of the caller after a call: this is the line of its script, if it is one
abbrev pub called : Option ScriptCall → Call → Bool → Outcome → Stack → Stack
called line call true outcome s = performing call outcome (made line true s)
called line call false outcome s = made line false s

-- the pid that a call has returned, if it is one
abbrev pub pid_in : Outcome → Option ℕ
pid_in (Returned (pos (suc n))) = Some (suc n)
pid_in other = None

-- the child that a call has made, if it has made one: a performed fork(2)
abbrev pub child_of : Call → Bool → Outcome → Option ℕ
child_of call performed outcome = if performed && call.nr == number_of syscall.Fork then pid_in outcome else None

-- the process of this pid has these levels, and every other the same as before
abbrev pub stacked : ℕ → Stack → Stacks → Stacks
stacked pid s stacks = λ other. if other == pid then s else stacks other

-- a child, if there is one, has these levels
abbrev pub with_child : Option ℕ → Stack → Stacks → Stacks
with_child None s stacks = stacks
with_child (Some child) s stacks = stacked child s stacks

-- the program that a child begins with, where the line names one
abbrev pub script_of_child : Option ScriptCall → Option ℕ
script_of_child line = option_and_then (λ line. line.script) line

-- all levels after a call: a child has a copy of its parent's
abbrev pub after_call : ℕ → Option ScriptCall → Call → Bool → Outcome → Stacks → Stacks
after_call pid line call performed outcome stacks =
    let s = called line call performed outcome (stacks pid) in
    with_child (child_of call performed outcome) (begun (script_of_child line) s) (stacked pid s stacks)

-- what a delivery does to the levels of its process
abbrev pub delivered : Effect → Stack → Stack
delivered (effect.Handler program interrupted) s = handling program s
delivered other s = s

-- all levels after an event with this answer; the line is the next one of its process
abbrev pub stacks_after : Option ScriptCall → Event → Answer → Stacks → Stacks
stacks_after line (event.Call pid ip call) (answer.Call verdict outcome) stacks =
    after_call pid line call (performs (action_of verdict)) outcome stacks
stacks_after line (event.Deliver pid) (answer.Signal n effect) stacks = stacked pid (delivered effect (stacks pid)) stacks
stacks_after line event other stacks = stacks
