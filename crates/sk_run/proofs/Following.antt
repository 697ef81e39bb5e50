-- What a turn leads to, by what was asked and answered on the way.
use Rattle.std.proofs.Common.{◌≡◌, ℕ, ◌+◌, map, List, Option, Result, Ok, Err, OnErr, refl, ap}
use Rattle.sk_scenario.specs.declared.call.ScriptCall.{ScriptCall}
use Rattle.sk_scenario.specs.Scenario.{Script, Setting}
use Rattle.sk_world.specs.World.{World}
use Rattle.sk_machine.specs.declared.event.Event.{Event}
use Rattle.sk_machine.specs.declared.answer.Answer.{Answer}
use Rattle.sk_machine.specs.Images.{Images}
use Rattle.sk_machine.specs.Machine.{step_of}
use Rattle.sk_machine.specs.Turns.{need_of}
use Rattle.sk_run.specs.Levels.{Stack, Stacks, stacks_after}
use Rattle.sk_run.specs.declared.turn.ReportLine.TheVariants as turn
use Rattle.sk_run.specs.Scheduling.{Scheduled, mark_of_script, images_of, line_due, event_by, turn_by, after_turn_by}

-- a fact that holds anyway
pub on_err : {X E : Type 0} (r : Result X E) (P : Type 0) → P → OnErr r P
on_err (Ok x) P p = tt
on_err (Err e) P p = p

-- what is declared are these programs
pub same_images : (declared : Images) (programs : List Script) → declared.programs ≡ map mark_of_script programs
    → declared ≡ record { filters = declared.filters; programs = map mark_of_script programs; subreapers = declared.subreapers }
same_images declared programs e = ap (λ marks. record { filters = declared.filters; programs = marks; subreapers = declared.subreapers }) e

-- what a scenario has come to, of its parts
abbrev pub scheduled : World → Stacks → ℕ → ℕ → Scheduled
scheduled world stacks last used = record { world = world; stacks = stacks; last = last; used = used }

pub same_now : (world other : World) (stacks others : Stacks) (last used : ℕ) → world ≡ other → stacks ≡ others → scheduled world stacks last used ≡ scheduled other others last used
same_now world other stacks others last used w s = rw (w, s) refl

pub follows : (setting : Setting) (s : Scheduled) (pid : ℕ) (declared : Images) (reserved : Stacks) (stack : Stack) (line : Option ScriptCall) (event : Event) (answer : Answer) (world : World) (stacks : Stacks)
    → declared ≡ images_of setting → reserved ≡ s.stacks → stack ≡ reserved pid → line ≡ line_due setting.programs stack
    → event ≡ event_by setting.programs pid stack (need_of s.world pid) → answer ≡ (step_of declared s.world event).answer → world ≡ (step_of declared s.world event).world
    → stacks ≡ stacks_after line event answer reserved → scheduled world stacks pid (s.used + 1) ≡ after_turn_by setting s pid
follows setting s pid declared reserved stack line event answer world stacks i r k l e a w t = rw (w, t, a, e, l, k, r, i) refl

-- the line of the turn is that of its event and its answer
pub tells : (setting : Setting) (s : Scheduled) (pid : ℕ) (declared : Images) (reached : Stacks) (stack : Stack) (event : Event) (answer : Answer)
    → declared ≡ images_of setting → reached ≡ s.stacks → stack ≡ reached pid
    → event ≡ event_by setting.programs pid stack (need_of s.world pid) → answer ≡ (step_of declared s.world event).answer → turn.Turn (s.used + 1) event answer ≡ turn_by setting s pid
tells setting s pid declared reached stack event answer i r k e a = rw (a, e, k, r, i) refl
