use Rattle.std.proofs.Common.{◌∙◌, ap, refl, sym}
use Rattle.sk_machine.specs.Events.{pid_of}
use Rattle.sk_run.specs.Scheduling.{line_due}
use Rattle.sk_run.specs.views.Stacks.{stack_of, stacks_of}
use Rattle.sk_run.specs.views.State.{setting_of, now_of}
use Rattle.sk_run.proofs.Following.{on_err, same_images, same_now, tells, follows}
use Rattle.sk_run.proofs.Happening.{due_now, due_of_it}
use Rattle.sk_run.proofs.machine.Machine.turn_by.Goals as goal

pub returns-in_err-reach-clause-kept : goal.returns-in_err-reach-clause-kept
returns-in_err-reach-clause-kept g c = on_err _ _ (same_now _ _ _ _ _ _ refl c.reach.ensures.stacks)

pub returns-in_err-answer-clause-kept : goal.returns-in_err-answer-clause-kept
returns-in_err-answer-clause-kept g c =
    on_err _ _ (same_now _ _ _ _ _ _ c.in_err-answer.ensures.kept
    (c.in_err-answer.ensures.kept_stacks ∙ c.reach.ensures.stacks))

pub make-requires-clause-possible : goal.make-requires-clause-possible
make-requires-clause-possible g c =
    due_now (setting_of c.args.self.now) c.args.self.now.kernel.world c.args.runner.pid (stack_of c.levels_at-levels.result.now) c.event_by-event.result
    (rw (c.as_slice-programs.ensures.value, c.requires.need) at c.event_by-event.ensures.event) c.requires.runs

pub returns-clause-turn : goal.returns-clause-turn
returns-clause-turn g c =
    tells (setting_of c.args.self.now) (now_of c.args.self.now) c.args.runner.pid c.args.self.now.kernel.declared (stacks_of c.reach.new.stacks.items) (stack_of c.levels_at-levels.result.now) c.event_by-event.result c.in_ok-answer.answer
    (same_images c.args.self.now.kernel.declared c.args.self.now.programs.items c.args.self.now.declared)
    c.reach.ensures.stacks
    c.levels_at-levels.ensures.stack
    (rw (c.as_slice-programs.ensures.value, c.requires.need) at c.event_by-event.ensures.event)
    c.in_ok-answer.ensures.answer

pub returns-clause-after : goal.returns-clause-after
returns-clause-after g c =
    follows (setting_of c.args.self.now) (now_of c.args.self.now) c.args.runner.pid c.args.self.now.kernel.declared (stacks_of c.reach.new.stacks.items) (stack_of c.levels_at-levels.result.now) (line_due c.args.self.now.programs.items (stacks_of c.reach.new.stacks.items (pid_of c.event_by-event.result))) c.event_by-event.result c.in_ok-answer.answer _ _
    (same_images c.args.self.now.kernel.declared c.args.self.now.programs.items c.args.self.now.declared)
    c.reach.ensures.stacks
    c.levels_at-levels.ensures.stack
    (ap (line_due c.args.self.now.programs.items)
    (ap (stacks_of c.reach.new.stacks.items) (due_of_it c.as_slice-programs.result.now c.args.runner.pid (stack_of c.levels_at-levels.result.now) c.args.runner.need c.event_by-event.result c.event_by-event.ensures.event) ∙ sym c.levels_at-levels.ensures.stack))
    (rw (c.as_slice-programs.ensures.value, c.requires.need) at c.event_by-event.ensures.event)
    c.in_ok-answer.ensures.answer
    c.in_ok-answer.ensures.world
    c.in_ok-answer.ensures.stacks
