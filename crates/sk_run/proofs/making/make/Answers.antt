use Rattle.std.proofs.Common.{◌≡◌, ◌<◌, IsTrue, sym, subst}
use Rattle.std.specs.Option.{is_some}
use Rattle.sk_machine.specs.Events.{pid_of}
use Rattle.sk_run.specs.Scheduling.{line_due}
use Rattle.sk_run.specs.Levels.{Stacks, stacks_after}
use Rattle.sk_run.specs.views.Stacks.{ChildIsLow, stacks_of}
use Rattle.sk_run.proofs.Children.{child_is_low}
use Rattle.sk_run.proofs.making.make.Goals as goal

pub follow_event-requires-clause-room : goal.follow_event-requires-clause-room
follow_event-requires-clause-room g c =
    subst (λ (all : Stacks). IsTrue c.args.has_line → (all (pid_of c.args.event.now)).top.position < 9223372036854775808) (sym c.prepare.ensures.stacks) c.requires.room

pub follow_event-requires-clause-line : goal.follow_event-requires-clause-line
follow_event-requires-clause-line g c =
    subst (λ (all : Stacks). is_some (line_due c.args.programs.now.items (all (pid_of c.args.event.now))) ≡ c.args.has_line) (sym c.prepare.ensures.stacks) c.requires.line

pub follow_event-requires-clause-child : goal.follow_event-requires-clause-child
follow_event-requires-clause-child g c is =
    subst ChildIsLow (sym c.in_ok-answer.ensures.answer) (child_is_low c.args.kernel.now.declared c.args.kernel.now.world c.args.event.now is)

pub returns-clause-stacks : goal.returns-clause-stacks
returns-clause-stacks g c =
    let event = c.args.event.now in
    subst (λ (all : Stacks). stacks_of c.follow_event.new.stacks.items ≡ stacks_after (line_due c.args.programs.now.items (all (pid_of event))) event c.in_ok-answer.answer all)
    c.prepare.ensures.stacks c.follow_event.ensures.stacks
