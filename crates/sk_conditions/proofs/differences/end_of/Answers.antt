use Rattle.sk_conditions.proofs.Ways.{on_way, pushed_on}
use Rattle.sk_conditions.proofs.differences.end_of.Goals as goal

pub returns-in_default-clause-met : goal.returns-in_default-clause-met
returns-in_default-clause-met c =
    pushed_on c.args.way.numbers c.args.way.path.now c.args.calls.now.items c.push.new.self.items c.record_of.result c.in_ok-push.ensures.items
    (on_way c.args.way.numbers c.args.way.path.now c.record_of.result c.args.way.words.now c.requires.comes c.record_of.ensures.number c.record_of.ensures.architecture c.record_of.ensures.words)

pub returns-in-Some-clause-met : goal.returns-in-Some-clause-met
returns-in-Some-clause-met c =
    pushed_on c.args.way.numbers c.args.way.path.now c.args.calls.now.items c.push.new.self.items c.record_of.result c.in_ok-push.ensures.items
    (on_way c.args.way.numbers c.args.way.path.now c.record_of.result c.args.way.words.now c.requires.comes c.record_of.ensures.number c.record_of.ensures.architecture c.record_of.ensures.words)

pub returns-in_default-2-clause-met : goal.returns-in_default-2-clause-met
returns-in_default-2-clause-met c =
    pushed_on c.args.way.numbers c.args.way.path.now c.args.calls.now.items c.push.new.self.items c.record_of.result c.in_ok-push.ensures.items
    (on_way c.args.way.numbers c.args.way.path.now c.record_of.result c.args.way.words.now c.requires.comes c.record_of.ensures.number c.record_of.ensures.architecture c.record_of.ensures.words)
