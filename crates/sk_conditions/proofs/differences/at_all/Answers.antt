use Rattle.std.proofs.Common.{refl}
use Rattle.sk_conditions.proofs.Ways.{on_way, pushed_on}
use Rattle.sk_conditions.proofs.differences.at_all.Goals as goal

pub returns-clause-tells : goal.returns-clause-tells
returns-clause-tells c =
    λ call on old new of_old of_new. c.if-not-holds_alike.ensures.holds refl call old new of_old of_new

pub returns-clause-met : goal.returns-clause-met
returns-clause-met c =
    pushed_on c.args.way.numbers c.args.way.path.now c.args.calls.now.items c.push.new.self.items c.record_of-call.result c.in_ok-push.ensures.items
    (on_way c.args.way.numbers c.args.way.path.now c.record_of-call.result c.args.way.words.now c.requires.comes c.record_of-call.ensures.number c.record_of-call.ensures.architecture c.record_of-call.ensures.words)
