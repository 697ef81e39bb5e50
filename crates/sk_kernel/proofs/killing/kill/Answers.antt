use Rattle.std.proofs.Common.{◌∙◌, ap}
use Rattle.std.proofs.lemmas.Int.{to_z-of_z}
use Rattle.sk_kernel.proofs.Common.{w32, result_unwrap_or, Child, answered, who_meant}
use Rattle.sk_kernel.proofs.Reaching.{one_is, as_meant}
use Rattle.sk_kernel.proofs.killing.kill.Goals as goal

pub returns-in-Child-clause-answer : goal.returns-in-Child-clause-answer
returns-in-Child-clause-answer g c =
    let w = g.S.ProcStore.contents c.args.store.now in
    let is = c.in-Child.ensures ∙ (λ i. who_meant (c.group_of.ensures i) (to_z-of_z w32 c.args.target c.ranges.target i)) in
    c.kill_one.ensures.answer
    ∙ ap (answered 0) (one_is w c.args.caller c.args.creds c.in-Child.pid c.args.signal c.requires.rules ∙ as_meant w c.args.caller c.args.creds (Child c.in-Child.pid) c.args.target c.args.signal is c.if-signal-gt31.false)

pub returns-in-Child-clause-world : goal.returns-in-Child-clause-world
returns-in-Child-clause-world g c =
    let w = g.S.ProcStore.contents c.args.store.now in
    let is = c.in-Child.ensures ∙ (λ i. who_meant (c.group_of.ensures i) (to_z-of_z w32 c.args.target c.ranges.target i)) in
    c.kill_one.ensures.world
    ∙ ap (λ r. result_unwrap_or r w) (one_is w c.args.caller c.args.creds c.in-Child.pid c.args.signal c.requires.rules ∙ as_meant w c.args.caller c.args.creds (Child c.in-Child.pid) c.args.target c.args.signal is c.if-signal-gt31.false)

pub returns : goal.returns
returns g c =
    let w = g.S.ProcStore.contents c.args.store.now in
    let is = c.who_meant-who.ensures ∙ (λ i. who_meant (c.group_of.ensures i) (to_z-of_z w32 c.args.target c.ranges.target i)) in
    let same = as_meant w c.args.caller c.args.creds c.who_meant-who.result c.args.target c.args.signal is c.if-signal-gt31.false in record {
      answer = c.kill_each.ensures.answer ∙ ap (answered 0) same;
      world = c.kill_each.ensures.world ∙ ap (λ r. result_unwrap_or r w) same;
      rules = c.kill_each.ensures.rules;
    }
