use Rattle.std.proofs.Common.{◌≤◌, List, [], length, arith, ap, subst, rules}
use Rattle.sk_insn.specs.declared.insn.Insn.{Insn}
use Rattle.sk_policy.specs.declared.policy.Rule.{Rule}
use Rattle.sk_policy.specs.Emitting.{Emits}
use Rattle.sk_policy.proofs.Ruling.{whole, others, valid}
use Rattle.sk_policy.proofs.policy.policy_filter.Goals as goal

pub returns-clause-means : goal.returns-clause-means
returns-clause-means c =
    whole c.in_order.result.items c.put_rules.new.code c.args.policy.now (search rules)
    (subst (λ (all : List Rule). Emits [] c.put_rules.new.code all c.args.policy.now.default 0 0xffffffff) c.deref.ensures.value
    (subst (λ (old : List Insn). Emits old c.put_rules.new.code c.deref.result.now c.args.policy.now.default 0 0xffffffff) c.new-code.ensures.none c.in_ok-put_rules.ensures.emits))

pub returns-clause-valid : goal.returns-clause-valid
returns-clause-valid c =
    let few : length c.in_order.result.items ≤ 4096 = omega (arith, ap length c.in_order.ensures.items, c.in_ok-put_one-4.ensures.few) in
    valid c.in_order.result.items c.put_rules.new.code c.args.policy.now (search rules)
    (subst (λ (all : List Rule). Emits [] c.put_rules.new.code all c.args.policy.now.default 0 0xffffffff) c.deref.ensures.value
    (subst (λ (old : List Insn). Emits old c.put_rules.new.code c.deref.result.now c.args.policy.now.default 0 0xffffffff) c.new-code.ensures.none c.in_ok-put_rules.ensures.emits)) few

pub returns-clause-others : goal.returns-clause-others
returns-clause-others c = others c.in_order.result.items c.put_rules.new.code c.args.policy.now (search rules)
