use Rattle.std.proofs.Common.{ap, arith}
use Rattle.sk_policy.specs.declared.policy.Rule.{Rule}
use Rattle.sk_policy.specs.Sizes.{cases_most, rules_most}
use Rattle.sk_policy_text.proofs.Bounding.{gap_there, rules_behind}
use Rattle.sk_policy_text.proofs.gaps.push_gap.Goals as goal

pub returns-in_ok-push-clause-size : goal.returns-in_ok-push-clause-size
returns-in_ok-push-clause-size c =
    let rule : Rule = record { first = c.in-Some.range.first; last = c.in-Some.range.last; cases = c.new.result; otherwise = c.args.others } in
    omega (arith, ap rules_most c.in_ok-push.ensures.items, rules_behind c.args.rules.now.items rule, ap cases_most c.new.ensures.items, gap_there c.args.end c.in-Some.ensures.above)
