use Rattle.std.proofs.Common.{◌-◌}
use Rattle.sk_policy.proofs.rules.+put_rules.Given as goal

abbrev pub decreases-put_rules : goal.decreases-put_rules
decreases-put_rules l = l.to - l.from
