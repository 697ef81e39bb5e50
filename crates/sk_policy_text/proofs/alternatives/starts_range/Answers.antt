use Rattle.sk_policy_text.proofs.ConditionsFirst.{some_there, none_there}
use Rattle.sk_policy_text.proofs.ConditionsChoosing.{range_started, no_range_started}
use Rattle.sk_policy_text.proofs.alternatives.starts_range.Goals as goal

pub returns-in-Ok-clause-held : goal.returns-in-Ok-clause-held
returns-in-Ok-clause-held c held =
    some_there c.behind.result c.is_some.result c.is_some.ensures held c.behind.ensures.first
    (λ rest and. range_started c.args.inside.now c.in-Ok.rest.now rest.now c.in-Ok._compared c.in-Ok.ensures.reads and)

pub returns-in-Ok-clause-failed : goal.returns-in-Ok-clause-failed
returns-in-Ok-clause-failed c failed =
    no_range_started c.args.inside.now c.in-Ok.rest.now c.in-Ok._compared c.in-Ok.ensures.reads
    (none_there c.behind.result c.is_some.result c.is_some.ensures failed c.behind.ensures.none)
