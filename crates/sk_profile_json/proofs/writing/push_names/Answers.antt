use Rattle.std.proofs.Common.{◌∙◌}
use Rattle.sk_profile_json.proofs.Written.{one_more_name}
use Rattle.sk_profile_json.proofs.writing.push_names.Goals as goal

pub loop-number-preserved : goal.loop-number-preserved
loop-number-preserved c =
    one_more_name _ _ _ _ _ c.loop-number-test.true c.in_ok-push_name.ensures.pushed ∙ c.loop-number.invariant
