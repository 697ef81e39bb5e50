use Rattle.std.proofs.Common.{sym, ◌∙◌}
use Rattle.sk_profile_json.proofs.Following.{wrong_here, right_here, none_wrong}
use Rattle.sk_profile_json.proofs.conditions.wrong_argument.Goals as goal

pub returns-in-Err : goal.returns-in-Err
returns-in-Err c = record {
  first = sym (wrong_here _ _ c.index-arguments-place.result _ c.loop-place-test.true c.index-arguments-place.is c.in-Err.ensures.condition) ∙ c.loop-place.invariant;
}

pub loop-place-preserved : goal.loop-place-preserved
loop-place-preserved c =
    sym (right_here _ _ c.index-arguments-place.result _ c.loop-place-test.true c.index-arguments-place.is c.in_default.ensures.condition) ∙ c.loop-place.invariant

pub returns : goal.returns
returns c = record { first = sym (none_wrong _ _ c.loop-place-test.false) ∙ c.loop-place.invariant }
