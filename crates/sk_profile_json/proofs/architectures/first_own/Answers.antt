use Rattle.std.proofs.Common.{sym, ◌∙◌}
use Rattle.json.specs.Value.{value_view}
use Rattle.sk_profile_json.specs.Architectures.{maps_own}
use Rattle.sk_profile_json.proofs.Finding.{find_here, find_later}
use Rattle.sk_profile_json.proofs.architectures.first_own.Goals as goal

pub returns-then-maps_own : goal.returns-then-maps_own
returns-then-maps_own c =
    let found =
    find_here value_view (maps_own c.args.context.now) _ _ c.item-item.result c.loop-item-test.true c.item-item.is (sym c.if-maps_own.ensures.own) in
    record { first = sym found ∙ c.loop-item.invariant }

pub loop-item-preserved : goal.loop-item-preserved
loop-item-preserved c =
    find_later value_view (maps_own c.args.context.now) _ _ c.item-item.result c.loop-item-test.true c.item-item.is (sym c.if-maps_own.ensures.own)
    ∙ c.loop-item.invariant
