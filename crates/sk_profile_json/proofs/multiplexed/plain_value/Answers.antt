use Rattle.std.proofs.Common.{sym, ap, ◌∙◌}
use Rattle.std.specs.Option.{option_map}
use Rattle.sk_profile_json.specs.EntryViews.{named_view}
use Rattle.sk_profile_json.specs.Multiplexed.{is_plain_as, value_in}
use Rattle.sk_profile_json.proofs.Finding.{find_here, find_later}
use Rattle.sk_profile_json.proofs.multiplexed.plain_value.Goals as goal

pub returns-then-is_plain_as : goal.returns-then-is_plain_as
returns-then-is_plain_as c =
    let found =
    find_here named_view (is_plain_as c.args.default c.args.name.now) _ _ c.it-item.result c.loop-it-test.true c.it-item.is
    (sym c.if-is_plain_as.ensures.plain) in
    record { value = ap (option_map value_in) (sym found ∙ c.loop-it.invariant) }

pub loop-it-preserved : goal.loop-it-preserved
loop-it-preserved c =
    find_later named_view (is_plain_as c.args.default c.args.name.now) _ _ c.it-item.result c.loop-it-test.true c.it-item.is
    (sym c.if-is_plain_as.ensures.plain)
    ∙ c.loop-it.invariant
