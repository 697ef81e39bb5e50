use Rattle.std.proofs.Common.{sym, ap, ◌∙◌}
use Rattle.std.specs.Option.{option_map}
use Rattle.sk_profile_json.specs.Entries.{Named}
use Rattle.sk_profile_json.specs.EntryViews.{named_view}
use Rattle.sk_profile_json.specs.Multiplexed.{is_named}
use Rattle.sk_profile_json.proofs.Finding.{find_here, find_later}
use Rattle.sk_profile_json.proofs.multiplexed.first_entry.Goals as goal

pub returns-then-is_named : goal.returns-then-is_named
returns-then-is_named c =
    let found = find_here named_view (is_named c.args.name.now) _ _ c.it-item.result c.loop-it-test.true c.it-item.is (sym c.if-is_named.ensures.named) in
    record { entry = ap (option_map (λ (it : Named). it.entry)) (sym found ∙ c.loop-it.invariant) }

pub loop-it-preserved : goal.loop-it-preserved
loop-it-preserved c =
    find_later named_view (is_named c.args.name.now) _ _ c.it-item.result c.loop-it-test.true c.it-item.is (sym c.if-is_named.ensures.named)
    ∙ c.loop-it.invariant
