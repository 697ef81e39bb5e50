use Rattle.std.proofs.Common.{◌∷◌, map, sym, ap, ◌∙◌}
use Rattle.std.specs.Prelude.{filter, unwrap_or}
use Rattle.sk_insn.specs.Actions.{allow}
use Rattle.sk_filter.proofs.Verdicts.{preceding_of_none}
use Rattle.sk_profile_json.specs.EntryViews.{named_view}
use Rattle.sk_profile_json.specs.Multiplexed.{is_named, value_in}
use Rattle.sk_profile_json.proofs.Finding.{more_preceding, preceding_end}
use Rattle.sk_profile_json.proofs.multiplexed.strictest.Goals as goal

pub loop-it-preserved : goal.loop-it-preserved
loop-it-preserved c =
    more_preceding named_view c.args.name.now _ _ c.it-item.result _ _ c.loop-it-test.true c.it-item.is c.preceding_as-first.ensures.preceding
    ∙ c.loop-it.invariant

pub returns : goal.returns
returns c =
    let all = sym (preceding_end named_view c.args.name.now _ _ _ c.loop-it-test.false) ∙ c.loop-it.invariant in
    record {
      first =
          c.unwrap_or.ensures ∙ ap (λ o. unwrap_or o allow) all
          ∙ preceding_of_none (c.args.default ∷ map value_in (filter (is_named c.args.name.now) (map named_view c.args.named.now)));
    }
