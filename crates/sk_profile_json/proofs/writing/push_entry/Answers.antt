use Rattle.std.proofs.Common.{◌∙◌}
use Rattle.std.proofs.lemmas.Result.{on_ok_weaker}
use Rattle.sk_profile_json.proofs.Written.{entered}
use Rattle.sk_profile_json.proofs.writing.push_entry.Goals as goal

pub returns : goal.returns
returns c = record {
  pushed =
      on_ok_weaker c.token-2.result
      (λ e. e ∙ entered _ _ _ _ _ c.args.numbers.now c.in_ok-token.ensures.ok c.in_ok-push_key.ensures.pushed c.in_ok-push_list.ensures.pushed
      c.in_ok-push_string.ensures.pushed) c.token-2.ensures.ok;
}
