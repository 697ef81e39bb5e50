use Rattle.std.proofs.Common.{◌∙◌}
use Rattle.std.proofs.lemmas.Result.{on_ok_weaker}
use Rattle.sk_profile_json.proofs.Written.{listed}
use Rattle.sk_profile_json.proofs.writing.push_list.Goals as goal

pub returns : goal.returns
returns c = record {
  pushed =
      on_ok_weaker c.token-2.result
      (λ e. e ∙ listed _ _ _ c.args.numbers.now c.in_ok-token.ensures.ok c.in_ok-push_names.ensures.pushed) c.token-2.ensures.ok;
}
