use Rattle.std.proofs.Common.{◌≡◌, ◌-◌, length, slice_get, ap, ◌∙◌, arith}
use Rattle.std.proofs.lemmas.List.{length-map}
use Rattle.sk_policy_text.specs.Words.{seen}
use Rattle.sk_policy_text.specs.Views.{all_seen}
use Rattle.sk_policy_text.proofs.shown.last_word.Goals as goal

pub returns : goal.returns
returns c =
    let at : c.saturating_sub.result ≡ length (all_seen c.args.words.now) - 1 =
    let long = length-map c.args.words.now seen in
    omega (arith, long, c.saturating_sub.ensures) in record {
      word = c.word_at.ensures.word ∙ ap (slice_get (all_seen c.args.words.now)) at;
    }
