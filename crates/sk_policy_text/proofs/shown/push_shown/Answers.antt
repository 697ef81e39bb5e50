use Rattle.std.proofs.Common.{◌≡◌, ◌≤◌, ◌++◌, length, map, sym, subst, string_bytes, arith}
use Rattle.std.specs.Prelude.{OnOk}
use Rattle.std.proofs.lemmas.List.{take_all}
use Rattle.sk_policy_text.specs.PolicyTexts.{shown_byte}
use Rattle.sk_policy_text.proofs.shown.push_shown.Goals as goal

pub returns-then-word-le40 : goal.returns-then-word-le40
returns-then-word-le40 c =
    let word = c.args.word.now in
    let short : length word ≤ 40 = omega arith in record {
      text = subst (λ shown. OnOk c.push_bytes.result (string_bytes c.push_bytes.new.text ≡ string_bytes c.args.text.now ++ map shown_byte shown))
          (sym (take_all 40 word short)) c.push_bytes.ensures.text;
    }
