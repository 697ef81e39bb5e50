use Rattle.std.proofs.Common.{◌++◌, List, ℕ, codes, string_bytes, ap, append_assoc, ◌∙◌}
use Rattle.std.proofs.lemmas.Result.{on_ok_weaker}
use Rattle.sk_when.specs.LintText.{conditions_text}
use Rattle.sk_when.proofs.lint_lines.push_counted.Goals as goal

pub returns : goal.returns
returns c =
    let before = string_bytes c.args.text.now in
    let conditions = conditions_text c.args.count in
    record {
      text = on_ok_weaker c.push_conditions.result (λ pushed.
          pushed ∙ ap (λ (its : List ℕ). its ++ conditions) c.in_ok-push_str.ensures.bytes
          ∙ append_assoc before (codes "as strict or stricter by such bits: ") conditions) c.push_conditions.ensures.text;
    }
