use Rattle.std.proofs.Common.{◌++◌, List, ℕ, codes, string_bytes, ap, append_assoc, ◌∙◌}
use Rattle.sk_when.specs.DiffText.{call_text}
use Rattle.sk_when.specs.LintText.{taken_line}
use Rattle.sk_when.proofs.lint_lines.push_taken_line.Goals as goal

pub returns : goal.returns
unfolding taken_line
returns c =
    let before = string_bytes c.args.text.now in
    let head : List ℕ = codes "  which Linux takes for " in
    let call = call_text c.args.names c.args.taken in
    let called = c.in_ok-push_call.ensures.text ∙ ap (λ (its : List ℕ). its ++ call) c.in_ok-push_str.ensures.bytes in
    record {
      text =
          c.in_ok-push_str-2.ensures.bytes ∙ ap (λ (its : List ℕ). its ++ codes "\n") called
          ∙ append_assoc (before ++ head) call (codes "\n") ∙ append_assoc before head (call ++ codes "\n");
    }
