use Rattle.std.proofs.Common.{◌++◌, List, ℕ, codes, string_bytes, ap, append_assoc, ◌∙◌}
use Rattle.sk_when.specs.LintNotes.{argument_name_text}
use Rattle.sk_when.proofs.lint_notes.push_decided.Goals as goal

pub returns : goal.returns
returns c =
    let before = string_bytes c.args.text.now in
    let head : List ℕ = codes " is read for some values of " in
    let name = argument_name_text c.args.decider in
    let tail : List ℕ = codes " alone\n" in
    let named = c.in_ok-push_argument_name.ensures.text ∙ ap (λ (its : List ℕ). its ++ name) c.in_ok-push_str.ensures.bytes in
    record {
      text =
          c.in_ok-push_str-2.ensures.bytes ∙ ap (λ (its : List ℕ). its ++ tail) named
          ∙ append_assoc (before ++ head) name tail ∙ append_assoc before head (name ++ tail);
    }
