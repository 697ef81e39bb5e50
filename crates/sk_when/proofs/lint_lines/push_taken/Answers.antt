use Rattle.std.proofs.Common.{◌++◌, List, ℕ, string_bytes, ap, append_assoc, ◌∙◌}
use Rattle.std.proofs.lemmas.Result.{on_ok_weaker}
use Rattle.sk_survey.specs.Taken.{taken_as}
use Rattle.sk_when.specs.Lint.{lint_names}
use Rattle.sk_when.specs.LintText.{taken_line}
use Rattle.sk_when.proofs.lint_lines.push_taken.Goals as goal

pub returns : goal.returns
returns g c =
    let before = string_bytes c.args.text.now in
    let remark = g.R.Remarks.remark c.args.remarks.now c.args.call in
    let names = lint_names c.args.naming c.args.call.nr in
    let line = c.in_ok-push_taken_line.ensures.text
    ∙ ap (λ names. before ++ taken_line names c.taken_as.result) c.lint_names.ensures.names
    ∙ ap (λ taken. before ++ taken_line names taken) c.taken_as.ensures.taken in
    record {
      text = on_ok_weaker c.push.result (λ pushed. pushed ∙ ap (λ (its : List ℕ). its ++ remark) line ∙ append_assoc before (taken_line names (taken_as c.args.call)) remark)
          c.push.ensures.pushed;
    }
