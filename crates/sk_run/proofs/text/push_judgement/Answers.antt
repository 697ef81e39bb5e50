use Rattle.std.proofs.Common.{◌∙◌, ◌++◌, ◌∷◌, [], ap, arith, codes, sym}
use Rattle.std.proofs.lemmas.Fmt.{decimal_digit}
use Rattle.sk_insn.specs.Actions.{action_of}
use Rattle.sk_run.specs.Text.{judgement_text}
use Rattle.sk_run.proofs.text.push_judgement.Goals as goal

pub returns-then-verdict-eq-ALLOW-clause-text : goal.returns-then-verdict-eq-ALLOW-clause-text
unfolding judgement_text action_of
returns-then-verdict-eq-ALLOW-clause-text c =
    c.push_str.ensures.bytes
    ∙ ap (λ digits. c.args.text.now.bytes ++ ((codes "allow/" ++ digits) ++ 32 ∷ [])) (sym (decimal_digit 0 (omega arith)))
    ∙ ap (λ v. c.args.text.now.bytes ++ (judgement_text v ++ 32 ∷ [])) (sym c.if-verdict-eq-ALLOW.true)
