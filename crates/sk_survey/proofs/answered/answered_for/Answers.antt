use Rattle.std.proofs.Common.{ap, refl, subst, ◌∙◌}
use Rattle.sk_survey.specs.declared.rows.Row.{Row}
use Rattle.sk_survey.specs.Surveys.{Holds}
use Rattle.sk_survey.specs.ChainsFor.{chain_for}
use Rattle.sk_survey.proofs.answered.answered_for.Goals as goal

pub returns : goal.returns
returns c =
    let row : Row = record { first = c.numbers_of-first.result.0; last = c.numbers_of-first.result.1; answers = c.in_ok-answers.answers } in
    let own = c.in_ok-own.ensures.chain ∙ ap (λ arch. chain_for arch c.args.chain.now) c.audit.ensures.number in record {
      answered = record {
        first = c.numbers_of-first.ensures.first;
        last = c.numbers_of-first.ensures.last;
        holds = subst (λ programs. Holds programs row) own (record {
          among = c.in_ok-answers.ensures.among;
          rising = c.in_ok-answers.ensures.rising;
          only = c.in_ok-answers.ensures.only;
          settled = c.in_ok-answers.ensures.settled;
        });
      };
      architecture = refl;
    }
