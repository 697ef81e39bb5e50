use Rattle.std.proofs.Common.{ap, subst, ◌∙◌}
use Rattle.sk_survey.specs.Surveys.{StandAlone}
use Rattle.sk_survey.specs.Other.{shared_value, verdict_or_several}
use Rattle.sk_survey.proofs.other.told_by.Goals as goal

pub returns : goal.returns
returns c =
    let rows = c.in_ok-rows.rows.items in record {
      other = (
        rows,
        c.in_ok-rows.ensures.survey,
        subst (λ numbers. StandAlone numbers rows) c.audits.ensures.audits c.in_ok-rows.ensures.alone,
        c.other_of.ensures.other ∙ ap (λ rows. verdict_or_several (shared_value rows)) c.deref.ensures.value,
      );
    }
