use Rattle.std.proofs.Common.{List, ℕ, IfOk, subst}
use Rattle.std.specs.List.{All}
use Rattle.std.proofs.lemmas.Result.{IfOk-weaker}
use Rattle.sk_survey.specs.Surveys.{StandAlone}
use Rattle.sk_show.specs.Lines.{TellsNamedAlone}
use Rattle.sk_show.proofs.Named.{named_alone}
use Rattle.sk_show.proofs.survey_rows.rows_of.Goals as goal

pub returns-in-None-clause-alone : goal.returns-in-None-clause-alone
returns-in-None-clause-alone c =
    let named = c.in_ok-named-in-None.named.items in
    IfOk-weaker c.rows.result (λ rows. StandAlone named rows.items) (λ rows. All (TellsNamedAlone c.args.architecture) rows.items)
    (λ rows stand. named_alone c.args.architecture named rows.items c.in_ok-named-in-None.ensures.each stand)
    (subst (λ (named : List ℕ). IfOk c.rows.result (λ rows. StandAlone named rows.items)) c.deref.ensures.value c.rows.ensures.alone)
