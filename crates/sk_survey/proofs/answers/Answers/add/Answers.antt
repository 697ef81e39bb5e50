use Rattle.std.proofs.Common.{◌⊎◌, subst, sym}
use Rattle.sk_survey.specs.Answers.{IsAmong, answers_of}
use Rattle.sk_survey.specs.Following.{StandsFor}
use Rattle.sk_survey.proofs.answers.Answers.add.Goals as goal

pub returns-in-Is-clause-only : goal.returns-in-Is-clause-only
returns-in-Is-clause-only c =
    λ value among.
    subst (λ known. IsAmong value (answers_of c.args.self.now) ⊎ StandsFor known value) (sym c.in-Is.is)
    (c.add_value.ensures.only value among)
