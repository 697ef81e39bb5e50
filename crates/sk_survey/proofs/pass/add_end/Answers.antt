use Rattle.std.proofs.Common.{◌≡◌, ◌⊎◌, inl, inr, subst, sym}
use Rattle.sk_filter.specs.Meaning.{Ends}
use Rattle.sk_survey.specs.Answers.{IsAmong, answers_of}
use Rattle.sk_survey.specs.Following.{Leads, TellsEnd}
use Rattle.sk_survey.proofs.pass.add_end.Goals as goal

pub returns-in-FollowingOrZero-clause-added : goal.returns-in-FollowingOrZero-clause-added
returns-in-FollowingOrZero-clause-added c =
    λ ok insn after call value leads.
    let zero : value ≡ 0 = elim (subst (λ next. Leads next insn after call (Ends value)) c.in-FollowingOrZero.is leads) [
      | inl one ↦ let e = one.1 in cc
      | inr e ↦ cc
    ] in
    c.add-in-FollowingOrZero.ensures.added ok call value zero

pub returns-in-FollowingOrZero-clause-only : goal.returns-in-FollowingOrZero-clause-only
returns-in-FollowingOrZero-clause-only c =
    λ value among.
    subst (λ next. IsAmong value (answers_of c.args.answers.now) ⊎ TellsEnd next value) (sym c.in-FollowingOrZero.is)
    (c.add-in-FollowingOrZero.ensures.only value among)
