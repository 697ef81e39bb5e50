use Rattle.std.proofs.Common.{◌≡◌, ◌++◌, ◌∙◌, ap, codes, append_assoc, subst, List, OnOk}
use Rattle.json.specs.Token.{Token}
use Rattle.sk_document.specs.Documents.{at}
use Rattle.sk_document.specs.ReplayDocument.{undecided_at, undecided_said}
use Rattle.sk_document.proofs.replay.add_undecided_at.Goals as goal

pub returns : goal.returns
unfolding undecided_at
returns c = record {
  added =
      subst (λ (tokens : List Token). OnOk c.add_undecided.result (c.add_undecided.new.to ≡ tokens))
      (ap (λ (tokens : List Token). tokens ++ undecided_said c.args.judged) c.in_ok-at.ensures.added ∙ append_assoc c.args.to.now (at (codes "undecided_by")) (undecided_said c.args.judged))
      c.add_undecided.ensures.added;
}
