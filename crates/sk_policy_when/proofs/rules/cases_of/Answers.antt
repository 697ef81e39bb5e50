use Rattle.std.proofs.Common.{sym, subst}
use Rattle.std.specs.List.{All}
use Rattle.std.proofs.lemmas.List.Elements.{All-push}
use Rattle.sk_policy.specs.Policies.{CaseThere}
use Rattle.sk_policy_when.specs.Again.{AreCasesOf}
use Rattle.sk_policy_when.proofs.Ruled.{case_more, one_more_made}
use Rattle.sk_policy_when.proofs.rules.cases_of.Goals as goal

pub loop-line-preserved : goal.loop-line-preserved
loop-line-preserved c =
    let line = c.in-Some.line in
    let it = c.in-Some-case_of.it in
    let of = c.in-Some-case_of.ensures in
    let cases = c.loop-line.cases.items in
    let items = c.in_ok-push.ensures.items in record {
      made = one_more_made AreCasesOf _ _ _ cases _ line it (λ front are. case_more front cases line it of.value of.choices are) c.in-Some.ensures.steps.0 items c.loop-line.invariant.made;
      there = subst (All CaseThere) (sym items) (All-push CaseThere cases it c.loop-line.invariant.there of.there);
    }
