use Rattle.std.proofs.Common.{◌≡◌, [], ◌∷◌, ◌++◌, sym, ap, ◌∙◌, subst, append_assoc, arith}
use Rattle.std.specs.Prelude.{All, IfSome}
use Rattle.std.proofs.lemmas.List.Elements.{All-nil, All-push}
use Rattle.sk_policy.specs.Policies.{said, CaseThere}
use Rattle.sk_policy.specs.Sizes.{cases_most}
use Rattle.sk_policy_text.specs.PolicyRows.{sentences_of, else_below}
use Rattle.sk_policy_text.specs.PolicySays.{SaysCases}
use Rattle.sk_policy_text.specs.PolicyFaults.{IsCaseOf}
use Rattle.sk_policy_text.specs.PolicySizes.{cases_bound}
use Rattle.sk_policy_text.proofs.Bounding.{cases_behind, case_few}
use Rattle.sk_policy_text.proofs.Casing.{said_behind, case_there, below_more, case_more}
use Rattle.sk_policy_text.proofs.rules.cases_of.Goals as goal

pub loop-first-init : goal.loop-first-init
loop-first-init c =
    let all = c.args.text.now in
    let items = c.new-cases.ensures.items in
    let back : c.split_at.result.1.now ≡ all = c.split_at.ensures.back in record {
      before = ([], sym back);
      below = ap (λ left. else_below (sentences_of left)) back;
      there = subst (All CaseThere) (sym items) (All-nil CaseThere);
      says = λ call value whole says. subst (λ cases. SaysCases (sentences_of all) call (said cases value call)) (sym items)
          (subst (λ left. SaysCases (sentences_of left) call value) back says);
      size = omega (arith, ap cases_most items, ap (λ left. cases_bound (sentences_of left)) back);
    }

pub loop-first-preserved : goal.loop-first-preserved
loop-first-preserved c =
    let first = c.in-Some.first.now in
    let rest = c.in-Some.rest.now in
    let all = c.args.text.now in
    let steps = c.in-Some.ensures.cases.0 in
    let case = c.in-Some-2.case in
    let is : IsCaseOf first.sentence case = subst (λ found. IfSome found (IsCaseOf first.sentence)) c.in-Some-2.is c.in_ok-case.ensures.some in
    let items = c.in_ok-push.ensures.items in
    let before = c.loop-first.invariant.before in record {
      before = (before.0 ++ first ∷ [], before.1 ∙ ap (λ left. before.0 ++ left) steps ∙ sym (append_assoc before.0 (first ∷ []) rest));
      below = sym (below_more first.sentence (sentences_of rest) case is) ∙ sym (ap (λ left. else_below (sentences_of left)) steps) ∙ c.loop-first.invariant.below;
      there = subst (All CaseThere) (sym items) (All-push CaseThere c.loop-first.cases.items case c.loop-first.invariant.there (case_there first.sentence case is));
      says = λ call value whole says.
          let one = case_more first.sentence (sentences_of rest) case is call whole value says in
          let left = subst (λ left. SaysCases (sentences_of left) call (said (case ∷ []) value call)) (sym steps) one in
          let all_of_them = c.loop-first.invariant.says call (said (case ∷ []) value call) whole left in
          let same : said c.push.new.self.items value call ≡ said c.loop-first.cases.items (said (case ∷ []) value call) call =
          ap (λ cases. said cases value call) items ∙ said_behind c.loop-first.cases.items (case ∷ []) value call in
          subst (SaysCases (sentences_of all) call) (sym same) all_of_them;
      size = omega (
        arith,
        c.loop-first.invariant.size,
        ap cases_most items,
        cases_behind c.loop-first.cases.items case,
        ap (λ left. cases_bound (sentences_of left)) steps,
        case_few first.sentence (sentences_of rest) case is,
      );
    }
