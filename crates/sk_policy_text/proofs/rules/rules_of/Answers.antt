use Rattle.std.proofs.Common.{◌≡◌, ◌+◌, ◌≤◌, ◌^◌, [], ◌∷◌, map, ap, sym, subst, arith, rules}
use Rattle.std.specs.Prelude.{All, Contains}
use Rattle.std.proofs.lemmas.List.Elements.{All-head, All-nil}
use Rattle.sk_policy.specs.Sizes.{rules_most}
use Rattle.sk_policy_text.specs.PolicyRows.{Part, sentences_of}
use Rattle.sk_policy_text.specs.PolicyRanges.{part_of}
use Rattle.sk_policy_text.specs.PolicyRules.{HasElse, AddsGap}
use Rattle.sk_policy_text.specs.PolicySizes.{gap_bound, parts_bound}
use Rattle.sk_policy_text.proofs.Bounding.{words_few, rules_behind, gap_few, parts_cons}
use Rattle.sk_policy_text.proofs.Ruling.{Ruled, none_ruled, later_parts, unread_among, none_left, with_gap, with_rule, all_ruled}
use Rattle.sk_policy_text.proofs.rules.rules_of.Goals as goal

pub loop-span-init : goal.loop-span-init
loop-span-init c =
    let all = map part_of c.args.spans.now in
    let start : c.split_at.result.1.now ≡ c.args.spans.now = c.split_at.ensures.back in record {
      ruled = subst (λ rules. Ruled c.args.architecture c.args.others all rules 0 (map part_of c.split_at.result.1.now)) (sym c.new-rules.ensures.items)
          (subst (λ left. Ruled c.args.architecture c.args.others all [] 0 (map part_of left)) (sym start)
          (none_ruled c.args.architecture c.args.others all c.requires.apart c.requires.closed));
      inside = omega arith;
      room = omega (arith, ap (λ left. parts_bound (map part_of left)) start);
      size = omega (arith, ap rules_most c.new-rules.ensures.items, ap (λ left. parts_bound (map part_of left)) start);
    }

pub rule_of-requires : goal.rule_of-requires
rule_of-requires c =
    let steps = ap (map part_of) c.in-Some.ensures.cases.0 in record {
      closed = All-head HasElse (part_of c.in-Some.span.now) (map part_of c.in-Some.rest.now) (subst (All HasElse) steps c.loop-span.invariant.ruled.closed);
    }

pub returns-in_err-rule-clause-fault : goal.returns-in_err-rule-clause-fault
returns-in_err-rule-clause-fault c =
    let steps = ap (map part_of) c.in-Some.ensures.cases.0 in
    let all = map part_of c.args.spans.now in
    let among = unread_among all (part_of c.in-Some.span.now) (map part_of c.in-Some.rest.now) c.in_err-rule.field-0.0
    (subst (All (Contains all)) steps c.loop-span.invariant.ruled.inside) c.in_err-rule.ensures.fault in
    search rules

pub returns-in_default-behind_span-clause-fault : goal.returns-in_default-behind_span-clause-fault
returns-in_default-behind_span-clause-fault c =
    let steps = ap (map part_of) c.in-Some.ensures.cases.0 in
    let part = part_of c.in-Some.span.now in
    omega (
      arith,
      c.loop-span.invariant.room,
      c.in_default-behind_span.ensures.none,
      words_few part.verdict (sentences_of part.behind),
      ap parts_bound steps,
      parts_cons part (map part_of c.in-Some.rest.now),
    )

pub loop-span-preserved : goal.loop-span-preserved
loop-span-preserved c =
    let steps = ap (map part_of) c.in-Some.ensures.cases.0 in
    let all = map part_of c.args.spans.now in
    let part = part_of c.in-Some.span.now in
    let rest = map part_of c.in-Some.rest.now in
    let before : Ruled c.args.architecture c.args.others all c.loop-span.rules.items c.loop-span.next (part ∷ rest) =
    subst (Ruled c.args.architecture c.args.others all c.loop-span.rules.items c.loop-span.next) steps c.loop-span.invariant.ruled in
    let adds : AddsGap c.args.architecture c.args.others c.loop-span.next part.first c.loop-span.rules.items c.push_gap.new.rules.items =
    subst (λ end. AddsGap c.args.architecture c.args.others c.loop-span.next end c.loop-span.rules.items c.push_gap.new.rules.items) c.from.ensures c.in_ok-push_gap.ensures.adds in
    let order = All-head (λ (part : Part). c.loop-span.next ≤ part.first) part rest before.behind in
    let with = with_gap c.args.architecture c.args.others all c.loop-span.rules.items c.push_gap.new.rules.items c.loop-span.next part.first (part ∷ rest) before order
    (later_parts part rest before.left_apart) adds in record {
      ruled = subst (λ last. Ruled c.args.architecture c.args.others all c.push.new.self.items (last + 1) rest) (sym c.from-next.ensures)
          (with_rule c.args.architecture c.args.others all c.push_gap.new.rules.items c.push.new.self.items part rest c.in_ok-rule.rule with c.in_ok-push.ensures.items c.in_ok-rule.ensures.rule);
      inside = omega arith;
      room = omega (
        arith,
        c.loop-span.invariant.room,
        c.in-Some-behind_span.ensures.left,
        words_few part.verdict (sentences_of part.behind),
        ap parts_bound steps,
        parts_cons part rest,
      );
      size = omega (
        arith,
        c.loop-span.invariant.size,
        ap parts_bound steps,
        parts_cons part rest,
        c.in_ok-push_gap.ensures.size,
        ap gap_bound c.from.ensures,
        ap rules_most c.in_ok-push.ensures.items,
        rules_behind c.push_gap.new.rules.items c.in_ok-rule.rule,
        c.in_ok-rule.ensures.size,
      );
    }

pub returns-clause-rules : goal.returns-clause-rules
returns-clause-rules c =
    let all = map part_of c.args.spans.now in
    let none : c.loop-span.left.now ≡ [] = none_left c.loop-span.left.now c.in_default.ensures.cases in
    let ruled = subst (λ left. Ruled c.args.architecture c.args.others all c.loop-span.rules.items c.loop-span.next (map part_of left)) none c.loop-span.invariant.ruled in
    all_ruled c.args.architecture c.args.others all c.push_gap-2.new.rules.items
    (with_gap c.args.architecture c.args.others all c.loop-span.rules.items c.push_gap-2.new.rules.items c.loop-span.next (2 ^ 32) [] ruled c.loop-span.invariant.inside
    (All-nil (λ (part : Part). 2 ^ 32 ≤ part.first)) c.in_ok-push_gap-2.ensures.adds)

pub returns-clause-size : goal.returns-clause-size
returns-clause-size c = omega (arith, c.loop-span.invariant.size, c.in_ok-push_gap-2.ensures.size, gap_few (2 ^ 32))
