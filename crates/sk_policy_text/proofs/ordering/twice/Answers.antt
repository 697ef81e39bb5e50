use Rattle.std.proofs.Common.{◌∷◌, map, refl, ap, subst, arith}
use Rattle.sk_policy_text.specs.PolicyRanges.{part_of, Rise, PartsApart}
use Rattle.sk_policy_text.proofs.Ranging.{Passed, twice_here, passed_more, apart_more}
use Rattle.sk_policy_text.proofs.ordering.twice.Goals as goal

pub returns-then-next-last-clause-twice : goal.returns-then-next-last-clause-twice
returns-then-next-last-clause-twice c =
    let steps = ap (map part_of) c.in-Some.ensures.cases.0 in
    let all = map part_of c.args.spans.now in
    let last = part_of c.loop-next.last.now in
    twice_here all last (part_of c.in-Some.next.now) (map part_of c.in-Some.rest.now) _
    (subst (Passed all last) steps c.loop-next.invariant.passed) (subst (λ left. Rise (last ∷ left)) steps c.loop-next.invariant.rise)
    (omega arith) refl c.max.ensures c.min.ensures

pub loop-next-preserved : goal.loop-next-preserved
loop-next-preserved c =
    let steps = ap (map part_of) c.in-Some.ensures.cases.0 in
    let all = map part_of c.args.spans.now in
    let last = part_of c.loop-next.last.now in
    let next = part_of c.in-Some.next.now in
    let rest = map part_of c.in-Some.rest.now in
    let rise = subst (λ left. Rise (last ∷ left)) steps c.loop-next.invariant.rise in
    record {
      passed = passed_more all last next rest (subst (Passed all last) steps c.loop-next.invariant.passed) rise (omega arith);
      rise = rise.2;
      apart = λ more. subst (λ left. PartsApart (last ∷ left) → PartsApart all) steps c.loop-next.invariant.apart (apart_more last next rest rise (omega arith) more);
    }
