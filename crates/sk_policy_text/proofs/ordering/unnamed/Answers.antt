use Rattle.std.proofs.Common.{◌+◌, map, ap, sym, subst, arith}
use Rattle.sk_policy_text.specs.PolicyRanges.{part_of}
use Rattle.sk_policy_text.proofs.Ranging.{Named, unnamed_here, named_more}
use Rattle.sk_policy_text.proofs.ordering.unnamed.Goals as goal

pub returns-then-number-from-clause-some : goal.returns-then-number-from-clause-some
returns-then-number-from-clause-some c =
    let steps = ap (map part_of) c.in-Some.ensures.cases.0 in
    let number = c.native_from-number.ensures in
    unnamed_here _ _ c.loop-span.next _ (part_of c.in-Some.span.now) (map part_of c.in-Some.rest.now)
    (subst (Named _ _ c.loop-span.next) steps c.loop-span.invariant.named) number.behind (omega arith) number.native number.first

pub loop-span-preserved : goal.loop-span-preserved
loop-span-preserved c =
    let steps = ap (map part_of) c.in-Some.ensures.cases.0 in
    let number = c.native_from-number.ensures in
    let all = map part_of c.args.spans.now in
    let rest = map part_of c.in-Some.rest.now in record {
      named = subst (λ last. Named c.args.architecture all (last + 1) rest) (sym c.from-next.ensures)
          (named_more c.args.architecture all c.loop-span.next c.native_from-number.result (part_of c.in-Some.span.now) rest
          (subst (Named c.args.architecture all c.loop-span.next) steps c.loop-span.invariant.named) number.behind (omega arith) number.first);
      inside = omega arith;
    }
