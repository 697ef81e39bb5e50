use Rattle.std.proofs.Common.{◌-◌, ◌∷◌, [], length, ap, ◌∙◌, arith, length-append}
use Rattle.sk_policy.specs.Code.{equals_code}
use Rattle.sk_policy.proofs.Ending.{equal_part, equal_end, equals_are, goes_on, is_whole}
use Rattle.sk_policy.proofs.joined.put_equals.Goals as goal

pub loop-term-preserved : goal.loop-term-preserved
loop-term-preserved c =
    let loop = c.loop-term in
    let behind = c.len.result - c.len-end.result in
    let it = c.in-Some-split_last.term.now in
    let others = c.in-Some-split_last.others.now in
    let split = c.in-Some-split_last.ensures.cases.0 in
    let put = c.in_ok-put-2.ensures.first ∙ ap (λ insn. insn ∷ loop.code) c.is_number-in-Some-split_last.ensures.insn in record {
      count = omega (arith, loop.invariant.count, ap length put, ap length split, length-append others (it ∷ []));
      more = omega (arith, loop.invariant.more, ap length put);
      writes = goes_on (equal_part c.args.held) (equal_end c.args.held c.args.failed) c.args.terms.now loop.left.now others it c.args.code.now loop.code c.put-in-Some-split_last.new.self behind
          loop.invariant.writes split (omega (arith, loop.invariant.more, c.len.ensures.len, c.len-end.ensures.len)) put;
    }

pub returns-clause-code : goal.returns-clause-code
returns-clause-code c =
    is_whole (equal_part c.args.held) (equal_end c.args.held c.args.failed) (λ terms. equals_code terms c.args.held c.args.failed) (equals_are c.args.held c.args.failed) c.args.terms.now c.loop-term.left.now c.args.code.now c.loop-term.code c.loop-term.invariant.writes
    c.in_default-split_last.ensures.cases
