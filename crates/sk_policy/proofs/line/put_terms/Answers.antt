use Rattle.std.proofs.Common.{◌-◌, length, ap, arith, length-append}
use Rattle.sk_policy.specs.Code.{terms_code}
use Rattle.sk_policy.proofs.Ending.{term_part, term_end, terms_are, goes_on, is_whole, over_on, over_first}
use Rattle.sk_policy.proofs.Ruling.{handed_on}
use Rattle.sk_policy.proofs.line.put_terms.Goals as goal

pub returns-in_err-put_placed-clause-long : goal.returns-in_err-put_placed-clause-long
returns-in_err-put_placed-clause-long c =
    handed_on _ _ _ c.from_residual.ensures.1
    (λ is. over_first (term_part c.args.held) (term_end c.args.held c.args.failed) (λ terms. terms_code terms c.args.held c.args.failed) (terms_are c.args.held c.args.failed) c.args.terms.now c.in-Some.before.now c.in-Some.last.now c.args.code.now c.in-Some.ensures.cases.0
    (c.in_err-put_placed.ensures.long is))

pub returns-in_err-put_placed-2-clause-long : goal.returns-in_err-put_placed-2-clause-long
returns-in_err-put_placed-2-clause-long c =
    let loop = c.loop-term in
    let behind = c.len.result - c.len-end.result in
    handed_on _ _ _ c.from_residual-in_err-put_placed-2.ensures.1
    (λ is. over_on (term_part c.args.held) (term_end c.args.held c.args.failed) (λ terms. terms_code terms c.args.held c.args.failed) (terms_are c.args.held c.args.failed) c.args.terms.now loop.left.now c.in-Some-split_last.others.now c.in-Some-split_last.term.now c.args.code.now loop.code behind
    loop.invariant.writes c.in-Some-split_last.ensures.cases.0 (omega (arith, loop.invariant.more, c.len.ensures.len, c.len-end.ensures.len))
    (c.in_err-put_placed-2.ensures.long is))

pub loop-term-preserved : goal.loop-term-preserved
loop-term-preserved c =
    let loop = c.loop-term in
    let behind = c.len.result - c.len-end.result in
    let it = c.in-Some-split_last.term.now in
    let put = c.in_ok-put_placed-2.ensures.code in record {
      few = c.in_ok-put_placed-2.ensures.few;
      more = omega (arith, loop.invariant.more, ap length put, length-append (term_part c.args.held it behind) loop.code);
      writes = goes_on (term_part c.args.held) (term_end c.args.held c.args.failed) c.args.terms.now loop.left.now c.in-Some-split_last.others.now it c.args.code.now loop.code c.put_placed-in-Some-split_last.new.code behind
          loop.invariant.writes c.in-Some-split_last.ensures.cases.0 (omega (arith, loop.invariant.more, c.len.ensures.len, c.len-end.ensures.len)) put;
    }

pub returns-clause-code : goal.returns-clause-code
returns-clause-code c =
    is_whole (term_part c.args.held) (term_end c.args.held c.args.failed) (λ terms. terms_code terms c.args.held c.args.failed) (terms_are c.args.held c.args.failed) c.args.terms.now c.loop-term.left.now c.args.code.now c.loop-term.code c.loop-term.invariant.writes
    c.in_default-split_last.ensures.cases
