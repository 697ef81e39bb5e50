use Rattle.std.proofs.Common.{◌≡◌, ◌+◌, ◌-◌, ◌∙◌, ap, arith, refl, subst, sym, Err, inr}
use Rattle.sk_scenario.proofs.Common.{err_from_is_err_and, lines_of, until_end, assembled_lines, held, coded, known_seen}
use Rattle.sk_scenario.proofs.Coding.{coded_by}
use Rattle.sk_scenario.proofs.filters.assemble.Goals as goal

pub returns-in_err-hold-in-Err : goal.returns-in_err-hold-in-Err
returns-in_err-hold-in-Err c =
    let p = err_from_is_err_and c.from_residual-in_err-hold-in-Err.result c.from_residual-in_err-hold-in-Err.ensures.1 in
    let why = c.in_ok-why-in-Err.ensures.exact in
    let told = ap (held (known_seen c.args.known)) (sym why.1) ∙ c.in_err-hold-in-Err.ensures.exact in
    let start : c.args.n - 1 + 1 ≡ c.args.n = omega (arith, c.requires.first) in
    let coded_is = subst (λ n. coded (known_seen c.args.known) (assembled_lines n (until_end (lines_of c.args.ahead.now))) ≡ Err c.in_err-hold-in-Err.field-0.0) start (coded_by (known_seen c.args.known) c.in-Err.fault _ _ why.0 c.in-Err.ensures.exact told) in
    record { exact = rw (p.1, p.2) (inr (c.in_err-hold-in-Err.field-0.0, refl, coded_is)) }
