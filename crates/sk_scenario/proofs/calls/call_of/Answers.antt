use Rattle.std.proofs.Common.{sym, rules}
use Rattle.sk_scenario.proofs.Common.{call_of}
use Rattle.sk_scenario.proofs.calls.call_of.Goals as goal

pub returns-in_err-d : goal.returns-in_err-d
unfolding call_of
returns-in_err-d c =
    let a = sym c.in_ok-a.ensures.exact in
    let b = sym c.in_ok-b.ensures.exact in
    let e = sym c.in_ok-c.ensures.exact in
    let d = sym c.in_err-d.ensures.exact in
    record { exact = rw (a, b, e, d) (search rules) }
