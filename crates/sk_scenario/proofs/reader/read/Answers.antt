use Rattle.std.proofs.Common.{length, refl, inl, inr, le-ltb}
use Rattle.sk_scenario.proofs.Common.{err_from_is_err_and, scenario, Answers}
use Rattle.sk_scenario.proofs.Found.{text-stands, text-only, text-first, text-told}
use Rattle.sk_scenario.proofs.reader.read.Goals as goal

-- the input is short enough, so its lines decide
exact : (c : goal.After-read_twice) → Answers (λ read. read) c.read_twice.result (scenario c.args.input.now)
unfolding scenario
exact c = let short = le-ltb 1048576 (length c.args.input.now) c.in_ok-judge_length.ensures.exact in rw short c.read_twice.ensures.exact

pub returns-clause-stands : goal.returns-clause-stands
returns-clause-stands c = text-stands (λ read. read) c.args.input.now c.read_twice.result (exact c)

pub returns-clause-only : goal.returns-clause-only
returns-clause-only c setting h = text-only (λ read. read) c.args.input.now c.read_twice.result setting (exact c) h

pub returns-clause-first : goal.returns-clause-first
returns-clause-first c = text-first (λ read. read) c.args.input.now c.read_twice.result (exact c)

pub returns-clause-told : goal.returns-clause-told
returns-clause-told c why h = text-told (λ read. read) c.args.input.now c.read_twice.result why (exact c) h

pub returns-in_err-judge_length-clause-first : goal.returns-in_err-judge_length-clause-first
returns-in_err-judge_length-clause-first c =
    let p = err_from_is_err_and c.from_residual.result c.from_residual.ensures.1 in
    rw (p.1, p.2) (inr (c.in_err-judge_length.field-0.0, refl, inl c.in_err-judge_length.ensures.exact))
