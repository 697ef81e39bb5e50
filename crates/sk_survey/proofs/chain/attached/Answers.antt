use Rattle.std.proofs.Common.{◌++◌, ap, sym, ◌∙◌, arith}
use Rattle.sk_survey.proofs.Chains.{room}
use Rattle.sk_survey.proofs.chain.attached.Goals as goal

pub unreachable-requires : goal.unreachable-requires
unreachable-requires c =
    let all = ap (λ programs. programs ++ c.loop-program.chain) (sym c.in-Some.ensures.items) ∙ c.loop-program.invariant in
    let left = room c.pop.new.self.items c.in-Some.program c.loop-program.chain c.args.programs.items all c.requires.limited in
    let over = c.in-Err-default-default-PathLimit.ensures.limit.0 c.in-Err-default-default-PathLimit.field-0-2-is in
    omega (arith, left, over)
