use Rattle.std.proofs.Common.{true, take, bit_or}
use Rattle.std.specs.List.{All}
use Rattle.sk_names.specs.Architectures.{audit_of}
use Rattle.sk_survey.specs.ChainsFor.{chain_for}
use Rattle.sk_survey.specs.Alike.{IsAlike}
use Rattle.sk_survey.proofs.numbered.are_judged_alike.Given as goal

-- the numbers before this one are answered alike
abbrev pub invariant-loop-nr : goal.invariant-loop-nr
invariant-loop-nr l = All (λ nr. IsAlike l.chain (chain_for (audit_of l.fn.architecture) l.chain) nr (bit_or nr l.bits) true) (take l.nr-index l.numbers)
