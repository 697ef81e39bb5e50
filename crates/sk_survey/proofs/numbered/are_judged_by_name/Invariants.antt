use Rattle.std.proofs.Common.{true, take}
use Rattle.std.specs.List.{All}
use Rattle.sk_names.specs.Architectures.{audit_of}
use Rattle.sk_survey.specs.ChainsFor.{chain_for}
use Rattle.sk_survey.specs.Alike.{IsAsNamesake, namesake}
use Rattle.sk_survey.proofs.numbered.are_judged_by_name.Given as goal

-- the calls with the numbers before this one are answered as their namesakes
abbrev pub invariant-loop-nr : goal.invariant-loop-nr
invariant-loop-nr l =
    All (λ nr. IsAsNamesake l.chain (chain_for (audit_of l.fn.architecture) l.chain) (namesake l.fn.architecture nr) nr true) (take l.nr-index l.numbers)
