-- How many instructions a chain has, and what it counts against the path limit.
use Rattle.std.proofs.Common.{◌≡◌, ℕ, ◌+◌, ◌*◌, List, [], ◌∷◌, length, refl, arith}
use Rattle.std.proofs.lemmas.List.Sums.{sum_by-cons}
use Rattle.sk_insn.specs.declared.insn.Insn.{Insn}
use Rattle.sk_filter.specs.Chains.{cost_of}
use Rattle.sk_ask.specs.Smaller.{size_of}

pub cost_is : (programs : List (List Insn)) → cost_of programs ≡ size_of programs + 4 * length programs
cost_is [] = refl
cost_is (newest ∷ older) =
    let step : size_of (newest ∷ older) ≡ length newest + size_of older = sum_by-cons length newest older in
    let rest = cost_is older in
    omega (arith, rest, step)
