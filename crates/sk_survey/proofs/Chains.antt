-- Chains for an architecture.
use Rattle.std.proofs.Common.{◌≡◌, ℕ, ◌+◌, ◌≤◌, ◌<◌, ◌%◌, ◌^◌, List, [], ◌∷◌, ◌++◌, length, refl, sym, ap, subst, ◌∙◌, append_assoc, arith}
use Rattle.std.proofs.lemmas.List.{length-map}
use Rattle.sk_insn.specs.declared.insn.Insn.{Insn}
use Rattle.sk_insn.specs.declared.record.Record.{Record}
use Rattle.sk_insn.specs.Record.{IsNative}
use Rattle.sk_filter.specs.Valid.{IsValid}
use Rattle.sk_filter.specs.Architectures.{as_native, for_architecture}
use Rattle.sk_filter.specs.Meaning.{meaning_of}
use Rattle.sk_filter.proofs.Architectures.{architectures_are_constants}
use Rattle.sk_filter.specs.Chains.{AllValid, IsWithinLimit, cost_of, path_limit}
use Rattle.sk_filter.specs.Verdict.{first_of, meaning_value, values_of}
use Rattle.sk_survey.specs.declared.change.Change.{Change}
use Rattle.sk_survey.specs.Changes.{all_changed, changed}
use Rattle.sk_survey.specs.ChainsFor.{chain_for, of_architecture, ChainsForArchitectures}

-- a chain with other loads counts as much
pub cost_with : (change : Change) (programs : List (List Insn)) → cost_of (all_changed change programs) ≡ cost_of programs
cost_with change [] = refl
cost_with change (newest ∷ older) =
    let long = length-map newest (changed change) in
    let rest = cost_with change older in
    omega (arith, long, rest)

-- and its older filters count no more
pub cost_behind : (front : List (List Insn)) (back : List (List Insn)) → cost_of back ≤ cost_of (front ++ back)
cost_behind [] back = omega arith
cost_behind (newest ∷ older) back = let rest = cost_behind older back in omega (arith, rest)

-- so for the next one there is room
pub room : (rest : List (List Insn)) (program : List Insn) (chain whole : List (List Insn)) → (rest ++ program ∷ []) ++ chain ≡ whole → IsWithinLimit whole
    → length program + cost_of chain ≤ path_limit
room rest program chain whole e within =
    let same : rest ++ (program ∷ chain) ≡ whole = sym (append_assoc rest (program ∷ []) chain) ∙ e in
    let all = subst (λ programs. cost_of (program ∷ chain) ≤ cost_of programs) same (cost_behind rest (program ∷ chain)) in
    omega (arith, all, within)

one_filter : (insns : List Insn) → IsValid insns → (arch : ℕ) → arch < 2 ^ 32 → (call : Record) → IsNative call
    → meaning_of (for_architecture arch insns) call ≡ meaning_of insns (of_architecture arch call)
one_filter insns valid arch fits call native =
    let same : arch % 2 ^ 32 ≡ arch = omega (arith, fits) in
    let again : as_native (of_architecture arch call) ≡ call = ap (λ a. record call { arch = a }) (sym native) in
    sym
    (architectures_are_constants insns valid (of_architecture arch call)
    ∙ ap (λ a. meaning_of (for_architecture a insns) (as_native (of_architecture arch call))) same
    ∙ ap (meaning_of (for_architecture arch insns)) again)

values_for : (programs : List (List Insn)) → AllValid programs → (arch : ℕ) → arch < 2 ^ 32 → (call : Record) → IsNative call
    → values_of (chain_for arch programs) call ≡ values_of programs (of_architecture arch call)
values_for [] valid arch fits call native = refl
values_for (newest ∷ older) valid arch fits call native =
    let one = ap meaning_value (one_filter newest valid.0 arch fits call native) in
    let rest = values_for older valid.1 arch fits call native in
    ap (λ value. value ∷ values_of (chain_for arch older) call) one
    ∙ ap (λ values. meaning_value (meaning_of newest (of_architecture arch call)) ∷ values) rest

pub chains_for_architectures : ChainsForArchitectures
chains_for_architectures programs valid arch fits call native = ap first_of (values_for programs valid arch fits call native)
