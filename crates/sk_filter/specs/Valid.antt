-- Which programs are valid: the rules of seccomp(2), with a rule of this project's own on scratch words: a word is
-- loaded only after each path to the load has stored it. (Linux is stricter there; docs/LINUX.md says how.) That rule asks nothing of an
-- instruction that no path reaches; every other fault counts at every place, reached or not.
use Rattle.std.specs.Prelude.{ℕ, ◌≡◌, ◌-◌, ◌<◌, ◌⊎◌, false, List, Some, length}
use Rattle.sk_insn.specs.declared.insn.Insn.{Insn}
use Rattle.sk_filter.specs.declared.fault.CheckFault.{CheckFault}
use Rattle.sk_filter.specs.declared.fault.CheckFault.TheVariants.{Empty, TooLong, Code, Load, DivZero, Shift, Word, Jump, NoReturn, Unstored}
use Rattle.sk_filter.specs.Paths.{At, returns, IsUnstored}
use Rattle.sk_filter.specs.Places.{fault_of}

-- the place of a fault, where it has one
abbrev pub fault_place : CheckFault → ℕ
fault_place (Code place) = place
fault_place (Load place) = place
fault_place (DivZero place) = place
fault_place (Shift place) = place
fault_place (Word place) = place
fault_place (Jump place) = place
fault_place (Unstored place word) = place
fault_place fault = 0

-- the instruction at the fault's place has it by itself
abbrev pub HasByItself : List Insn → CheckFault → Type 0
HasByItself insns fault =
    At insns (fault_place fault) (λ operation insn. fault_of (fault_place fault) (length insns) operation insn ≡ Some fault)

-- the program has this fault
abbrev pub HasFault : List Insn → CheckFault → Type 0
HasFault insns Empty = length insns ≡ 0
HasFault insns TooLong = 4096 < length insns
HasFault insns NoReturn = At insns (length insns - 1) (λ operation insn. returns operation insn ≡ false)
HasFault insns (Unstored place word) = IsUnstored insns place word
HasFault insns fault = HasByItself insns fault

-- the program has no fault
abbrev pub IsValid : List Insn → Type 0
IsValid insns = (fault : CheckFault) → HasFault insns fault → ⊥

-- the order in which faults are told: first its length, then its instructions one by one (3), its end,
-- and its paths
abbrev pub stage_of : CheckFault → ℕ
stage_of Empty = 1
stage_of TooLong = 2
stage_of NoReturn = 4
stage_of (Unstored place word) = 5
stage_of fault = 3

-- it is told before the other: at an earlier stage, or at an earlier place of the same stage
abbrev pub GoesBefore : CheckFault → CheckFault → Type 0
GoesBefore fault other =
    (stage_of fault < stage_of other) ⊎ ((stage_of fault ≡ stage_of other) × (fault_place fault < fault_place other))

-- the fault that is told: the program has it, and none that goes before it
abbrev pub IsFirstFault : List Insn → CheckFault → Type 0
IsFirstFault insns fault =
    HasFault insns fault × ((other : CheckFault) → GoesBefore other fault → HasFault insns other → ⊥)
