-- The first fault of a program as a function, for definitions that go on with its answer. Valid says
-- what it means: it is none exactly where IsValid holds, and else the fault of which IsFirstFault holds.
use Rattle.std.specs.Prelude.{ℕ, zero, suc, ◌-◌, ◌==◌, nat_lt, nat_le, Bool, false, not, ◌&&◌, ◌||◌, List, [], ◌∷◌, Option, Some, None, length, slice_get}
use Rattle.std.specs.Option.{option_and_then, option_or}
use Rattle.sk_insn.specs.declared.insn.Insn.{Insn}
use Rattle.sk_insn.specs.declared.operation.Operation.{Operation}
use Rattle.sk_insn.specs.Operations.{operation_of}
use Rattle.sk_filter.specs.declared.fault.CheckFault.{CheckFault}
use Rattle.sk_filter.specs.declared.fault.CheckFault.TheVariants.{Empty, TooLong, NoReturn, Unstored}
use Rattle.sk_filter.specs.Paths.{leads_to, loaded_word, stores, returns}
use Rattle.sk_filter.specs.Places.{unless, fault_of}

-- the first answer that there is
abbrev pub first_answer : List (Option CheckFault) → Option CheckFault
first_answer [] = None
first_answer (answer ∷ answers) = option_or answer (first_answer answers)

-- the first answer for a place below n
abbrev pub first_below : ℕ → (ℕ → Option CheckFault) → Option CheckFault
first_below zero fault_at = None
first_below (suc n) fault_at = option_or (first_below n fault_at) (fault_at n)

-- some place below n passes the test
abbrev pub any_below : ℕ → (ℕ → Bool) → Bool
any_below zero test = false
any_below (suc n) test = test n || any_below n test

-- what a function says of an instruction, if there is one
abbrev pub of_insn : {X : Type 0} → X → Option Insn → (Option Operation → Insn → X) → X
of_insn absent None says = absent
of_insn absent (Some insn) says = says (operation_of insn.code) insn

-- some path of at most so many steps to the place stores no such word
abbrev pub is_bare : List Insn → ℕ → ℕ → ℕ → Bool
is_bare insns word zero place = place == 0
is_bare insns word (suc steps) place =
    (place == 0) || any_below place (λ before. of_insn false (slice_get insns before) (λ operation insn. leads_to before place operation insn && not (stores word operation insn)) && is_bare insns word steps before)

-- a load of a word that is missing: a path to a place has no more steps than there are places before it
abbrev pub unstored_of : List Insn → ℕ → Option Operation → Insn → Option CheckFault
unstored_of insns place operation insn =
    option_and_then (λ word. unless (not (is_bare insns word place place)) (Unstored place word)) (loaded_word operation insn)

-- the fault of the instruction at a place by itself
abbrev pub own_fault : List Insn → ℕ → Option CheckFault
own_fault insns place = of_insn None (slice_get insns place) (fault_of place (length insns))

-- the fault of the load at a place
abbrev pub path_fault : List Insn → ℕ → Option CheckFault
path_fault insns place = of_insn None (slice_get insns place) (unstored_of insns place)

-- stage by stage: its length, its instructions one by one, its end, its paths
unfoldable pub first_fault : List Insn → Option CheckFault
first_fault insns =
    first_answer (unless (nat_lt 0 (length insns)) Empty ∷
    unless (nat_le (length insns) 4096) TooLong ∷
    first_below (length insns) (own_fault insns) ∷
    unless (of_insn false (slice_get insns (length insns - 1)) returns) NoReturn ∷
    first_below (length insns) (path_fault insns) ∷
    [])
