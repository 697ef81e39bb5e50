-- What `ask filter --smaller` tells: one filter in place of those of a chain, where it has fewer instructions than they have together.
use Rattle.std.specs.Prelude.{ℕ, ◌≡◌, ◌⊎◌, ◌++◌, ◌==◌, ◌^◌, nat_lt, sum_by, Bool, false, if◌then◌else◌, List, [], ◌∷◌, length, codes}
use Rattle.std.specs.Bool.{MatchBool}
use Rattle.std.specs.Fmt.{decimal}
use Rattle.sk_insn.specs.declared.insn.Insn.{Insn}
use Rattle.sk_filter.specs.Valid.{IsValid}
use Rattle.sk_conditions.specs.Steps.{NeverPart}
use Rattle.sk_policy_when.specs.declared.smaller.OneFilterFault.{OneFilterFault}
use Rattle.sk_policy_when.specs.declared.smaller.OneFilterFault.TheVariants.{Untold, SeveralOthers, UnknownOthers, TooLong, Memory}
use Rattle.sk_policy_when.specs.Smaller.{AnswersAs, IsNoFilter}
use Rattle.sk_ask.specs.Complaints.{of_word}
use Rattle.sk_ask.specs.Endings.{Ending, answered, refused, no_memory, ComesTo}
use Rattle.sk_ask.specs.Steps.{MayBeSpent, when_steps}
use Rattle.sk_ask.specs.Targets.{Gives, written_text}
use Rattle.sk_ask.specs.declared.target.Target.{Target}

-- how many instructions filters have together
abbrev pub size_of : List (List Insn) → ℕ
size_of programs = sum_by length programs

-- one filter that answers every call as the filters of a chain do
pub record IsInPlaceOf (programs : List (List Insn)) (insns : List Insn) : Type 0 where
  pub valid : IsValid insns
  pub answers : AnswersAs programs insns

-- why there is none, as far as the steps reach that ask gives; where all calls of each row go one way through each filter, the steps of
-- no row were used up
abbrev pub HasNone : (ℕ → Bool) → List (List Insn) → OneFilterFault → Type 0
HasNone may_spend programs fault =
    (is_spent : Bool) × IsNoFilter programs is_spent fault × MayBeSpent may_spend when_steps is_spent
    × (NeverPart 0 (2 ^ 32) programs → is_spent ≡ false)

-- ---- what is said

abbrev pub counted : ℕ → List ℕ
counted count = decimal count ++ (if count == 1 then codes " instruction" else codes " instructions")

-- so many instructions, where as many were
abbrev pub in_place_text : ℕ → ℕ → List ℕ
in_place_text count all = counted count ++ (codes " in place of " ++ decimal all)

abbrev pub saved_line : ℕ → ℕ → List ℕ
saved_line count all = of_word (codes "filter: " ++ in_place_text count all) []

abbrev pub unsaved_line : List ℕ → List ℕ
unsaved_line what = of_word (codes "filter: no smaller one was found: " ++ what) []

abbrev pub fault_line : List ℕ → List ℕ
fault_line what = of_word (codes "filter: " ++ what) []

-- ---- the answer

-- where the filter in their place is no smaller: a single one is answered as it is, and of several there is none
abbrev pub unsaved : Target → ℕ → List (List Insn) → List ℕ → Ending
unsaved target count (program ∷ []) notes = answered (notes ++ unsaved_line (counted (length program))) (written_text target program) false
unsaved target count chain notes = refused (unsaved_line (in_place_text count (size_of chain)))

-- of the filters of a chain, where these instructions are one filter in their place
abbrev pub ending_with : Target → List Insn → List (List Insn) → List ℕ → Ending
ending_with target insns chain notes =
    if nat_lt (length insns) (size_of chain) then answered (notes ++ saved_line (length insns) (size_of chain)) (written_text target insns) false
    else unsaved target (length insns) chain notes

abbrev pub ending_without : OneFilterFault → Ending
ending_without Untold = refused (fault_line (codes "the filters could not be followed"))
ending_without SeveralOthers = refused (fault_line (codes "calls of other architectures get several verdicts: expected one"))
ending_without UnknownOthers = refused (fault_line (codes "which verdict calls of other architectures get is not known"))
ending_without TooLong = refused (fault_line (codes "one filter would have more than 4096 instructions"))
ending_without Memory = no_memory

-- there is one filter in place of a chain, or none
abbrev pub SmallerOf : (ℕ → Bool) → Target → List (List Insn) → List ℕ → Ending → Type 0
SmallerOf may_spend target chain notes ending =
    ((insns : List Insn) × IsInPlaceOf chain insns × ComesTo (ending_with target insns chain notes) ending)
    ⊎ ((fault : OneFilterFault) × HasNone may_spend chain fault × ComesTo (ending_without fault) ending)

-- the filters in another form, or one in their place
abbrev pub TellsFilter : (ℕ → Bool) → Target → Bool → List (List Insn) → List (List ℕ) → List ℕ → Ending → Type 0
TellsFilter may_spend target smaller chain images notes ending =
    MatchBool smaller (SmallerOf may_spend target chain notes ending) (Gives target chain images notes ending)
