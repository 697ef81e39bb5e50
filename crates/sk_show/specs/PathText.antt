-- The text of `ask why`: the path through each filter, the newest first, and where the verdict comes from.
use Rattle.std.specs.Prelude.{ℕ, ◌≡◌, ◌≢◌, ◌-◌, ◌++◌, nat_lt, Bool, true, false, if◌then◌else◌, List, [], ◌∷◌, length, codes, replicate, slice_get, Option, Some, None}
use Rattle.std.specs.Fmt.{decimal}
use Rattle.std.specs.List.{join_with_byte}
use Rattle.sk_insn.specs.declared.insn.Insn.{Insn}
use Rattle.sk_insn.specs.declared.record.Record.{Record}
use Rattle.sk_insn.specs.declared.operation.Operand.{Operand}
use Rattle.sk_insn.specs.declared.operation.Operand.TheVariants.{Constant, IndexRegister}
use Rattle.sk_insn.specs.declared.operation.Comparison.{Comparison}
use Rattle.sk_insn.specs.declared.operation.Comparison.TheVariants.{Equal, Greater, GreaterOrEqual, CommonBits}
use Rattle.sk_insn.specs.declared.operation.Operation.{Operation}
use Rattle.sk_insn.specs.declared.operation.Operation.TheVariants.{Jump, Branch}
use Rattle.sk_insn.specs.Operations.{operation_of}
use Rattle.sk_asm.specs.Listing.{words_for}
use Rattle.sk_names.specs.declared.architecture.Architecture.{Architecture}
use Rattle.sk_names.specs.Names.{name_on}
use Rattle.sk_filter.specs.Meaning.{holds, meaning_of}
use Rattle.sk_filter.specs.Verdict.{meaning_value, values_of, verdict_of}
use Rattle.sk_show.specs.Examples.{ComesFrom}
use Rattle.sk_filter.specs.VerdictText.{verdict_text}
use Rattle.sk_show.specs.declared.tracing.Registers.{Registers}
use Rattle.sk_show.specs.declared.tracing.Step.{Step}
use Rattle.sk_show.specs.declared.held.Held.{Held}
use Rattle.sk_show.specs.declared.held.Held.TheVariants.{Number, Other}
use Rattle.sk_show.specs.Holding.{held_behind}
use Rattle.sk_show.specs.Paths.{path_of}

-- so many spaces (32)
abbrev pub spaces : ℕ → List ℕ
spaces count = replicate count 32

-- ---- what was compared

-- what stands between A and the operand: the comparison that came out true
abbrev pub sign : Comparison → Bool → List ℕ
sign Equal true = codes " == "
sign Equal false = codes " != "
sign Greater true = codes " > "
sign Greater false = codes " <= "
sign GreaterOrEqual true = codes " >= "
sign GreaterOrEqual false = codes " < "
sign CommonBits held = codes " & "

-- and behind the operand: whether A has one of its bits
abbrev pub bits_text : Comparison → Bool → List ℕ
bits_text CommonBits true = codes " != 0"
bits_text CommonBits false = codes " == 0"
bits_text comparison held = []

-- the name of the call of an architecture that A is compared with, where A holds the call's number
abbrev pub call_text : Option (List ℕ) → List ℕ
call_text None = []
call_text (Some name) = codes " " ++ name

abbrev pub compared_call : Architecture → Held → Comparison → ℕ → List ℕ
compared_call by Number CommonBits b = []
compared_call by Number comparison b = call_text (name_on by b)
compared_call by held comparison b = []

unfoldable pub compared_text : Architecture → Held → Comparison → ℕ → ℕ → List ℕ
compared_text by held comparison a b =
    decimal a ++ (sign comparison (holds comparison a b) ++ (decimal b ++ (compared_call by held comparison b
    ++ bits_text comparison (holds comparison a b))))

-- the operand of a comparison
abbrev pub right_of : Operand → Step → ℕ
right_of Constant step = step.insn.k
right_of IndexRegister step = step.before.x

-- ---- where a jump went

abbrev pub to_text : Option ℕ → List ℕ
to_text None = []
to_text (Some place) = codes "to " ++ decimal place

abbrev pub jump_text : Architecture → Held → Option Operation → Step → List ℕ
jump_text by held (Some Jump) step = codes "  " ++ to_text step.next
jump_text by held (Some (Branch comparison right)) step =
    codes "  " ++ (compared_text by held comparison step.before.a (right_of right step) ++ (codes ": " ++ to_text step.next))
jump_text by held operation step = []

-- ---- one instruction

-- a place ends in the fourth column
abbrev pub indent : ℕ → ℕ
indent place = if nat_lt place 10 then 3 else if nat_lt place 100 then 2 else if nat_lt place 1000 then 1 else 0

-- an instruction as a listing has it, on 24 columns or more
abbrev pub padded : List ℕ → List ℕ
padded text = text ++ spaces (24 - length text)

abbrev pub registers_text : Registers → List ℕ
registers_text registers = codes " A=" ++ (decimal registers.a ++ (codes " X=" ++ decimal registers.x))

unfoldable pub step_text : Architecture → Held → Step → List ℕ
step_text by held step =
    spaces (indent step.place) ++ (decimal step.place ++ (codes " " ++ (padded (join_with_byte 32 (words_for step.insn))
    ++ (registers_text step.behind ++ (jump_text by held (operation_of step.insn.code) step ++ codes "\n")))))

-- ---- one filter

-- the steps, where it is known what A holds before the first
abbrev pub steps_text : Architecture → Held → List Step → List ℕ
steps_text by held [] = []
steps_text by held (step ∷ steps) =
    step_text by held step ++ steps_text by (held_behind (operation_of step.insn.code) step.insn held) steps

-- the filter's number, where the oldest is 0, its path, and its value
unfoldable pub filter_text : Architecture → ℕ → List Insn → Record → List ℕ
filter_text by number insns call =
    codes "filter " ++ (decimal number ++ (codes "\n" ++ (steps_text by Other (path_of insns call)
    ++ (codes "  " ++ (verdict_text (meaning_value (meaning_of insns call)) ++ codes "\n")))))

abbrev pub filters_text : Architecture → List (List Insn) → Record → List ℕ
filters_text by [] call = []
filters_text by (newest ∷ older) call = filter_text by (length older) newest call ++ filters_text by older call

-- ---- the verdict

-- the filter and the place that the verdict comes from
abbrev pub source_text : Option (ℕ × ℕ) → List ℕ
source_text None = []
source_text (Some (filter, place)) = codes " by filter " ++ (decimal filter ++ (codes " at " ++ decimal place))

abbrev pub verdict_line : ℕ → Option (ℕ × ℕ) → List ℕ
verdict_line verdict source = verdict_text verdict ++ (source_text source ++ codes "\n")

-- the value comes from there; or no filter answers it
abbrev pub IsSource : List (List Insn) → Record → ℕ → Option (ℕ × ℕ) → Type 0
IsSource programs call value None = (newer : ℕ) → slice_get (values_of programs call) newer ≢ Some value
IsSource programs call value (Some (filter, place)) = ComesFrom programs call value filter place

-- the whole text of a chain and a call, with the names of calls that an architecture has
abbrev pub TellsWhy : Architecture → List (List Insn) → Record → List ℕ → Type 0
TellsWhy by programs call text =
    (source : Option (ℕ × ℕ)) × IsSource programs call (verdict_of programs call) source
    × (text ≡ filters_text by programs call ++ verdict_line (verdict_of programs call) source)
