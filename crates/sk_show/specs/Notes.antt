-- What is said of an instruction beside its place: the field of `struct seccomp_data` of seccomp(2) that a load brings,
-- what A is compared with where A holds the call's number or the architecture, and what a constant that is returned makes
-- of the call. A number is that of a call of the architecture whose calls come there.
use Rattle.std.specs.Prelude.{ℕ, ◌-◌, ◌/◌, ◌%◌, ◌==◌, ◌&&◌, ◌||◌, ◌++◌, nat_le, nat_lt, Bool, false, if◌then◌else◌, List, [], codes, find, Option, Some, None}
use Rattle.std.specs.Fmt.{decimal}
use Rattle.std.specs.Option.{option_map}
use Rattle.sk_insn.specs.declared.insn.Insn.{Insn}
use Rattle.sk_insn.specs.declared.operation.Operand.TheVariants.{Constant}
use Rattle.sk_insn.specs.declared.operation.Comparison.{Comparison}
use Rattle.sk_insn.specs.declared.operation.Comparison.TheVariants.{CommonBits}
use Rattle.sk_insn.specs.declared.operation.Operation.{Operation}
use Rattle.sk_insn.specs.declared.operation.Operation.TheVariants.{LoadRecord, Branch, ReturnConstant}
use Rattle.sk_names.specs.declared.architecture.Architecture.{Architecture as TheArchitecture}
use Rattle.sk_names.specs.Architectures.{architectures, audit_of, is_big_endian_of, text_of}
use Rattle.sk_names.specs.Names.{name_on}
use Rattle.sk_filter.specs.VerdictText.{verdict_text}
use Rattle.sk_show.specs.declared.held.Held.{Held}
use Rattle.sk_show.specs.declared.held.Held.TheVariants.{Number, Architecture, Other}

-- ---- loads

-- where it is known whose calls come there, their numbers may have the highest byte first
abbrev pub is_turned : Option TheArchitecture → Bool
is_turned None = false
is_turned (Some by) = is_big_endian_of by

-- which half of 64 bits begins at a place: the lower one is the first, or else the upper one
abbrev pub half_text : Bool → ℕ → List ℕ
half_text turned place = if place % 8 == (if turned then 4 else 0) then codes " low" else codes " high"

-- an argument begins at each 8th place from 16 on
unfoldable pub argument_text : Bool → ℕ → List ℕ
argument_text turned place = codes " args[" ++ (decimal ((place - 16) / 8) ++ (codes "]" ++ half_text turned place))

-- the word of the record that begins at a place
unfoldable pub field_text : Bool → ℕ → List ℕ
field_text turned place =
    if place == 0 then codes " nr"
    else if place == 4 then codes " arch"
    else if place == 8 || place == 12 then codes " ip" ++ half_text turned place
    else if nat_le 16 place && nat_lt place 64 && place % 4 == 0 then argument_text turned place
    else []

-- ---- comparisons

-- a name, if there is one
abbrev pub named_text : Option (List ℕ) → List ℕ
named_text None = []
named_text (Some name) = codes " " ++ name

-- the first architecture that a filter is shown by this number: x86-64 for the number that x32 has too
abbrev pub architecture_of : ℕ → Option TheArchitecture
architecture_of number = find (λ architecture. audit_of architecture == number) architectures

abbrev pub architecture_text : ℕ → List ℕ
architecture_text number = named_text (option_map text_of (architecture_of number))

-- that of a call, where it is known of which architecture
abbrev pub call_name : Option TheArchitecture → ℕ → Option (List ℕ)
call_name None number = None
call_name (Some by) number = name_on by number

-- bits of a number are those of no call
abbrev pub compared_text : Option TheArchitecture → Held → Comparison → ℕ → List ℕ
compared_text by held CommonBits number = []
compared_text by Number comparison number = named_text (call_name by number)
compared_text by Architecture comparison number = architecture_text number
compared_text by Other comparison number = []

-- ---- all

-- of an instruction before which A holds this
unfoldable pub note_text : Option TheArchitecture → Held → Option Operation → Insn → List ℕ
note_text by held (Some LoadRecord) insn = field_text (is_turned by) insn.k
note_text by held (Some (Branch comparison Constant)) insn = compared_text by held comparison insn.k
note_text by held (Some ReturnConstant) insn = codes " " ++ verdict_text insn.k
note_text by held operation insn = []
