-- Calls of a log, and what a filter sees of them: `struct seccomp_data` of seccomp(2).
use Rattle.std.specs.Prelude.{ℕ, Bool, true, false, List, [], ◌∷◌, length, map, slice_index_or, Option, None}
use Rattle.sk_insn.specs.declared.record.Record.{Record}
use Rattle.sk_names.specs.declared.architecture.Architecture.{Architecture}
use Rattle.sk_names.specs.Architectures.{audit_of}
use Rattle.sk_replay.specs.declared.call.Call.{Call}
use Rattle.sk_replay.specs.declared.value.Value.{Value}
use Rattle.sk_replay.specs.declared.value.Value.TheVariants.{Told, Unknown}

-- the six registers with these arguments, and this in those behind them
abbrev pub registers : List Value → Value → List Value
registers args other =
    slice_index_or args 0 other ∷ slice_index_or args 1 other ∷ slice_index_or args 2 other
    ∷ slice_index_or args 3 other ∷ slice_index_or args 4 other ∷ slice_index_or args 5 other ∷ []

-- the call with these arguments, which a line shows whole: those that are not there are 0
abbrev pub call_with : ℕ → List Value → Call
call_with nr args = record { nr = nr; shown = length args; args = registers args (Told 0); logged = None }

-- the call that a line begins with these arguments: what stands behind them is not known
abbrev pub call_begun : ℕ → List Value → Call
call_begun nr args = record { nr = nr; shown = 6; args = registers args Unknown; logged = None }

-- the call of a record of the kernel, which shows no argument, and the action that it tells
abbrev pub call_recorded : ℕ → Option ℕ → Call
call_recorded nr action = record { nr = nr; shown = 6; args = registers [] Unknown; logged = action }

-- an argument, or 0 where it is not known
abbrev pub number_or_0 : Value → ℕ
number_or_0 (Told number) = number
number_or_0 Unknown = 0

abbrev pub is_unknown : Value → Bool
is_unknown (Told number) = false
is_unknown Unknown = true

-- what a filter sees of it on an architecture, with 0 for what is not known: no log has the instruction pointer, which is 0 here
abbrev pub record_of : Architecture → Call → Record
record_of by call = record { nr = call.nr; arch = audit_of by; ip = 0; args = map number_or_0 call.args }

-- the log shows no number for this argument, from 0 on
abbrev pub is_hidden : Call → ℕ → Bool
is_hidden call i = is_unknown (slice_index_or call.args i (Told 0))
