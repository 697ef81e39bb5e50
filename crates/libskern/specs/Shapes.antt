-- What stands behind the shapes of C.
use Rattle.std.specs.Prelude.{ℕ, List, [], map, Result, Ok, Err}
use Rattle.sk_insn.specs.declared.insn.Insn.{Insn}
use Rattle.sk_insn.specs.declared.record.Record.{Record}
use Rattle.sk_engines.specs.Filters.{chained}
use Rattle.sk_filter.specs.Verdict.{verdict_of}
use Rattle.libskern.specs.declared.call.Call.{Call}
use Rattle.libskern.specs.declared.fault.Fault.{Fault}
use Rattle.libskern.specs.declared.filters.Image.{Image}
use Rattle.libskern.specs.Faults.{refusal_at}

-- what a filter sees of a call: struct seccomp_data of linux/seccomp.h
abbrev pub record_of : Call → Record
record_of call = record { nr = call.nr; arch = call.arch; ip = call.instruction_pointer; args = call.args }

-- and back
abbrev pub call_of : Record → Call
call_of it = record { nr = it.nr; arch = it.arch; instruction_pointer = it.ip; args = it.args }

-- what a chain answers to each of some calls
abbrev pub verdicts_of : List (List Insn) → List Call → List ℕ
verdicts_of chain calls = map (λ call. verdict_of chain (record_of call)) calls

-- the bytes of each filter, in their order
abbrev pub images_of : List Image → List (List ℕ)
images_of filters = map (λ filter. filter.bytes.now) filters

-- the chain of a caller's filters, the oldest first, or the fault of the first one that is refused
abbrev pub chain_in : ℕ → List Image → Result (List (List Insn)) Fault
chain_in side filters = elim (chained 0 [] (images_of filters)) [
  | Ok chain ↦ Ok chain
  | Err (filter, refusal) ↦ Err (refusal_at side filter refusal)
]

-- the old chain and the new one, whose filters have the number 1 for their chain
abbrev pub chains_in : List Image → List Image → Result (List (List Insn) × List (List Insn)) Fault
chains_in old new = elim (chain_in 0 old) [
  | Err fault ↦ Err fault
  | Ok one ↦ elim (chain_in 1 new) [
    | Err fault ↦ Err fault
    | Ok other ↦ Ok (one, other)
  ]
]
