-- What A holds before each instruction: the call's number or the architecture, where it does on each way that leads there.
-- Jumps of the BPF machine only go forwards (McCanne and Jacobson 1993), so all ways to an instruction come from before it.
use Rattle.std.specs.Prelude.{ℕ, ◌+◌, ◌==◌, if◌then◌else◌, List, [], ◌∷◌, length, replicate, slice_index_or, slice_set, unwrap_or, Option, Some, None}
use Rattle.sk_insn.specs.declared.insn.Insn.{Insn}
use Rattle.sk_insn.specs.declared.operation.Register.TheVariants.{Index}
use Rattle.sk_insn.specs.declared.operation.Operation.{Operation}
use Rattle.sk_insn.specs.declared.operation.Operation.TheVariants.{LoadRecord, LoadConstant, LoadScratch, LoadLength, StoreScratch, Jump, Branch, CopyToIndex}
use Rattle.sk_insn.specs.Operations.{operation_of}
use Rattle.sk_filter.specs.Paths.{Onward, Nowhere, To, Either, goes_to, onward}
use Rattle.sk_show.specs.declared.held.Held.{Held}
use Rattle.sk_show.specs.declared.held.Held.TheVariants.{Number, Architecture, Other}

-- ---- one instruction

-- a word of the record, by its place
abbrev pub held_word : ℕ → Held
held_word place = if place == 0 then Number else if place == 4 then Architecture else Other

-- a load brings it, and any other change of A takes it away
abbrev pub held_behind : Option Operation → Insn → Held → Held
held_behind (Some LoadRecord) insn held = held_word insn.k
held_behind (Some (LoadConstant Index)) insn held = held
held_behind (Some (LoadScratch Index)) insn held = held
held_behind (Some (LoadLength Index)) insn held = held
held_behind (Some (StoreScratch register)) insn held = held
held_behind (Some Jump) insn held = held
held_behind (Some (Branch comparison right)) insn held = held
held_behind (Some CopyToIndex) insn held = held
held_behind operation insn held = Other

-- ---- ways that come together

abbrev pub joined : Held → Held → Held
joined Number Number = Number
joined Architecture Architecture = Architecture
joined one second = Other

-- either may be none
abbrev pub joined_ways : Option Held → Option Held → Option Held
joined_ways None way = way
joined_ways (Some one) None = Some one
joined_ways (Some one) (Some second) = Some (joined one second)

-- what A holds where jumps go, by the place; nothing where none goes
abbrev pub Jumps : Type 0
Jumps = List (Option Held)

abbrev pub jump_to : Jumps → ℕ → Option Held
jump_to jumps place = slice_index_or jumps place None

-- a jump more
abbrev pub landed : ℕ → Held → Jumps → Jumps
landed place held jumps = slice_set jumps place (joined_ways (jump_to jumps place) (Some held))

-- from one place to another; to go on at the next is no jump
abbrev pub went : ℕ → ℕ → Held → Jumps → Jumps
went at place held jumps = if place == at + 1 then jumps else landed place held jumps

-- behind the instruction at a place
abbrev pub jumps_behind : ℕ → Onward → Held → Jumps → Jumps
jumps_behind at Nowhere held jumps = jumps
jumps_behind at (To place) held jumps = went at place held jumps
jumps_behind at (Either place other) held jumps = went at other held (went at place held jumps)

-- what A holds where it goes on at the next place, if it does
abbrev pub next_behind : ℕ → Onward → Held → Option Held
next_behind at onward held = if goes_to (at + 1) onward then Some held else None

-- ---- a whole filter

-- what A holds where a jump and the instruction before lead
abbrev pub held_before : Option Held → Option Held → Held
held_before jump next = unwrap_or (joined_ways jump next) Other

-- how control comes to an instruction: what A holds where jumps go to it, and before it whichever way was taken
pub record Way : Type 0 where
  pub jump : Option Held
  pub held : Held

-- to each instruction from a place on, where these jumps go on from there, and this is known of the instruction before
unfoldable pub ways_from : ℕ → Jumps → Option Held → List Insn → List Way
ways_from at jumps next [] = []
ways_from at jumps next (insn ∷ insns) =
    let held = held_before (jump_to jumps at) next in
    let behind = held_behind (operation_of insn.code) insn held in
    let goes = onward at (operation_of insn.code) insn in
    record { jump = jump_to jumps at; held = held } ∷ ways_from (at + 1) (jumps_behind at goes behind jumps) (next_behind at goes behind) insns

-- to all: no jump goes anywhere yet, and nothing is known of what A holds before the first
unfoldable pub ways_to : List Insn → List Way
ways_to insns = ways_from 0 (replicate (length insns) None) (Some Other) insns
