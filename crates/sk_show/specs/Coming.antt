-- Which calls come to each instruction, by the tests of the architecture on the way there, and whose names the numbers
-- have that A is compared with. Jumps of the BPF machine only go forwards (McCanne and Jacobson 1993).
use Rattle.std.specs.Prelude.{ℕ, ◌≡◌, ◌+◌, ◌==◌, is_some, Bool, false, if◌then◌else◌, List, [], ◌∷◌, filter, length, map, replicate, slice_index_or, Option, Some, None}
use Rattle.sk_insn.specs.declared.insn.Insn.{Insn}
use Rattle.sk_insn.specs.declared.operation.Operand.TheVariants.{Constant}
use Rattle.sk_insn.specs.declared.operation.Operation.{Operation}
use Rattle.sk_insn.specs.declared.operation.Operation.TheVariants.{Jump, Branch}
use Rattle.sk_insn.specs.Operations.{operation_of, code_of}
use Rattle.sk_filter.specs.Meaning.{holds}
use Rattle.sk_filter.specs.Paths.{Onward, onward}
use Rattle.sk_names.specs.declared.architecture.Architecture.{Architecture as TheArchitecture}
use Rattle.sk_names.specs.declared.architecture.Architecture.TheVariants as architecture
use Rattle.sk_names.specs.Architectures.{audit_of}
use Rattle.sk_show.specs.declared.coming.Reach.{Reach}
use Rattle.sk_show.specs.declared.held.Held.{Held}
use Rattle.sk_show.specs.declared.held.Held.TheVariants.{Architecture, Other}
use Rattle.sk_show.specs.Holding.{Jumps, held_behind, joined_ways, jump_to, jumps_behind, next_behind}

-- ---- one instruction, on calls that are shown by one number of an architecture

-- a test of the architecture is a jump to the side that it takes
abbrev pub taken : ℕ → Held → Option Operation → Insn → Insn
taken number Architecture (Some (Branch comparison Constant)) insn =
    record insn { code = code_of Jump; k = if holds comparison number insn.k then insn.jt else insn.jf }
taken number held operation insn = insn

abbrev pub taken_at : ℕ → ℕ → Held → Insn → Onward
taken_at number at held insn =
    let as_taken = taken number held (operation_of insn.code) insn in onward at (operation_of as_taken.code) as_taken

-- where they come with this in A, if they come
abbrev pub jumps_taken : ℕ → ℕ → Option Held → Insn → Jumps → Jumps
jumps_taken number at None insn jumps = jumps
jumps_taken number at (Some held) insn jumps = jumps_behind at (taken_at number at held insn) (held_behind (operation_of insn.code) insn held) jumps

abbrev pub next_taken : ℕ → ℕ → Option Held → Insn → Option Held
next_taken number at None insn = None
next_taken number at (Some held) insn = next_behind at (taken_at number at held insn) (held_behind (operation_of insn.code) insn held)

-- ---- a whole filter

-- whether they come to each instruction from a place on, where these jumps go on from there
unfoldable pub comes_from : ℕ → ℕ → Jumps → Option Held → List Insn → List Bool
comes_from number at jumps next [] = []
comes_from number at jumps next (insn ∷ insns) =
    let held = joined_ways (jump_to jumps at) next in
    is_some held ∷ comes_from number (at + 1) (jumps_taken number at held insn jumps) (next_taken number at held insn) insns

-- to each of all
unfoldable pub comes_to : ℕ → List Insn → List Bool
comes_to number insns = comes_from number 0 (replicate (length insns) None) (Some Other) insns

-- ---- names

-- the architectures that a filter tells apart: x32 is shown by the number of x86-64
abbrev pub told_apart : List TheArchitecture
told_apart =
    architecture.X86_64 ∷
    architecture.I386 ∷
    architecture.Aarch64 ∷
    architecture.Arm ∷
    architecture.Riscv64 ∷
    architecture.Ppc64le ∷
    architecture.S390x ∷
    architecture.Loongarch64 ∷
    []

-- those whose calls come to a place
abbrev pub comers : List Insn → ℕ → List TheArchitecture
comers insns at = filter (λ by. slice_index_or (comes_to (audit_of by) insns) at false) told_apart

-- whose names are shown where the calls of so many come, of which this is the first: its own where it is the only one, and
-- those of the one that is asked about where all come
abbrev pub named_by : TheArchitecture → TheArchitecture → ℕ → Option TheArchitecture
named_by asked first count =
    if count == 1 then Some (if audit_of first == audit_of asked then asked else first)
    else if count == length told_apart then Some asked
    else None

abbrev pub names_of : TheArchitecture → List TheArchitecture → Option TheArchitecture
names_of asked [] = None
names_of asked (first ∷ others) = named_by asked first (length (first ∷ others))

abbrev pub named_at : TheArchitecture → List Insn → ℕ → Option TheArchitecture
named_at asked insns at = names_of asked (comers insns at)

-- ---- what is found of each of them

-- its calls come to a place
abbrev pub comes : ℕ → Reach → Bool
comes place reach = slice_index_or reach.places.items place false

abbrev pub architectures_of : List Reach → List TheArchitecture
architectures_of reaches = map (λ reach. reach.architecture) reaches

-- of each in this order it is found to which instructions its calls come
abbrev pub Finds : List Insn → List TheArchitecture → List Reach → Type 0
Finds insns [] reaches = reaches ≡ []
Finds insns (by ∷ others) [] = ⊥
Finds insns (by ∷ others) (reach ∷ reaches) =
    (reach.architecture ≡ by) × (reach.places.items ≡ comes_to (audit_of by) insns) × Finds insns others reaches
