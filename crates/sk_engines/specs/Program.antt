-- How a program ends: with its work done, or with a fault told behind what went out.
use Rattle.std.specs.Prelude.{◌≡◌, ◌≢◌, ◌≤◌, ◌⊎◌, ℕ, List, codes, Option, Result, Ok, Err, IfSome}
use Rattle.std.specs.Io.KnownBytes.{Appends}
use Rattle.sk_text.specs.Failures.{one_more}
use Rattle.sk_text.specs.Writing.{AppendsBeginning}
use Rattle.sk_engines.specs.Engine.{CountsReads, CountsWrites}
use Rattle.sk_engines.specs.Output.{line}
use Rattle.sk_engines.specs.declared.fault.CommandFault.{CommandFault}
use Rattle.sk_engines.specs.declared.fault.CommandFault.TheVariants.{Read, Write, Memory}

-- a reader or a writer at one time: the bytes that it has left or holds, where they are known, and how many failures it has answered
pub record Device : Type 0 where
  pub bytes : Option (List ℕ)
  pub failures : ℕ

abbrev pub device : Option (List ℕ) → ℕ → Device
device bytes failures = record { bytes = bytes; failures = failures }

-- what is said of a fault
abbrev pub fault_said : CommandFault → List ℕ
fault_said Read = codes "skern: reading failed"
fault_said Write = codes "skern: writing failed"
fault_said Memory = codes "skern: out of memory"

-- the line of its own that tells it
abbrev pub fault_line : CommandFault → List ℕ
fault_line fault = line (fault_said fault)

-- a text went out whole; or the writer failed once more, and a beginning of it did
abbrev pub Sends : List ℕ → Device → Device → Type 0
Sends text old new =
    (Appends old.bytes new.bytes text × (new.failures ≡ old.failures))
    ⊎ (AppendsBeginning old.bytes new.bytes text × (new.failures ≡ one_more old.failures))

-- what a program does, by a text that came in: a relation between its result and the bytes of the writer before and after
abbrev pub Doing : Type 1
Doing = List ℕ → Result ℕ CommandFault → Option (List ℕ) → Option (List ℕ) → Type 0

-- the work was done on what the reader had left, where that is known; its fault is Read where the reader failed once more, Write
-- where the writer did, and no device failed otherwise
pub record Works (Does : Doing) (result : Result ℕ CommandFault) (reader reader' writer writer' : Device) : Type 0 where
  pub does : IfSome reader.bytes (λ input. Does input result writer.bytes writer'.bytes)
  pub reads : CountsReads result reader.failures reader'.failures
  pub writes : CountsWrites result writer.failures writer'.failures

-- the work came to a fault, and the fault's line was sent behind what the work left
pub record Fails (Does : Doing) (reader reader' writer writer' : Device) : Type 0 where
  pub fault : CommandFault
  pub between : Device
  pub work : Works Does (Err fault) reader reader' writer between
  pub told : Sends (fault_line fault) between writer'

-- a program ends: with the status of its work, 2 at most, or with 3 where the work came to a fault
abbrev pub Ends : Doing → ℕ → Device → Device → Device → Device → Type 0
Ends Does status reader reader' writer writer' =
    ((status ≤ 2) × Works Does (Ok status) reader reader' writer writer')
    ⊎ ((status ≡ 3) × Fails Does reader reader' writer writer')

-- ---- the block of bytes that is written at the end

-- a write failed: a beginning of the block is out, and the line that tells so was sent behind it, or nothing where the status was 3,
-- since the line of another fault was sent before
pub record LosesSome (status : ℕ) (block : List ℕ) (old new : Device) : Type 0 where
  pub between : Device
  pub begun : AppendsBeginning old.bytes between.bytes block
  pub failed : between.failures ≡ one_more old.failures
  pub told : ((status ≡ 3) × (new ≡ between)) ⊎ ((status ≢ 3) × Sends (fault_line Write) between new)

-- the block went out whole, and the program's status is that of its work; or the status is 3, and some of the block may be lost
abbrev pub Finishes : ℕ → ℕ → List ℕ → Device → Device → Type 0
Finishes status ended block old new =
    ((ended ≡ status) × Appends old.bytes new.bytes block × (new.failures ≡ old.failures))
    ⊎ ((ended ≡ 3) × LosesSome status block old new)
