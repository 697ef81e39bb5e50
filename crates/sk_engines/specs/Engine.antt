-- What an engine leaves behind: a whole answer, or a fault and a beginning of it.
use Rattle.std.specs.Prelude.{ℕ, ◌≡◌, Option, Result, Ok, Err, List, []}
use Rattle.std.specs.Io.KnownBytes.{Appends}
use Rattle.sk_text.specs.Failures.{one_more}
use Rattle.sk_text.specs.Writing.{AppendsBeginning}
use Rattle.sk_engines.specs.Output.{Output}
use Rattle.sk_engines.specs.declared.fault.CommandFault.{CommandFault}
use Rattle.sk_engines.specs.declared.fault.CommandFault.TheVariants.{Read, Write}

-- the status is the answer's, and its text went out; where a write failed a beginning of it did, and where a read
-- failed or memory was refused nothing
abbrev pub Delivers : Output → Result ℕ CommandFault → Option (List ℕ) → Option (List ℕ) → Type 0
Delivers answer (Ok status) old new = (status ≡ answer.status) × Appends old new answer.text
Delivers answer (Err Write) old new = AppendsBeginning old new answer.text
Delivers answer (Err fault) old new = Appends old new []

-- the count of a reader's failures: Read is answered where a read failed, and only there
abbrev pub CountsReads : {X : Type 0} → Result X CommandFault → ℕ → ℕ → Type 0
CountsReads (Err Read) old new = new ≡ one_more old
CountsReads result old new = new ≡ old

-- the count of a writer's: Write is answered where a write failed, and only there
abbrev pub CountsWrites : {X : Type 0} → Result X CommandFault → ℕ → ℕ → Type 0
CountsWrites (Err Write) old new = new ≡ one_more old
CountsWrites result old new = new ≡ old
