-- What the engine leaves behind.
use Rattle.std.specs.Prelude.{◌≡◌, ◌≤◌, ◌⊎◌, ℕ, List, [], length, take, Option, Result, Ok, Err}
use Rattle.std.specs.Io.KnownBytes.{Appends}
use Rattle.sk_text.specs.Failures.{one_more}
use Rattle.sk_text.specs.Writing.{AppendsBeginning}
use Rattle.sk_scenario.specs.declared.text_fault.TextFault.{TextFault}
use Rattle.sk_scenario.specs.Faults.{IsFirstFaultOfText}
use Rattle.sk_scenario.specs.Scenario.{Setting, IsScenarioText}
use Rattle.sk_scenario.specs.Answers.{told}
use Rattle.sk_scenario.specs.declared.fault.ScenarioFault.{ScenarioFault}
use Rattle.sk_scenario.specs.declared.fault.ScenarioFault.TheVariants.{Memory as ScenarioMemory}
use Rattle.sk_text.specs.declared.source.ReadFault.{ReadFault}
use Rattle.sk_text.specs.declared.source.ReadFault.TheVariants.{Read as ReadFailed, Memory as MemoryRefused}
use Rattle.sk_run.specs.declared.turn.End.{End}
use Rattle.sk_run.specs.Report.{Report, report_of, text_of, turns_text}
use Rattle.sk_run.specs.declared.fault.EngineFault.{EngineFault}
use Rattle.sk_run.specs.declared.fault.EngineFault.TheVariants.{Read, Scenario, Write, Memory}

-- a report went out: the whole of it, with its end; a beginning where a write failed; and where memory was refused exactly the lines of
-- its first turns, as many as are told
abbrev pub Writes : Report → Result End EngineFault → Option (List ℕ) → Option (List ℕ) → Type 0
Writes report (Ok end) old new = (end ≡ report.end) × Appends old new (text_of report)
Writes report (Err Write) old new = AppendsBeginning old new (text_of report)
Writes report (Err (Memory turns)) old new = (turns ≤ length report.turns) × Appends old new (turns_text (take turns report.turns))
Writes report (Err fault) old new = ⊥

-- the input is a scenario, and its report went out
abbrev pub WritesReport : List ℕ → Result End EngineFault → Option (List ℕ) → Option (List ℕ) → Type 0
WritesReport input result old new = (setting : Setting) × IsScenarioText input setting × Writes (report_of setting) result old new

-- the input is no scenario, and this is the first of its faults
abbrev pub IsFaulty : List ℕ → EngineFault → Type 0
IsFaulty input fault = (why : TextFault) × (fault ≡ Scenario (told why)) × IsFirstFaultOfText input why

-- what the engine does with an input: it writes the report, or nothing where a read failed, where the input is no scenario, and where
-- memory was refused before the first turn
abbrev pub LeavesReport : List ℕ → Result End EngineFault → Option (List ℕ) → Option (List ℕ) → Type 0
LeavesReport input (Ok end) old new = WritesReport input (Ok end) old new
LeavesReport input (Err Write) old new = WritesReport input (Err Write) old new
LeavesReport input (Err Read) old new = Appends old new []
LeavesReport input (Err (Scenario fault)) old new = IsFaulty input (Scenario fault) × Appends old new []
LeavesReport input (Err (Memory turns)) old new = ((turns ≡ 0) × Appends old new []) ⊎ WritesReport input (Err (Memory turns)) old new

-- the count of a reader's failures: Read is answered where a read failed, and only there
abbrev pub ReportCountsReads : {X : Type 0} → Result X EngineFault → ℕ → ℕ → Type 0
ReportCountsReads (Err Read) old new = new ≡ one_more old
ReportCountsReads result old new = new ≡ old

-- the count of a writer's: Write is answered where a write failed, and only there
abbrev pub ReportCountsWrites : {X : Type 0} → Result X EngineFault → ℕ → ℕ → Type 0
ReportCountsWrites (Err Write) old new = new ≡ one_more old
ReportCountsWrites result old new = new ≡ old

-- which fault of the engine a fault of its parts is: out of memory comes with the number of turns whose lines are out, none at first
abbrev pub of_scenario : ScenarioFault → EngineFault
of_scenario ScenarioMemory = Memory 0
of_scenario fault = Scenario fault

abbrev pub of_reading : ReadFault → EngineFault
of_reading ReadFailed = Read
of_reading MemoryRefused = Memory 0
