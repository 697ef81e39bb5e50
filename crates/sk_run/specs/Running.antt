-- What `skern` does with an input, by its words.
use Rattle.std.specs.Prelude.{◌≡◌, ◌⊎◌, ℕ, List, [], codes, Option, Some, None, Result, Ok, Err}
use Rattle.std.specs.Io.KnownBytes.{Appends}
use Rattle.sk_scenario.specs.declared.text_fault.TextFault.{TextFault}
use Rattle.sk_scenario.specs.Faults.{IsFirstFaultOfText}
use Rattle.sk_scenario.specs.Answers.{told}
use Rattle.sk_scenario.specs.declared.fault.ScenarioFault.{ScenarioFault}
use Rattle.sk_scenario.specs.declared.fault.ScenarioFault.TheVariants as scenario
use Rattle.sk_run.specs.declared.turn.End.{End}
use Rattle.sk_run.specs.declared.fault.EngineFault.TheVariants as engine
use Rattle.sk_run.specs.Reporting.{WritesReport}
use Rattle.sk_engines.specs.Engine.{Delivers}
use Rattle.sk_engines.specs.Output.{Output, at_line, line, misused, refused}
use Rattle.sk_engines.specs.declared.fault.CommandFault.{CommandFault}
use Rattle.sk_engines.specs.declared.fault.CommandFault.TheVariants.{Read, Write, Memory}
use Rattle.sk_engines.specs.Words.{answer_by}
use Rattle.sk_engines.specs.declared.word.Word.{Word}
use Rattle.sk_engines.specs.declared.word.Word.TheVariants.{Run, Filters}

-- what is said of a line of a scenario, by its fault; no text has that of wanting memory
abbrev pub scenario_answer : ScenarioFault → Output
scenario_answer (scenario.Line n) = at_line n (codes "not understood")
scenario_answer (scenario.Unresolved n) = at_line n (codes "no such name")
scenario_answer (scenario.Limit n) = at_line n (codes "over the limit")
scenario_answer scenario.Memory = refused []

-- the input is no scenario, and the first of its faults is told
pub record Refuses (input : List ℕ) (result : Result ℕ CommandFault) (old new : Option (List ℕ)) : Type 0 where
  pub why : TextFault
  pub first : IsFirstFaultOfText input why
  pub answer : Delivers (scenario_answer (told why)) result old new

-- what `skern run` does: the whole report of the scenario goes out, with status 0, or the first fault of an input that is none, with
-- status 1; a beginning of one of the two where a write failed, nothing where a read failed, and where memory was refused nothing or
-- the lines of the first turns
abbrev pub Runs : List ℕ → Result ℕ CommandFault → Option (List ℕ) → Option (List ℕ) → Type 0
Runs input (Ok status) old new = ((status ≡ 0) × (end : End) × WritesReport input (Ok end) old new) ⊎ Refuses input (Ok status) old new
Runs input (Err Read) old new = Appends old new []
Runs input (Err Write) old new = WritesReport input (Err engine.Write) old new ⊎ Refuses input (Err Write) old new
Runs input (Err Memory) old new = Appends old new [] ⊎ ((turns : ℕ) × WritesReport input (Err (engine.Memory turns)) old new)

-- how `skern` is used
abbrev pub usage : Output
usage = misused (line (codes "usage: skern run|check|eval|asm|list"))

-- what `skern` does, by the one word that it was given: it runs a scenario, answers of filters, or says how it is used
abbrev pub Does : Option Word → List ℕ → Result ℕ CommandFault → Option (List ℕ) → Option (List ℕ) → Type 0
Does (Some Run) input result old new = Runs input result old new
Does (Some (Filters word)) input result old new = Delivers (answer_by word input) result old new
Does None input result old new = Delivers usage result old new
