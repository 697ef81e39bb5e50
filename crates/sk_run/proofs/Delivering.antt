-- What the engine leaves behind, by how its parts ended.
use Rattle.std.proofs.Common.{◌≡◌, ℕ, ◌<◌, ◌≤◌, List, length, take, Option, Some, None, Result, Ok, Err, IfSome, refl, sym, subst, arith, inl, inr}
use Rattle.std.proofs.KnownBytes.{Appends-nil}
use Rattle.std.proofs.Math.Logic.{⊎_elim}
use Rattle.std.proofs.lemmas.Bool.{cases_lt}
use Rattle.std.proofs.lemmas.List.{take_all, length-take}
use Rattle.sk_text.specs.declared.source.ReadFault.{ReadFault}
use Rattle.sk_text.specs.declared.source.ReadFault.TheVariants as reading
use Rattle.sk_scenario.specs.declared.text_fault.TextFault.{TextFault}
use Rattle.sk_scenario.specs.declared.text_fault.TextFault.TheVariants as text
use Rattle.sk_scenario.specs.Faults.{IsFirstFaultOfText}
use Rattle.sk_scenario.specs.Scenario.{Setting, IsScenarioText}
use Rattle.sk_scenario.specs.declared.fault.ScenarioFault.{ScenarioFault}
use Rattle.sk_scenario.specs.Answers.{told, IsToldOf}
use Rattle.sk_run.specs.declared.turn.End.{End}
use Rattle.sk_run.specs.Report.{report_of}
use Rattle.sk_run.specs.declared.fault.EngineFault.{EngineFault}
use Rattle.sk_run.specs.declared.fault.EngineFault.TheVariants.{Read, Scenario, Write, Memory}
use Rattle.sk_run.specs.Reporting.{Writes, WritesReport, LeavesReport, of_scenario, of_reading}

over : (input : List ℕ) → 1048576 < length input → 1048576 < length (take 1048577 input)
over input long = simp length-take (omega arith)

whole_long : (input : List ℕ) → length (take 1048577 input) ≤ 1048576 → 1048576 < length input → take 1048577 input ≡ input
whole_long input short long =
    let front = over input long in
    let no : ⊥ = omega arith in
    absurd no

within : (input : List ℕ) → length input ≤ 1048576 → length input ≤ 1048577
within input fits = omega arith

-- what is taken of an input within the limit is the input
whole : (input : List ℕ) → length (take 1048577 input) ≤ 1048576 → take 1048577 input ≡ input
whole input short = ⊎_elim (whole_long input short) (λ fits. take_all 1048577 input (within input fits)) (cases_lt 1048576 (length input))

taken_scenario : (input : List ℕ) (setting : Setting) → IsScenarioText (take 1048577 input) setting → IsScenarioText input setting
taken_scenario input setting h = subst (λ text. IsScenarioText text setting) (whole input h.0) h

taken_fault : (input : List ℕ) (why : TextFault) → IsFirstFaultOfText (take 1048577 input) why → IsFirstFaultOfText input why
taken_fault input why (inl h) =
    let cut : length (take 1048577 input) ≤ length input = simp length-take (omega arith) in
    let long : 1048576 < length input = let over = h.0 in omega arith in
    inl (long, h.1)
taken_fault input why (inr h) = subst (λ text. IsFirstFaultOfText text why) (whole input h.0) (inr h)

reports : (input : List ℕ) (result : Result End EngineFault) (old new : Option (List ℕ)) → WritesReport input result old new → LeavesReport input result old new
reports input (Ok end) old new h = h
reports input (Err Write) old new h = h
reports input (Err (Memory turns)) old new h = inr h
reports input (Err Read) old new h = absurd h.2
reports input (Err (Scenario fault)) old new h = absurd h.2

-- a report was written
pub delivers : (left : Option (List ℕ)) (bytes : List ℕ) (setting : Setting) (result : Result End EngineFault) (old new : Option (List ℕ))
    → IfSome left (λ input. bytes ≡ take 1048577 input) → IsScenarioText bytes setting → Writes (report_of setting) result old new → IfSome left (λ input. LeavesReport input result old new)
delivers None bytes setting result old new taken stands written = tt
delivers (Some input) bytes setting result old new taken stands written =
    reports input result old new (setting, taken_scenario input setting (subst (λ text. IsScenarioText text setting) taken stands), written)

refuses_one : (input : List ℕ) (fault : ScenarioFault) (now : Option (List ℕ)) → IsToldOf (take 1048577 input) fault → LeavesReport input (Err (of_scenario fault)) now now
refuses_one input fault now (inl memory) = subst (λ f. LeavesReport input (Err (of_scenario f)) now now) (sym memory) (inl (refl, Appends-nil now))
refuses_one input fault now (inr h) = subst (λ f. LeavesReport input (Err (of_scenario f)) now now) (sym h.1) (by_fault input h.0 now (taken_fault input h.0 h.2))
  where
    by_fault : (input : List ℕ) (why : TextFault) (now : Option (List ℕ)) → IsFirstFaultOfText input why → LeavesReport input (Err (of_scenario (told why))) now now
    by_fault input (text.Line n) now h = ((text.Line n, refl, h), Appends-nil now)
    by_fault input (text.Unresolved n) now h = ((text.Unresolved n, refl, h), Appends-nil now)
    by_fault input (text.Limit n) now h = ((text.Limit n, refl, h), Appends-nil now)

-- the input is no scenario, or memory was refused while it was read
pub refuses : (left : Option (List ℕ)) (bytes : List ℕ) (fault : ScenarioFault) (now : Option (List ℕ))
    → IfSome left (λ input. bytes ≡ take 1048577 input) → IsToldOf bytes fault → IfSome left (λ input. LeavesReport input (Err (of_scenario fault)) now now)
refuses None bytes fault now taken first = tt
refuses (Some input) bytes fault now taken first = refuses_one input fault now (subst (λ text. IsToldOf text fault) taken first)

fails_one : (input : List ℕ) (fault : ReadFault) (now : Option (List ℕ)) → LeavesReport input (Err (of_reading fault)) now now
fails_one input reading.Read now = Appends-nil now
fails_one input reading.Memory now = inl (refl, Appends-nil now)

-- the input could not be read
pub fails : (left : Option (List ℕ)) (fault : ReadFault) (now : Option (List ℕ)) → IfSome left (λ input. LeavesReport input (Err (of_reading fault)) now now)
fails None fault now = tt
fails (Some input) fault now = fails_one input fault now
