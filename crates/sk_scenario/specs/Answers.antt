-- Answers of the reader: a value, a fault of the text, or out of memory.
use Rattle.std.specs.Prelude.{◌≡◌, ℕ, List, ◌⊎◌, Result, Ok, Err}
use Rattle.sk_scenario.specs.declared.text_fault.TextFault.{TextFault}
use Rattle.sk_scenario.specs.declared.text_fault.TextFault.TheVariants as text
use Rattle.sk_scenario.specs.Faults.{IsFirstFaultOfText}
use Rattle.sk_scenario.specs.Scenario.{Setting}
use Rattle.sk_scenario.specs.declared.fault.ScenarioFault.{ScenarioFault}
use Rattle.sk_scenario.specs.declared.fault.ScenarioFault.TheVariants.{Line, Unresolved, Limit, Memory}

-- a fault of the text, as it is told
abbrev pub told : TextFault → ScenarioFault
told (text.Line n) = Line n
told (text.Unresolved n) = Unresolved n
told (text.Limit n) = Limit n

-- the fault is the given one; memory may be refused at any time
abbrev pub IsFaultOf : {X : Type 0} → ScenarioFault → Result X TextFault → Type 0
IsFaultOf fault given = (fault ≡ Memory) ⊎ ((why : TextFault) × (fault ≡ told why) × (given ≡ Err why))

-- an answer whose value, seen by view, is the given one, or whose fault is
abbrev pub Answers : {X Y : Type 0} → (X → Y) → Result X ScenarioFault → Result Y TextFault → Type 0
Answers view (Ok value) given = given ≡ Ok (view value)
Answers view (Err fault) given = IsFaultOf fault given

-- the same of an answer that takes no memory
abbrev pub Judges : {X Y : Type 0} → (X → Y) → Result X TextFault → Result Y TextFault → Type 0
Judges view (Ok value) given = given ≡ Ok (view value)
Judges view (Err why) given = given ≡ Err why

-- the answer is this setting, unless memory was refused
abbrev pub Finds : {T : Type 0} → (T → Setting) → Result T ScenarioFault → Setting → Type 0
Finds view (Ok value) setting = view value ≡ setting
Finds view (Err fault) setting = fault ≡ Memory

-- memory was refused, or the text has this fault, and none goes before it
abbrev pub IsToldOf : List ℕ → ScenarioFault → Type 0
IsToldOf text fault = (fault ≡ Memory) ⊎ ((why : TextFault) × (fault ≡ told why) × IsFirstFaultOfText text why)

-- the answer is this fault, unless memory was refused
abbrev pub Tells : {T : Type 0} → Result T ScenarioFault → TextFault → Type 0
Tells (Ok value) why = ⊥
Tells (Err fault) why = (fault ≡ Memory) ⊎ (fault ≡ told why)
