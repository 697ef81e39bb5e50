-- Answers that are a value or a fault of the assembler.
use Rattle.std.specs.Prelude.{◌≡◌, Result, Ok, Err}
use Rattle.sk_asm.specs.declared.fault.AsmFault.{AsmFault}
use Rattle.sk_asm.specs.declared.fault.AsmFault.TheVariants.{Memory}

-- a step, and then another one, if the first gave a value
infixl 10 ◌>>=◌
abbrev pub ◌>>=◌ : {X Y : Type 0} → Result X AsmFault → (X → Result Y AsmFault) → Result Y AsmFault
(Ok value) >>= next = next value
(Err fault) >>= next = Err fault

-- the fault is the given one; memory may be refused at any time
abbrev pub IsAsmFault : {X : Type 0} → AsmFault → Result X AsmFault → Type 0
IsAsmFault Memory given = Unit {0}
IsAsmFault fault given = given ≡ Err fault

-- an answer whose value, seen by view, is the given one, or whose fault is
abbrev pub Answers : {X Y : Type 0} → (X → Y) → Result X AsmFault → Result Y AsmFault → Type 0
Answers view (Ok value) given = given ≡ Ok (view value)
Answers view (Err fault) given = IsAsmFault fault given
