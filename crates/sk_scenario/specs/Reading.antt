-- The faults of a scenario, in the order in which they count: in a first reading, which knows no names, the
-- least line that is not understood or over a limit; in a second one, which knows them all, the least
-- line with a name that is not given.
use Rattle.std.specs.Prelude.{ℕ, ◌+◌, nat_le, nat_lt, if◌then◌else◌, Bool, true, false, List, [], ◌∷◌, ◌++◌, length, replicate, Option, Some, None, is_some, Result, Ok, Err}
use Rattle.std.specs.Option.{option_map_or}
use Rattle.std.specs.List.{list_all}
use Rattle.sk_text.specs.Lines.{lines_of, words_of, begins_comment, is_printable_byte}
use Rattle.sk_insn.specs.Instructions.{image_of}
use Rattle.sk_insn.specs.declared.insn.Insn.{Insn}
use Rattle.sk_asm.specs.declared.fault.AsmFault.{AsmFault}
use Rattle.sk_asm.specs.declared.fault.AsmFault.TheVariants as asm
use Rattle.sk_asm.specs.Passes.{assembled_lines}
use Rattle.sk_asm.specs.Block.{is_end, until_end}
use Rattle.sk_scenario.specs.declared.call.ScriptCall.{ScriptCall}
use Rattle.sk_scenario.specs.declared.call.Named.{Named}
use Rattle.sk_scenario.specs.declared.call.Named.TheVariants as named
use Rattle.sk_scenario.specs.declared.text_fault.TextFault.{TextFault}
use Rattle.sk_scenario.specs.declared.text_fault.TextFault.TheVariants.{Line, Unresolved, Limit}
use Rattle.sk_scenario.specs.Grammar.{Remark, Silent, Turns, Subreapers, Opening, Filter, Program, Heading, Alone, Opens, heading_of, begins_bytes, bytes_of, Asked, asked_of}
use Rattle.sk_scenario.specs.Scenario.{Script, Setting, Names, named_by, call_of, longest_image}

-- ---- answers

-- a step, and then another one, if the first gave a value
infixl 10 ◌>>=◌
abbrev pub ◌>>=◌ : {X Y : Type 0} → Result X TextFault → (X → Result Y TextFault) → Result Y TextFault
(Ok value) >>= next = next value
(Err fault) >>= next = Err fault

-- ---- a line by itself

-- line n has at most 255 bytes, all printable
abbrev pub plain : ℕ → List ℕ → Result (Unit {0}) TextFault
plain n line =
    if nat_lt 255 (length line) then Err (Limit n)
    else if list_all is_printable_byte line then Ok tt
    else Err (Line n)

abbrev pub understood : {X : Type 0} → ℕ → Option X → Result X TextFault
understood n None = Err (Line n)
understood n (Some said) = Ok said

-- what line n says, by such a grammar
unfoldable pub checked : {X : Type 0} → (List ℕ → Option X) → ℕ → List ℕ → Result X TextFault
checked grammar n line = plain n line >>= λ good. understood n (grammar line)

-- ---- what was read so far

pub record Gained : Type 0 where
  pub turns : Option ℕ
  pub subreapers : Bool
  pub names : Names
  pub filters : List (List ℕ)
  pub programs : List Script

-- the block that is open: none, a filter whose lines said nothing so far, one of bytes, one of code, or a program
pub data Open : Type 0 where
  Nothing : Open
  Undecided : Open
  Bytes : List ℕ → Open
  Code : List ℕ → Open
  Calls : Script → Open

abbrev pub nothing_yet : Gained
nothing_yet = record { turns = None; subreapers = false; names = []; filters = []; programs = [] }

abbrev pub with_turns : Gained → ℕ → Gained
with_turns d n = record { turns = Some n; subreapers = d.subreapers; names = d.names; filters = d.filters; programs = d.programs }

abbrev pub with_subreapers : Gained → Gained
with_subreapers d = record { turns = d.turns; subreapers = true; names = d.names; filters = d.filters; programs = d.programs }

abbrev pub with_name : Gained → List ℕ → Named → Gained
with_name d name given = record { turns = d.turns; subreapers = d.subreapers; names = d.names ++ (name, given) ∷ []; filters = d.filters; programs = d.programs }

abbrev pub with_filter : Gained → List ℕ → Gained
with_filter d image = record { turns = d.turns; subreapers = d.subreapers; names = d.names; filters = d.filters ++ image ∷ []; programs = d.programs }

abbrev pub with_program : Gained → Script → Gained
with_program d script = record { turns = d.turns; subreapers = d.subreapers; names = d.names; filters = d.filters; programs = d.programs ++ script ∷ [] }

abbrev pub with_call : Script → ScriptCall → Script
with_call script call = record { owner = script.owner; setuid = script.setuid; calls = script.calls ++ call ∷ [] }

-- ---- a line at the top level

unfoldable pub remarked : ℕ → Gained → Remark → Result Gained TextFault
remarked n d Silent = Ok d
remarked n d (Turns turns) =
    if is_some d.turns then Err (Line n)
    else if nat_le 1 turns then (if nat_le turns 100000 then Ok (with_turns d turns) else Err (Limit n))
    else Err (Limit n)
remarked n d Subreapers = if d.subreapers then Err (Line n) else Ok (with_subreapers d)

-- a name more, that is not given yet, where there are so many of its kind
unfoldable pub given : ℕ → Gained → List ℕ → Named → ℕ → Result Gained TextFault
given n d name what count =
    if is_some (named_by d.names name) then Err (Line n)
    else if nat_lt count 256 then Ok (with_name d name what)
    else Err (Limit n)

unfoldable pub opened : ℕ → Gained → Opening → Result (Gained × Open) TextFault
opened n d (Filter name) = given n d name (named.Filter (length d.filters)) (length d.filters) >>= λ next. Ok (next, Undecided)
opened n d (Program name owner setuid) =
    given n d name (named.Program (length d.programs)) (length d.programs) >>= λ next.
    Ok (next, Calls (record { owner = owner; setuid = setuid; calls = [] }))

unfoldable pub started : ℕ → Gained → Heading → Result (Gained × Open) TextFault
started n d (Alone remark) = remarked n d remark >>= λ next. Ok (next, Nothing)
started n d (Opens opening) = opened n d opening

-- ---- a line in a block

abbrev pub limited : ℕ → List ℕ → Result Open TextFault
limited n image = if nat_lt longest_image (length image) then Err (Limit n) else Ok (Bytes image)

-- what a fault of the assembler is in a scenario; its definition never has the last one
abbrev pub fault_of : AsmFault → TextFault
fault_of (asm.Label m) = Unresolved m
fault_of (asm.TooLong m) = Limit m
fault_of (asm.Line m) = Line m
fault_of (asm.Twice m) = Line m
fault_of (asm.Far m) = Line m
fault_of (asm.Back m) = Line m
fault_of asm.Memory = Line 0

-- a label that is not given waits for the second reading
abbrev pub held : Option Names → TextFault → Result Open TextFault
held known (Line m) = Err (Line m)
held known (Limit m) = Err (Limit m)
held None (Unresolved m) = Ok (Code [])
held (Some names) (Unresolved m) = Err (Unresolved m)

-- the instructions of assembler lines, or their one fault
unfoldable pub coded : Option Names → Result (List Insn) AsmFault → Result Open TextFault
coded known (Ok insns) = Ok (Code (image_of insns))
coded known (Err fault) = held known (fault_of fault)

-- an image, and the bytes of line n behind it
abbrev pub grown : ℕ → List ℕ → List ℕ → Result Open TextFault
grown n image line = checked bytes_of n line >>= λ bytes. limited n (image ++ bytes)

-- the first line that says something decides; here are the block's lines from it on
unfoldable pub decided : Option Names → ℕ → List ℕ → List (List ℕ) → Result Open TextFault
decided known n line here =
    if begins_comment (words_of line) then Ok Undecided
    else if begins_bytes (words_of line) then (understood n (bytes_of line) >>= λ bytes. limited n bytes)
    else coded known (assembled_lines n here)

-- a name stands for itself in the second reading, and for anything in the first
unfoldable pub resolved : Option Names → ℕ → Asked → Result ScriptCall TextFault
resolved None n asked = Ok (record { call = record { nr = 0; args = replicate 6 0 }; script = None })
resolved (Some names) n asked = option_map_or Ok (call_of names asked) (Err (Unresolved n))

unfoldable pub called : Option Names → ℕ → Script → Option Asked → Result Script TextFault
called known n script None = Ok script
called known n script (Some asked) =
    if nat_lt (length script.calls) 1000 then (resolved known n asked >>= λ call. Ok (with_call script call)) else Err (Limit n)

-- the block after line n; here are the block's lines from it on
unfoldable pub inside : Option Names → ℕ → Open → List ℕ → List (List ℕ) → Result Open TextFault
inside known n Nothing line here = Ok Nothing
inside known n Undecided line here = plain n line >>= λ good. decided known n line here
inside known n (Bytes image) line here = grown n image line
inside known n (Code image) line here = Ok (Code image)
inside known n (Calls script) line here = checked asked_of n line >>= λ asked. called known n script asked >>= λ next. Ok (Calls next)

-- what was read, with the block that `end` closes
abbrev pub finished : Gained → Open → Gained
finished d Nothing = d
finished d Undecided = with_filter d []
finished d (Bytes image) = with_filter d image
finished d (Code image) = with_filter d image
finished d (Calls script) = with_program d script

-- ---- all lines

unfoldable pub within : Option Names → ℕ → Gained → Open → List ℕ → List (List ℕ) → Result (Gained × Open) TextFault
within known n d block line here =
    if is_end line then Ok (finished d block, Nothing)
    else (inside known n block line (until_end here) >>= λ next. Ok (d, next))

abbrev pub is_open : Open → Bool
is_open Nothing = false
is_open Undecided = true
is_open (Bytes image) = true
is_open (Code image) = true
is_open (Calls script) = true

-- line n; here are all lines from it on
unfoldable pub stepped : Option Names → ℕ → Gained → Open → List ℕ → List (List ℕ) → Result (Gained × Open) TextFault
stepped known n d block line here =
    if is_open block then within known n d block line here
    else (checked heading_of n line >>= λ heading. started n d heading)

-- line n is the one behind the last
abbrev pub closed : ℕ → Open → Result (Unit {0}) TextFault
closed n Nothing = Ok tt
closed n Undecided = Err (Line n)
closed n (Bytes image) = Err (Line n)
closed n (Code image) = Err (Line n)
closed n (Calls script) = Err (Line n)

-- what lines give, of which n is the first
unfoldable pub reading : Option Names → ℕ → Gained → Open → List (List ℕ) → Result Gained TextFault
reading known n d block [] = closed n block >>= λ none. Ok d
reading known n d block (line ∷ lines) = stepped known n d block line (line ∷ lines) >>= λ next. reading known (n + 1) next.0 next.1 lines

abbrev pub setting : Gained → Setting
setting d = record { turns = option_map_or (λ n. n) d.turns 1000; subreapers = d.subreapers; filters = d.filters; programs = d.programs }

-- the setting that lines stand for, or the first fault
unfoldable pub scenario_of : List (List ℕ) → Result Setting TextFault
scenario_of lines =
    reading None 1 nothing_yet Nothing lines >>= λ first. reading (Some first.names) 1 nothing_yet Nothing lines >>= λ second. Ok (setting second)

-- that of a text of at most a mebibyte
unfoldable pub scenario : List ℕ → Result Setting TextFault
scenario text = if nat_lt 1048576 (length text) then Err (Limit 0) else scenario_of (lines_of text)
