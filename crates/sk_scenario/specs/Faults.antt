-- Which faults a text has: each line is judged where it stands, whatever is wrong with the others; and the
-- fault that is told, which goes before all others.
use Rattle.std.specs.Prelude.{◌≡◌, ◌<◌, ◌≤◌, ◌⊎◌, ℕ, ◌+◌, nat_lt, nat_le, Bool, true, false, not, ◌&&◌, ◌||◌, IsTrue, if◌then◌else◌, List, [], ◌∷◌, length, Option, Some, None, is_some, Err}
use Rattle.std.specs.Option.{option_map_or}
use Rattle.std.specs.List.{list_all, list_any, filter}
use Rattle.std.specs.Str.{bytes_eq}
use Rattle.sk_text.specs.Lines.{lines_of, words_of, begins_comment, is_printable_byte}
use Rattle.sk_asm.specs.declared.fault.AsmFault.{AsmFault}
use Rattle.sk_asm.specs.declared.fault.AsmFault.TheVariants as asm
use Rattle.sk_asm.specs.Block.{is_end, until_end}
use Rattle.sk_asm.specs.Passes.{assembled_lines}
use Rattle.sk_scenario.specs.declared.call.Named.TheVariants as named
use Rattle.sk_scenario.specs.declared.text_fault.TextFault.{TextFault}
use Rattle.sk_scenario.specs.declared.text_fault.TextFault.TheVariants.{Line, Unresolved, Limit}
use Rattle.sk_scenario.specs.Grammar.{Silent, Turns, Subreapers, Filter, Program, Heading, Alone, Opens, heading_of, begins_bytes, bytes_of, Asked, asked_of}
use Rattle.sk_scenario.specs.Scenario.{Names, call_of, longest_image}

-- what can be wrong with a line, in the order in which it counts: too many bytes, not understood, over
-- another limit, a name that is not given
pub data Wrong : Type 0 where
  Excess : Wrong
  Malformed : Wrong
  Beyond : Wrong
  Nameless : Wrong

-- the fault that is told of line n
abbrev pub told : ℕ → Wrong → TextFault
told n Excess = Limit n
told n Malformed = Line n
told n Beyond = Limit n
told n Nameless = Unresolved n

-- ---- where a line stands

-- at the top level; in a filter's block whose lines said nothing so far, or gave so many bytes, or are assembler
-- lines; or in a program's block whose lines asked for so many calls
pub data Place : Type 0 where
  AtTop : Place
  InFilter : Place
  InBytes : ℕ → Place
  InCode : Place
  InCalls : ℕ → Place

abbrev pub is_inside : Place → Bool
is_inside AtTop = false
is_inside InFilter = true
is_inside (InBytes before) = true
is_inside InCode = true
is_inside (InCalls before) = true

-- how many bytes a line gives, and whether it asks for a call
abbrev pub bytes_given : List ℕ → ℕ
bytes_given line = option_map_or length (bytes_of line) 0

abbrev pub asks : List ℕ → Bool
asks line = option_map_or is_some (asked_of line) false

-- behind a line at the top level
abbrev pub place_at : Option Heading → Place
place_at None = AtTop
place_at (Some (Alone remark)) = AtTop
place_at (Some (Opens (Filter name))) = InFilter
place_at (Some (Opens (Program name owner setuid))) = InCalls 0

-- behind a line in a filter's block: the first one that says something decides
abbrev pub place_in_filter : List ℕ → Place
place_in_filter line =
    if begins_comment (words_of line) then InFilter
    else if begins_bytes (words_of line) then InBytes (bytes_given line)
    else InCode

abbrev pub place_behind : Place → List ℕ → Place
place_behind AtTop line = place_at (heading_of line)
place_behind InFilter line = if is_end line then AtTop else place_in_filter line
place_behind (InBytes before) line = if is_end line then AtTop else InBytes (before + bytes_given line)
place_behind InCode line = if is_end line then AtTop else InCode
place_behind (InCalls before) line = if is_end line then AtTop else InCalls (if asks line then before + 1 else before)

-- what lines at the top level say, the newest first
abbrev pub heard : Option Heading → List Heading → List Heading
heard None said = said
heard (Some heading) said = heading ∷ said

abbrev pub said_behind : Place → List Heading → List ℕ → List Heading
said_behind place said line = if is_inside place then said else heard (heading_of line) said

-- ---- what is wrong with a line by itself, where it stands

abbrev pub is_turns : Heading → Bool
is_turns (Alone (Turns n)) = true
is_turns (Alone Silent) = false
is_turns (Alone Subreapers) = false
is_turns (Opens opening) = false

abbrev pub is_subreapers : Heading → Bool
is_subreapers (Alone Subreapers) = true
is_subreapers (Alone Silent) = false
is_subreapers (Alone (Turns n)) = false
is_subreapers (Opens opening) = false

abbrev pub is_filter : Heading → Bool
is_filter (Alone remark) = false
is_filter (Opens (Filter name)) = true
is_filter (Opens (Program name owner setuid)) = false

abbrev pub is_program : Heading → Bool
is_program (Alone remark) = false
is_program (Opens (Filter name)) = false
is_program (Opens (Program name owner setuid)) = true

abbrev pub gives : List ℕ → Heading → Bool
gives name (Alone remark) = false
gives name (Opens (Filter other)) = bytes_eq name other
gives name (Opens (Program other owner setuid)) = bytes_eq name other

-- what may be said once was said before: `turns`, `subreapers`, a name of either kind
abbrev pub repeats : List Heading → Heading → Bool
repeats said (Alone Silent) = false
repeats said (Alone (Turns n)) = list_any is_turns said
repeats said (Alone Subreapers) = list_any is_subreapers said
repeats said (Opens (Filter name)) = list_any (gives name) said
repeats said (Opens (Program name owner setuid)) = list_any (gives name) said

-- turns outside 1 to 100000, the filter 257 or the program 257
abbrev pub exceeds : List Heading → Heading → Bool
exceeds said (Alone Silent) = false
exceeds said (Alone (Turns n)) = not (nat_le 1 n && nat_le n 100000)
exceeds said (Alone Subreapers) = false
exceeds said (Opens (Filter name)) = not (nat_lt (length (filter is_filter said)) 256)
exceeds said (Opens (Program name owner setuid)) = not (nat_lt (length (filter is_program said)) 256)

abbrev pub is_too_long : List ℕ → Bool
is_too_long line = nat_lt 255 (length line)

abbrev pub is_unprintable : List ℕ → Bool
is_unprintable line = not (list_all is_printable_byte line)

abbrev pub is_wrong_at_top : List Heading → List ℕ → Wrong → Bool
is_wrong_at_top said line Excess = is_too_long line
is_wrong_at_top said line Malformed = is_unprintable line || option_map_or (repeats said) (heading_of line) true
is_wrong_at_top said line Beyond = option_map_or (exceeds said) (heading_of line) false
is_wrong_at_top said line Nameless = false

-- an image has at most so many bytes
abbrev pub is_wrong_in_bytes : ℕ → List ℕ → Wrong → Bool
is_wrong_in_bytes before line Excess = is_too_long line
is_wrong_in_bytes before line Malformed = is_unprintable line || not (is_some (bytes_of line))
is_wrong_in_bytes before line Beyond = nat_lt longest_image (before + bytes_given line)
is_wrong_in_bytes before line Nameless = false

-- a line that says something, and is no bytes: the block is one of assembler lines, which are judged together
abbrev pub is_code : List ℕ → Bool
is_code line = not (begins_comment (words_of line)) && not (begins_bytes (words_of line))

-- a name of the call is not given, or to a filter where a program is wanted
abbrev pub is_nameless : Names → Option (Option Asked) → Bool
is_nameless names None = false
is_nameless names (Some None) = false
is_nameless names (Some (Some asked)) = not (is_some (call_of names asked))

-- a program has at most 1000 calls
abbrev pub is_wrong_in_calls : Names → ℕ → List ℕ → Wrong → Bool
is_wrong_in_calls names before line Excess = is_too_long line
is_wrong_in_calls names before line Malformed = is_unprintable line || not (is_some (asked_of line))
is_wrong_in_calls names before line Beyond = asks line && not (nat_lt before 1000)
is_wrong_in_calls names before line Nameless = is_nameless names (asked_of line)

abbrev pub is_wrong : Names → Place → List Heading → List ℕ → Wrong → Bool
is_wrong names AtTop said line wrong = is_wrong_at_top said line wrong
is_wrong names InFilter said line wrong = not (is_end line) && (not (is_code line) && is_wrong_in_bytes 0 line wrong)
is_wrong names (InBytes before) said line wrong = not (is_end line) && is_wrong_in_bytes before line wrong
is_wrong names InCode said line wrong = false
is_wrong names (InCalls before) said line wrong = not (is_end line) && is_wrong_in_calls names before line wrong

-- ---- what is wrong with a block of assembler lines

-- its first line that says something
abbrev pub begins_code : Place → List ℕ → Bool
begins_code AtTop line = false
begins_code InFilter line = not (is_end line) && is_code line
begins_code (InBytes before) line = false
begins_code InCode line = false
begins_code (InCalls before) line = false

-- what a fault of the assembler is in a scenario
abbrev pub IsWrongAt : AsmFault → ℕ → Wrong → Type 0
IsWrongAt (asm.Line n) m wrong = (m ≡ n) × (wrong ≡ Malformed)
IsWrongAt (asm.Twice n) m wrong = (m ≡ n) × (wrong ≡ Malformed)
IsWrongAt (asm.Far n) m wrong = (m ≡ n) × (wrong ≡ Malformed)
IsWrongAt (asm.Back n) m wrong = (m ≡ n) × (wrong ≡ Malformed)
IsWrongAt (asm.TooLong n) m wrong = (m ≡ n) × (wrong ≡ Beyond)
IsWrongAt (asm.Label n) m wrong = (m ≡ n) × (wrong ≡ Nameless)
IsWrongAt asm.Memory m wrong = ⊥

-- the one fault that the assembler tells of lines, of which n is the first
abbrev pub IsWrongCode : ℕ → List (List ℕ) → ℕ → Wrong → Type 0
IsWrongCode n lines m wrong = (fault : AsmFault) × (assembled_lines n lines ≡ Err fault) × IsWrongAt fault m wrong

-- ---- the faults of lines

-- line m of these lines, of which n is the first, is wrong in this way. A block that is never closed is
-- wrong behind the last line
abbrev pub IsWrongLine : Names → Place → List Heading → ℕ → List (List ℕ) → ℕ → Wrong → Type 0
IsWrongLine names place said n [] m wrong = IsTrue (is_inside place) × (m ≡ n) × (wrong ≡ Malformed)
IsWrongLine names place said n (line ∷ lines) m wrong =
    (IsTrue (is_wrong names place said line wrong) × (m ≡ n))
    ⊎ ((IsTrue (begins_code place line) × IsWrongCode n (until_end (line ∷ lines)) m wrong)
    ⊎ IsWrongLine names (place_behind place line) (said_behind place said line) (n + 1) lines m wrong)

-- all names that lines give, where the next filter and the next program have these numbers
abbrev pub names_by : ℕ → ℕ → Option Heading → Names → Names
names_by filter program None names = names
names_by filter program (Some (Alone remark)) names = names
names_by filter program (Some (Opens (Filter name))) names = (name, named.Filter filter) ∷ names
names_by filter program (Some (Opens (Program name owner setuid))) names = (name, named.Program program) ∷ names

abbrev pub one_more_if : (Heading → Bool) → Option Heading → ℕ → ℕ
one_more_if test heading number = if option_map_or test heading false then number + 1 else number

abbrev pub names_given : Place → ℕ → ℕ → List (List ℕ) → Names
names_given place filter program [] = []
names_given place filter program (line ∷ lines) =
    if is_inside place then names_given (place_behind place line) filter program lines
    else names_by filter program (heading_of line)
    (names_given (place_behind place line) (one_more_if is_filter (heading_of line) filter) (one_more_if is_program (heading_of line) program) lines)

-- line m of a text's lines is wrong in this way
abbrev pub IsWrongIn : List (List ℕ) → ℕ → Wrong → Type 0
IsWrongIn lines m wrong = IsWrongLine (names_given AtTop 0 0 lines) AtTop [] 1 lines m wrong

-- ---- the fault that is told

abbrev pub rank : Wrong → ℕ
rank Excess = 0
rank Malformed = 1
rank Beyond = 2
rank Nameless = 3

abbrev pub is_of_name : Wrong → Bool
is_of_name Excess = false
is_of_name Malformed = false
is_of_name Beyond = false
is_of_name Nameless = true

-- of two faults of a kind the one of the lesser line goes first, and on one line the one that counts first
abbrev pub IsNotAfter : ℕ → Wrong → ℕ → Wrong → Type 0
IsNotAfter m wrong k other = (m < k) ⊎ ((m ≡ k) × (rank wrong ≤ rank other))

-- the faults of names go behind all others
abbrev pub GoesFirst : ℕ → Wrong → ℕ → Wrong → Type 0
GoesFirst m wrong k other =
    (IsTrue (not (is_of_name wrong)) × IsTrue (is_of_name other))
    ⊎ ((is_of_name wrong ≡ is_of_name other) × IsNotAfter m wrong k other)

-- the fault that is told of lines: they have it, and none goes before it
pub record IsFirstFault (lines : List (List ℕ)) (fault : TextFault) : Type 0 where
  pub line : ℕ
  pub wrong : Wrong
  pub tells : fault ≡ told line wrong
  pub has : IsWrongIn lines line wrong
  pub first : (k : ℕ) (other : Wrong) → IsWrongIn lines k other → GoesFirst line wrong k other

-- a text of more than a mebibyte is not looked at
abbrev pub IsFirstFaultOfText : List ℕ → TextFault → Type 0
IsFirstFaultOfText text fault =
    ((1048576 < length text) × (fault ≡ Limit 0)) ⊎ ((length text ≤ 1048576) × IsFirstFault (lines_of text) fault)
