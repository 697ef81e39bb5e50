-- What it means that lines are a scenario: a relation that knows no pass and no fault. The lines are
-- parted into lines that stand alone and blocks; the names stand for filters and programs, each numbered
-- in the order of the lines; and each block stands for a filter's image or a program's script by itself.
use Rattle.std.specs.Prelude.{◌≡◌, ◌≤◌, ◌⊎◌, ℕ, suc, zero, ◌+◌, IsTrue, if◌then◌else◌, Bool, true, false, List, [], ◌∷◌, length, map, Option, Some, None}
use Rattle.std.specs.Map.{lookup}
use Rattle.std.specs.Option.{option_map}
use Rattle.std.specs.List.{list_all, list_any, concat, filter_map, IsDistinct}
use Rattle.std.specs.Str.{bytes_eq}
use Rattle.sk_text.specs.Lines.{lines_of, is_printable_byte}
use Rattle.sk_insn.specs.Instructions.{image_of}
use Rattle.sk_insn.specs.declared.insn.Insn.{Insn}
use Rattle.sk_asm.specs.Assembly.{Assembles}
use Rattle.sk_asm.specs.Block.{is_end, until_end}
use Rattle.sk_asm.specs.Grammar.{◌>>=◌}
use Rattle.sk_scenario.specs.declared.call.ScriptCall.{ScriptCall}
use Rattle.sk_scenario.specs.declared.call.Named.{Named}
use Rattle.sk_scenario.specs.declared.call.Named.TheVariants as named
use Rattle.sk_scenario.specs.Grammar.{Remark, Silent, Turns, Subreapers, Opening, Filter, Program, Alone, Opens, heading_of, bytes_of, Argument, Plain, NumberOf, HandlerOf, Asked, asked_of}

-- ---- what a scenario is

pub record Script : Type 0 where
  pub owner : ℕ
  pub setuid : Bool
  pub calls : List ScriptCall

pub record Setting : Type 0 where
  pub turns : ℕ
  pub subreapers : Bool
  pub filters : List (List ℕ)
  pub programs : List Script

-- ---- lists, element by element

abbrev pub Each : {X Y : Type 0} → (X → Y → Type 0) → List X → List Y → Type 0
Each R [] [] = Unit {0}
Each R [] (y ∷ ys) = ⊥
Each R (x ∷ xs) [] = ⊥
Each R (x ∷ xs) (y ∷ ys) = R x y × Each R xs ys

-- a line of at most 255 printable bytes that says this, by such a grammar
pub record Says {X : Type 0} (grammar : List ℕ → Option X) (line : List ℕ) (said : X) : Type 0 where
  pub short : length line ≤ 255
  pub printable : IsTrue (list_all is_printable_byte line)
  pub understood : grammar line ≡ Some said

-- ---- the parts of a scenario

-- a line that stands alone, or a block with the lines between its first one and its `end`
pub data Part : Type 0 where
  Single : Remark → Part
  Block : Opening → List (List ℕ) → Part

-- the lines behind the first `end`
abbrev pub behind_end : List (List ℕ) → List (List ℕ)
behind_end [] = []
behind_end (line ∷ lines) = if is_end line then lines else behind_end lines

-- these lines are these parts; the first `end` closes a block
abbrev pub AreParts : List (List ℕ) → List Part → Type 0
AreParts [] [] = Unit {0}
AreParts [] (part ∷ parts) = ⊥
AreParts (line ∷ lines) [] = ⊥
AreParts (line ∷ lines) (Single remark ∷ parts) = Says heading_of line (Alone remark) × AreParts lines parts
AreParts (line ∷ lines) (Block opening body ∷ parts) =
    Says heading_of line (Opens opening) × IsTrue (list_any is_end lines) × (body ≡ until_end lines) × AreParts (behind_end lines) parts

-- ---- names

-- each name that is given, with what it stands for, in the order of the lines
abbrev pub Names : Type 0
Names = List (List ℕ × Named)

-- the names that parts give, where the next filter and the next program have these numbers
abbrev pub names_from : ℕ → ℕ → List Part → Names
names_from filter program [] = []
names_from filter program (Single remark ∷ parts) = names_from filter program parts
names_from filter program (Block (Filter name) body ∷ parts) = (name, named.Filter filter) ∷ names_from (filter + 1) program parts
names_from filter program (Block (Program name owner setuid) body ∷ parts) = (name, named.Program program) ∷ names_from filter (program + 1) parts

-- no name is given twice, neither to two of a kind nor to a filter and a program
abbrev pub AreGivenOnce : Names → Type 0
AreGivenOnce names = IsDistinct bytes_eq (map (λ given. given.0) names)

abbrev pub named_by : Names → List ℕ → Option Named
named_by names name = lookup (bytes_eq name) names

abbrev pub number_of : Named → ℕ
number_of (named.Filter number) = number
number_of (named.Program number) = number

abbrev pub program_number : Named → Option ℕ
program_number (named.Filter number) = None
program_number (named.Program number) = Some number

-- ---- a filter's block

-- the most bytes of an image: 4097 instructions of eight bytes, one more than a program may have
abbrev pub longest_image : ℕ
longest_image = 32776

-- lines `bytes HEX`, whose bytes joined are the image
pub record AreBytes (body : List (List ℕ)) (image : List ℕ) : Type 0 where
  pub pieces : List (List ℕ)
  pub says : Each (Says bytes_of) body pieces
  pub joined : image ≡ concat pieces
  pub few : length image ≤ longest_image

-- assembler lines, whose instructions are the image
pub record AreCode (body : List (List ℕ)) (image : List ℕ) : Type 0 where
  pub insns : List Insn
  pub assembles : Assembles body insns
  pub written : image ≡ image_of insns

-- one or the other; no line that says something is both
abbrev pub IsImage : List (List ℕ) → List ℕ → Type 0
IsImage body image = AreBytes body image ⊎ AreCode body image

-- ---- a program's block

abbrev pub argument_value : Names → Argument → Option ℕ
argument_value names (Plain value) = Some value
argument_value names (NumberOf name) = option_map number_of (named_by names name)
argument_value names (HandlerOf name) = option_map (λ number. number + 2) (named_by names name >>= λ given. program_number given)

abbrev pub argument_values : Names → List Argument → Option (List ℕ)
argument_values names [] = Some []
argument_values names (argument ∷ arguments) = argument_value names argument >>= λ value. argument_values names arguments >>= λ values. Some (value ∷ values)

abbrev pub child_of : Names → Option (List ℕ) → Option (Option ℕ)
child_of names None = Some None
child_of names (Some name) = option_map Some (named_by names name >>= λ given. program_number given)

-- the call that a line asks for, where all of its names are given, and to programs where it wants these
unfoldable pub call_of : Names → Asked → Option ScriptCall
call_of names asked =
    argument_values names asked.arguments >>= λ values. child_of names asked.child >>= λ child.
    Some (record { call = record { nr = asked.nr; args = values }; script = child })

-- a program's block: its lines ask for these calls, one by one
pub record AreCalls (names : Names) (body : List (List ℕ)) (made : List ScriptCall) : Type 0 where
  pub lines : List (Option Asked)
  pub says : Each (Says asked_of) body lines
  pub calls : Each (λ asked call. call_of names asked ≡ Some call) (filter_map (λ line. line) lines) made
  pub few : length made ≤ 1000

pub record Source : Type 0 where
  pub owner : ℕ
  pub setuid : Bool
  pub body : List (List ℕ)

pub record IsScript (names : Names) (source : Source) (script : Script) : Type 0 where
  pub owner : script.owner ≡ source.owner
  pub setuid : script.setuid ≡ source.setuid
  pub calls : AreCalls names source.body script.calls

-- ---- all parts

-- the blocks of the filters, and those of the programs, in the order of the lines
abbrev pub filters_in : List Part → List (List (List ℕ))
filters_in [] = []
filters_in (Single remark ∷ parts) = filters_in parts
filters_in (Block (Filter name) body ∷ parts) = body ∷ filters_in parts
filters_in (Block (Program name owner setuid) body ∷ parts) = filters_in parts

abbrev pub programs_in : List Part → List Source
programs_in [] = []
programs_in (Single remark ∷ parts) = programs_in parts
programs_in (Block (Filter name) body ∷ parts) = programs_in parts
programs_in (Block (Program name owner setuid) body ∷ parts) = record { owner = owner; setuid = setuid; body = body } ∷ programs_in parts

-- the numbers of the lines `turns`, and how many lines `subreapers` there are
abbrev pub turns_in : List Part → List ℕ
turns_in [] = []
turns_in (Single Silent ∷ parts) = turns_in parts
turns_in (Single (Turns n) ∷ parts) = n ∷ turns_in parts
turns_in (Single Subreapers ∷ parts) = turns_in parts
turns_in (Block opening body ∷ parts) = turns_in parts

abbrev pub marks_in : List Part → ℕ
marks_in [] = zero
marks_in (Single Silent ∷ parts) = marks_in parts
marks_in (Single (Turns n) ∷ parts) = marks_in parts
marks_in (Single Subreapers ∷ parts) = suc (marks_in parts)
marks_in (Block opening body ∷ parts) = marks_in parts

-- at most one line `turns`, 1 to 100000; 1000 where there is none
abbrev pub AreTurns : List ℕ → ℕ → Type 0
AreTurns [] turns = turns ≡ 1000
AreTurns (n ∷ []) turns = (1 ≤ n) × (n ≤ 100000) × (turns ≡ n)
AreTurns (n ∷ (m ∷ more)) turns = ⊥

-- at most one line `subreapers`
abbrev pub IsMark : ℕ → Bool → Type 0
IsMark zero mark = mark ≡ false
IsMark (suc zero) mark = mark ≡ true
IsMark (suc (suc more)) mark = ⊥

pub record StandFor (lines : List (List ℕ)) (setting : Setting) (parts : List Part) : Type 0 where
  pub parted : AreParts lines parts
  pub once : AreGivenOnce (names_from 0 0 parts)
  pub turns : AreTurns (turns_in parts) setting.turns
  pub subreapers : IsMark (marks_in parts) setting.subreapers
  pub filters : Each IsImage (filters_in parts) setting.filters
  pub few_filters : length setting.filters ≤ 256
  pub programs : Each (IsScript (names_from 0 0 parts)) (programs_in parts) setting.programs
  pub few_programs : length setting.programs ≤ 256

-- lines are a scenario with this setting
abbrev pub IsScenario : List (List ℕ) → Setting → Type 0
IsScenario lines setting = (parts : List Part) × StandFor lines setting parts

-- a text of at most a mebibyte is
abbrev pub IsScenarioText : List ℕ → Setting → Type 0
IsScenarioText text setting = (length text ≤ 1048576) × IsScenario (lines_of text) setting
