-- What words ask.
use Rattle.std.specs.Prelude.{ℕ, ◌==◌, ◌&&◌, ◌||◌, ◌++◌, nat_lt, is_some, not, Bool, true, false, if◌then◌else◌, List, [], ◌∷◌, length, slice_get, filter, map, codes, slice_index, Option, Some, None, Result, Ok, Err}
use Rattle.std.specs.List.{before_first, after_first, list_any, slice_split}
use Rattle.std.specs.Char.{to_ascii_uppercase}
use Rattle.std.specs.Str.{bytes_eq}
use Rattle.sk_names.specs.declared.architecture.Architecture.{Architecture}
use Rattle.sk_arguments.specs.declared.naming.Naming.{Naming}
use Rattle.sk_arguments.specs.declared.naming.Naming.TheVariants.{Numbers, Constants}
use Rattle.sk_names.specs.Architectures.{architecture_named, is_big_endian_of}
use Rattle.sk_profile_json.specs.declared.context.Kernel.{Kernel as Version}
use Rattle.sk_profile_json.specs.declared.machine.Machine.{Machine as Host}
use Rattle.sk_profile_json.specs.Capabilities.{capability}
use Rattle.sk_profile_json.specs.Machines.{machine_named}
use Rattle.sk_ask.specs.Complaints.{of_word}
use Rattle.sk_ask.specs.Only.{sought_named}
use Rattle.sk_ask.specs.Nearest.{architecture_names, capability_names, machine_names, of_unknown, see_capabilities, see_help}
use Rattle.sk_ask.specs.OtherNames.{architecture_meant, kernel_meant}
use Rattle.sk_ask.specs.Runtimes.{runtime_named}
use Rattle.sk_ask.specs.Targets.{grant_named, target_named}
use Rattle.sk_ask.specs.declared.word.Valued.{Valued}
use Rattle.sk_ask.specs.declared.manner.Manner.{Manner}
use Rattle.sk_ask.specs.declared.printing.Printing.{Printing}
use Rattle.sk_ask.specs.declared.printing.Printing.TheVariants.{Text, Document}
use Rattle.sk_ask.specs.declared.only.Sought.{Sought}
use Rattle.sk_ask.specs.declared.runtime.Runtime.{Runtime}
use Rattle.sk_ask.specs.declared.target.Grant.{Grant as Granted}
use Rattle.sk_ask.specs.declared.target.Grant.TheVariants.{Policy}
use Rattle.sk_ask.specs.declared.target.Target.{Target}
use Rattle.sk_ask.specs.declared.target.Target.TheVariants.{Lines, Raw}
use Rattle.sk_ask.specs.declared.word.Valued.TheVariants.{Call, Args, Only, Cap, Kernel, Machine, Arch, To, Grant, For, Old}
use Rattle.sk_ask.specs.declared.word.TheConstants.{OPTIONS}
use Rattle.sk_ask.specs.declared.word.Allowing.{Allowing}
use Rattle.sk_ask.specs.declared.word.Word.{Word}
use Rattle.sk_ask.specs.declared.word.Word.TheVariants.{Calls, Filter, When, Diff, Expect, Lint, Replay, Allow, Why, Show, Arches, Check, Page}

-- the word, with the options that it alone has; the words behind each `--call`, the verdicts behind each `--only`, the capabilities
-- behind each `--cap`, the version behind `--kernel`, the machine behind `--machine`, and the architecture behind `--arch`; the option
-- whose word is awaited; whether there was `--numbers`, `--json`, `--native`, `--runc`, `--strict` or `--help`; and the names of the files
pub record Question : Type 0 where
  pub word : Word
  pub calls : List (List ℕ)
  pub only : List Sought
  pub caps : List (List ℕ)
  pub kernel : Option Version
  pub machine : Option Host
  pub arch : Option Architecture
  pub awaits : Option Valued
  pub numbers : Bool
  pub json : Bool
  pub native : Bool
  pub runc : Bool
  pub strict : Bool
  pub help : Bool
  pub names : List (List ℕ)

-- the word is there, and nothing behind it
abbrev pub nothing_asked : Word → Question
nothing_asked word = record {
  word = word;
  calls = [];
  only = [];
  caps = [];
  kernel = None;
  machine = None;
  arch = None;
  awaits = None;
  numbers = false;
  json = false;
  native = false;
  runc = false;
  strict = false;
  help = false;
  names = [];
}

abbrev pub word_name : Word → List ℕ
word_name (Calls examples) = codes "calls"
word_name (Filter target smaller) = codes "filter"
word_name (When dot) = codes "when"
word_name (Diff stricter) = codes "diff"
word_name Expect = codes "expect"
word_name (Lint all) = codes "lint"
word_name (Replay since) = codes "replay"
word_name (Allow asks) = codes "allow"
word_name Why = codes "why"
word_name Show = codes "show"
word_name Arches = codes "arches"
word_name Check = codes "check"
word_name (Page is) = codes "page"

-- without an option all calls of logs count, and a policy is written for them alone
abbrev pub plainly : Allowing
plainly = record { since = false; grant = Policy; runtime = None }

abbrev pub word_named : List ℕ → Option Word
word_named name =
    if bytes_eq name (codes "calls") then Some (Calls false)
    else if bytes_eq name (codes "filter") then Some (Filter Lines false)
    else if bytes_eq name (codes "when") then Some (When false)
    else if bytes_eq name (codes "diff") then Some (Diff false)
    else if bytes_eq name (codes "expect") then Some Expect
    else if bytes_eq name (codes "lint") then Some (Lint false)
    else if bytes_eq name (codes "replay") then Some (Replay false)
    else if bytes_eq name (codes "allow") then Some (Allow plainly)
    else if bytes_eq name (codes "why") then Some Why
    else if bytes_eq name (codes "show") then Some Show
    else if bytes_eq name (codes "arches") then Some Arches
    else if bytes_eq name (codes "check") then Some Check
    else if bytes_eq name (codes "page") then Some (Page false)
    else None

-- what asks how words are used: `--help` by the GNU coding standards, "Command-Line Interfaces", and `-h`
abbrev pub asks_help : List ℕ → Bool
asks_help text = bytes_eq text (codes "-h") || bytes_eq text (codes "--help")

-- what asks which program this is: `--version` by the same
abbrev pub asks_version : List ℕ → Bool
asks_version text = bytes_eq text (codes "--version")

-- ---- options

-- a word that begins with `-` (45) is an option; that alone is the name of standard input
abbrev pub is_option : List ℕ → Bool
is_option text = slice_index text 0 == 45 && nat_lt 1 (length text)

-- those with a word behind them

abbrev pub valued_name : Valued → List ℕ
valued_name Call = codes "--call"
valued_name Args = codes "--args"
valued_name Only = codes "--only"
valued_name Cap = codes "--cap"
valued_name Kernel = codes "--kernel"
valued_name Machine = codes "--machine"
valued_name Arch = codes "--arch"
valued_name To = codes "--to"
valued_name Grant = codes "--to"
valued_name For = codes "--for"
valued_name Old = codes "--old"

-- what is expected behind one
abbrev pub value_kind : Valued → List ℕ
value_kind Call = codes "a name or a number"
value_kind Args = codes "a name or a number"
value_kind Only = codes "a verdict as allow or errno/1"
value_kind Cap = codes "a name"
value_kind Kernel = codes "a version as 6.1"
value_kind Machine = codes "a name"
value_kind Arch = codes "a name"
value_kind To = codes "raw, hex, lines, c, base64, bpf_asm or json"
value_kind Grant = codes "policy or profile"
value_kind For = codes "docker, crun, bwrap or systemd"
value_kind Old = codes "a FILE"

-- each call is told of by these
abbrev pub tells_calls : Word → Bool
tells_calls (Calls examples) = true
tells_calls (When dot) = true
tells_calls word = false

-- the calls of an architecture that is named are told of by all words but four: `filter` tells of none, `arches` of all, and `lint` and
-- `page` of those of x86-64
abbrev pub tells_of_one : Word → Bool
tells_of_one (Filter target smaller) = false
tells_of_one (Lint all) = false
tells_of_one Arches = false
tells_of_one (Page is) = false
tells_of_one word = true

-- filters are written by this
abbrev pub writes_filters : Word → Bool
writes_filters (Filter target smaller) = true
writes_filters word = false

-- calls are allowed by what this one writes
abbrev pub allows : Word → Bool
allows (Allow asks) = true
allows word = false

-- those of a runtime are too
abbrev pub has_runtime : Word → Bool
has_runtime (Allow asks) = is_some asks.runtime
has_runtime word = false

-- an old filter may stand before the file of this one
abbrev pub may_compare : Word → Bool
may_compare (Page is) = true
may_compare word = false

-- one does
abbrev pub compares : Word → Bool
compares (Page is) = is
compares word = false

-- the same word with one
abbrev pub with_old : Word → Word
with_old (Page is) = Page true
with_old word = word

-- the one that is named, of a word: where there may be a profile, it may be said where that is to hold
abbrev pub valued_named : Word → List ℕ → Option Valued
valued_named word text =
    if tells_calls word && bytes_eq text (codes "--call") then Some Call
    else if tells_calls word && bytes_eq text (codes "--only") then Some Only
    else if bytes_eq text (codes "--cap") then Some Cap
    else if bytes_eq text (codes "--kernel") then Some Kernel
    else if bytes_eq text (codes "--machine") then Some Machine
    else if tells_of_one word && bytes_eq text (codes "--arch") then Some Arch
    else if writes_filters word && bytes_eq text (codes "--to") then Some To
    else if allows word && bytes_eq text (codes "--to") then Some Grant
    else if allows word && bytes_eq text (codes "--for") then Some For
    else if allows word && bytes_eq text (codes "--args") then Some Args
    else if may_compare word && bytes_eq text (codes "--old") then Some Old
    else None

-- there may be several calls, verdicts and capabilities, the last form is the one that is wanted, and there is one runtime and one old filter
abbrev pub is_given : Valued → Question → Bool
is_given Call asked = false
is_given Args asked = false
is_given Only asked = false
is_given Cap asked = false
is_given Kernel asked = is_some asked.kernel
is_given Machine asked = is_some asked.machine
is_given Arch asked = is_some asked.arch
is_given To asked = false
is_given Grant asked = false
is_given For asked = has_runtime asked.word
is_given Old asked = compares asked.word

abbrev pub with_valued : Valued → Question → Result Question (List ℕ)
with_valued option asked =
    if is_given option asked then Err (of_word (word_name asked.word ++ codes ": given twice: ") (valued_name option))
    else Ok (record asked { awaits = Some option })

-- what is said where the word behind it is not there, or is none of these
abbrev pub expected_line : Word → Valued → List ℕ
expected_line word option =
    of_word (word_name word ++ (codes ": expected " ++ (value_kind option ++ codes " behind "))) (valued_name option)

-- what is said of a word that names no capability; these are named in upper case
abbrev pub no_capability_line : Word → List ℕ → List ℕ
no_capability_line word text =
    of_unknown (word_name word ++ codes ": no capability is named ") text (map to_ascii_uppercase text) capability_names see_capabilities

abbrev pub with_caps : Question → List ℕ → Option (List (List ℕ)) → Result Question (List ℕ)
with_caps asked text None = Err (no_capability_line asked.word text)
with_caps asked text (Some names) = Ok (record asked { caps = asked.caps ++ names; awaits = None })

-- several names stand between commas (44), each as it may stand alone: setpriv(1), which has lists of capabilities so
abbrev pub is_comma : ℕ → Bool
is_comma byte = byte == 44

abbrev pub with_each_cap : Question → List (List ℕ) → Result Question (List ℕ)
with_each_cap asked [] = Ok asked
with_each_cap asked (name ∷ names) = elim (with_caps asked name (capability name)) [
  | Err line ↦ Err line
  | Ok more ↦ with_each_cap more names
]

abbrev pub with_call : Question → List ℕ → Question
with_call asked name = record asked { calls = asked.calls ++ name ∷ []; awaits = None }

-- several stand between commas
abbrev pub with_calls : Question → List (List ℕ) → Question
with_calls asked [] = asked
with_calls asked (name ∷ names) = with_calls (with_call asked name) names

abbrev pub with_only : Question → Option Sought → Result Question (List ℕ)
with_only asked None = Err (expected_line asked.word Only)
with_only asked (Some sought) = Ok (record asked { only = asked.only ++ sought ∷ []; awaits = None })

abbrev pub with_kernel : Question → Option Version → Result Question (List ℕ)
with_kernel asked None = Err (expected_line asked.word Kernel)
with_kernel asked (Some version) = Ok (record asked { kernel = Some version; awaits = None })

-- the halves of arguments stand the other way round where their highest byte comes first, and that is followed nowhere
abbrev pub is_turned : Option Architecture → Bool
is_turned None = false
is_turned (Some by) = is_big_endian_of by

-- how files are taken for filters
abbrev pub manner_of : Question → Manner
manner_of asked = record { big_endian = is_turned asked.arch; strict = asked.strict }

abbrev pub turned_line : Word → List ℕ → List ℕ
turned_line word what = of_word (word_name word ++ codes ": arguments with their highest byte first are not followed: ") what

-- what is said of a word that names no machine; it may still name an architecture
abbrev pub no_machine_line : Word → List ℕ → List ℕ
no_machine_line word text =
    if is_turned (architecture_named text) then turned_line word (codes "--machine s390x")
    else of_unknown (word_name word ++ codes ": no machine is named ") text text machine_names see_help

abbrev pub with_machine : Question → List ℕ → Option Host → Result Question (List ℕ)
with_machine asked text None = Err (no_machine_line asked.word text)
with_machine asked text (Some machine) = Ok (record asked { machine = Some machine; awaits = None })

abbrev pub with_architecture : Question → List ℕ → Option Architecture → Result Question (List ℕ)
with_architecture asked text None =
    Err (of_unknown (word_name asked.word ++ codes ": no architecture is named ") text text architecture_names see_help)
with_architecture asked text (Some by) = Ok (record asked { arch = Some by; awaits = None })

abbrev pub with_target : Target → Word → Word
with_target target (Filter other smaller) = Filter target smaller
with_target target word = word

abbrev pub with_form : Question → Option Target → Result Question (List ℕ)
with_form asked None = Err (expected_line asked.word To)
with_form asked (Some target) = Ok (record asked { word = with_target target asked.word; awaits = None })

abbrev pub as_grant : Granted → Word → Word
as_grant grant (Allow asks) = Allow (record asks { grant = grant })
as_grant grant word = word

abbrev pub with_grant : Question → Option Granted → Result Question (List ℕ)
with_grant asked None = Err (expected_line asked.word Grant)
with_grant asked (Some grant) = Ok (record asked { word = as_grant grant asked.word; awaits = None })

abbrev pub for_runtime : Runtime → Word → Word
for_runtime runtime (Allow asks) = Allow (record asks { runtime = Some runtime })
for_runtime runtime word = word

abbrev pub with_runtime : Question → Option Runtime → Result Question (List ℕ)
with_runtime asked None = Err (expected_line asked.word For)
with_runtime asked (Some runtime) = Ok (record asked { word = for_runtime runtime asked.word; awaits = None })

-- the word behind it
abbrev pub with_value : Valued → Question → List ℕ → Result Question (List ℕ)
with_value Call asked text = Ok (with_calls asked (slice_split is_comma text))
with_value Args asked text = Ok (with_calls asked (slice_split is_comma text))
with_value Only asked text = with_only asked (sought_named text)
with_value Cap asked text = with_each_cap asked (slice_split is_comma text)
with_value Kernel asked text = with_kernel asked (kernel_meant text)
with_value Machine asked text = with_machine asked text (machine_named text)
with_value Arch asked text = with_architecture asked text (architecture_meant text)
with_value To asked text = with_form asked (target_named text)
with_value Grant asked text = with_grant asked (grant_named text)
with_value For asked text = with_runtime asked (runtime_named text)
with_value Old asked text = Ok (record asked { word = with_old asked.word; names = text ∷ asked.names; awaits = None })

-- ---- one word more

-- the word with the option of its own that is named so, which stands alone
abbrev pub with_own_flag : Word → List ℕ → Option Word
with_own_flag (Calls examples) text = if bytes_eq text (codes "--examples") then Some (Calls true) else None
with_own_flag (Filter target smaller) text =
    if bytes_eq text (codes "--raw") then Some (Filter Raw smaller)
    else if bytes_eq text (codes "--smaller") then Some (Filter target true)
    else None
with_own_flag (When dot) text = if bytes_eq text (codes "--dot") then Some (When true) else None
with_own_flag (Diff stricter) text = if bytes_eq text (codes "--stricter") then Some (Diff true) else None
with_own_flag (Lint all) text = if bytes_eq text (codes "--all") then Some (Lint true) else None
with_own_flag (Replay since) text = if bytes_eq text (codes "--since-seccomp") then Some (Replay true) else None
with_own_flag (Allow asks) text = if bytes_eq text (codes "--since-seccomp") then Some (Allow (record asks { since = true })) else None
with_own_flag word text = None

-- the first `=` (61) parts an option from the word that is joined to it
abbrev pub is_equals : ℕ → Bool
is_equals byte = byte == 61

-- the options without a word behind them that all have
abbrev pub shared_flags : List (List ℕ)
shared_flags = codes "--help" ∷ codes "--native" ∷ codes "--runc" ∷ codes "--strict" ∷ []

-- conditions and calls are written by these, with the constants of Linux's headers unless these are not wanted
abbrev pub tells_conditions : Word → Bool
tells_conditions (When dot) = true
tells_conditions (Diff stricter) = true
tells_conditions Expect = true
tells_conditions (Lint all) = true
tells_conditions (Page is) = true
tells_conditions (Allow asks) = true
tells_conditions word = false

-- what these tell can be told by one JSON document
abbrev pub writes_documents : Word → Bool
writes_documents (Calls examples) = true
writes_documents (When dot) = true
writes_documents (Diff stricter) = true
writes_documents Expect = true
writes_documents (Lint all) = true
writes_documents (Replay since) = true
writes_documents Why = true
writes_documents Arches = true
writes_documents word = false

-- an option that a word has
abbrev pub has_option : Word → List ℕ → Bool
has_option word text =
    is_some (valued_named word text) || (is_some (with_own_flag word text) || (list_any (bytes_eq text) shared_flags
    || ((tells_conditions word && bytes_eq text (codes "--numbers")) || (writes_documents word && bytes_eq text (codes "--json")))))

unfoldable pub options_of : Word → List (List ℕ)
options_of word = filter (has_option word) (map (λ name. name.now) OPTIONS)

-- an option that this word has not, and another has
unfoldable pub is_of_another : Word → List ℕ → Bool
is_of_another word text = list_any (λ name. bytes_eq name.now text) OPTIONS && not (has_option word text)

-- the options that may be meant: where another word has it, none
abbrev pub options_meant : Word → List ℕ → List (List ℕ)
options_meant word text = if is_of_another word text then [] else options_of word

-- an option that a word has not
abbrev pub no_option_line : Word → List ℕ → List ℕ → List ℕ
no_option_line word text sought =
    of_unknown (word_name word ++ codes ": no option is named ") text sought (options_meant word sought) (codes "; see ask " ++ (word_name word ++ codes " --help"))

-- a word that is no option of these is the name of a file
abbrev pub with_name : Question → List ℕ → Result Question (List ℕ)
with_name asked text =
    if is_option text then Err (no_option_line asked.word text (before_first is_equals text))
    else Ok (record asked { names = asked.names ++ text ∷ [] })

abbrev pub with_name_or_flag : Question → List ℕ → Option Word → Result Question (List ℕ)
with_name_or_flag asked text (Some word) = Ok (record asked { word = word })
with_name_or_flag asked text None = with_name asked text

abbrev pub naming_asked : Bool → Naming
naming_asked true = Numbers
naming_asked false = Constants

abbrev pub printing_asked : Bool → Printing
printing_asked true = Document
printing_asked false = Text

-- or one that several words have: all do, where there may be a profile
abbrev pub with_flag : Question → List ℕ → Result Question (List ℕ)
with_flag asked text =
    if bytes_eq text (codes "--native") then Ok (record asked { native = true })
    else if bytes_eq text (codes "--runc") then Ok (record asked { runc = true })
    else if bytes_eq text (codes "--strict") then Ok (record asked { strict = true })
    else if tells_conditions asked.word && bytes_eq text (codes "--numbers") then Ok (record asked { numbers = true })
    else if writes_documents asked.word && bytes_eq text (codes "--json") then Ok (record asked { json = true })
    else with_name_or_flag asked text (with_own_flag asked.word text)

-- `--OPTION=WORD` means `--OPTION WORD`: getopt_long(3), which has it as `--arg=param`
abbrev pub with_joined : Valued → Question → List ℕ → Result Question (List ℕ)
with_joined option asked value = elim (with_valued option asked) [
  | Err line ↦ Err line
  | Ok more ↦ with_value option more value
]

abbrev pub with_joined_or_flag : Question → List ℕ → Option Valued → Result Question (List ℕ)
with_joined_or_flag asked text (Some option) = with_joined option asked (after_first is_equals text)
with_joined_or_flag asked text None = with_flag asked text

abbrev pub with_option : Question → List ℕ → Option Valued → Result Question (List ℕ)
with_option asked text (Some option) = with_valued option asked
with_option asked text None = with_joined_or_flag asked text (valued_named asked.word (before_first is_equals text))

abbrev pub with_free : Question → List ℕ → Result Question (List ℕ)
with_free asked text =
    if asks_help text then Ok (record asked { help = true })
    else with_option asked text (valued_named asked.word text)

abbrev pub with_awaited : Question → List ℕ → Option Valued → Result Question (List ℕ)
with_awaited asked text (Some option) = with_value option asked text
with_awaited asked text None = with_free asked text

abbrev pub with_word : Question → List ℕ → Result Question (List ℕ)
with_word asked text = with_awaited asked text asked.awaits

-- ---- all of them

-- what the names behind a word stand for. There may be more of the last
abbrev pub wanted : Word → List (List ℕ)
wanted (Diff stricter) = codes "OLD" ∷ codes "NEW" ∷ []
wanted Expect = codes "POLICY" ∷ codes "FILE" ∷ []
wanted (Replay since) = codes "LOG" ∷ codes "FILE" ∷ []
wanted (Allow asks) = codes "LOG" ∷ []
wanted Why = codes "CALL" ∷ codes "FILE" ∷ []
wanted (Page true) = codes "OLD" ∷ codes "NEW" ∷ []
wanted word = codes "FILE" ∷ []

-- the first that is wanted and has no name
abbrev pub missing : Question → Option (List ℕ)
missing asked = slice_get (wanted asked.word) (length asked.names)

abbrev pub none_missing : Question → Option (List ℕ) → Result Question (List ℕ)
none_missing asked None = Ok asked
none_missing asked (Some kind) = Err (of_word (word_name asked.word ++ (codes ": no " ++ (kind ++ codes " is given"))) [])

-- two chains are compared, an old one and a new one, each of a file
abbrev pub two_named : Question → Result Question (List ℕ)
two_named asked =
    if length asked.names == 2 then Ok asked else Err (of_word (word_name asked.word ++ codes ": expected two FILEs, OLD and NEW") [])

-- as many names as the word wants
abbrev pub named : Word → Question → Result Question (List ℕ)
named (Diff stricter) asked = two_named asked
named (Page true) asked = two_named asked
named word asked = none_missing asked (missing asked)

-- arguments are told of by all words but these
abbrev pub tells_arguments : Word → Bool
tells_arguments (Calls examples) = examples
tells_arguments (Allow asks) = false
tells_arguments Show = false
tells_arguments Check = false
tells_arguments word = true

abbrev pub understood : Question → Result Question (List ℕ)
understood asked =
    if is_turned asked.arch && tells_arguments asked.word
    then Err (turned_line asked.word (codes "--arch s390x"))
    else Ok asked

abbrev pub draws : Word → Bool
draws (When dot) = dot
draws word = false

-- a picture is that of a call, and no document, and has no rows
abbrev pub drawn : Question → Result Question (List ℕ)
drawn asked =
    if draws asked.word && asked.json
    then Err (of_word (word_name asked.word ++ codes ": expected --dot or --json, not both") [])
    else if draws asked.word && not (length asked.only == 0)
    then Err (of_word (word_name asked.word ++ codes ": expected --dot or --only, not both") [])
    else if draws asked.word && length asked.calls == 0
    then Err (of_word (word_name asked.word ++ codes ": expected --call CALL beside ") (codes "--dot"))
    else understood asked

abbrev pub complete : Question → Result Question (List ℕ)
complete asked =
    if asked.help then Ok asked
    else elim (named asked.word asked) [
      | Err line ↦ Err line
      | Ok asked ↦ drawn asked
    ]

abbrev pub ended_at : Question → Option Valued → Result Question (List ℕ)
ended_at asked (Some option) = Err (expected_line asked.word option)
ended_at asked None = complete asked

-- no option's word is awaited any more
abbrev pub ended : Question → Result Question (List ℕ)
ended asked = ended_at asked asked.awaits

-- `--` says that all words behind it are names: getopt(3). Behind an option whose word is awaited, it is that word
abbrev pub ends_options : Question → List ℕ → Bool
ends_options asked text = not (is_some asked.awaits) && bytes_eq text (codes "--")

abbrev pub with_names : Question → List (List ℕ) → Question
with_names asked words = record asked { names = asked.names ++ words }

-- what is asked with the words that are left
abbrev pub asked_of : Question → List (List ℕ) → Result Question (List ℕ)
asked_of asked [] = ended asked
asked_of asked (text ∷ words) =
    if ends_options asked text then ended (with_names asked words)
    else elim (with_word asked text) [
      | Err line ↦ Err line
      | Ok more ↦ asked_of more words
    ]
