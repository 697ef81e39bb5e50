-- A whole profile: the object `seccomp` of config-linux.md of the OCI runtime specification, with what docker's and podman's
-- profiles have beside it. `flags`, `listenerPath` and `listenerMetadata` say how a filter is attached, and nothing of what
-- it answers.
use Rattle.std.specs.Prelude.{ℕ, ◌≡◌, ◌⊎◌, ◌+◌, Bool, true, false, if◌then◌else◌, List, [], ◌∷◌, ◌++◌, Option, Some, None, Result, Ok, Err, ⊤, All}
use Rattle.std.specs.Option.{IsSomeAnd, option_and_then, option_or, unwrap_or}
use Rattle.json.specs.Json.{Json, document}
use Rattle.json.specs.Strict.{HasUniqueKeys}
use Rattle.sk_insn.specs.declared.action.Action.{Action}
use Rattle.sk_profile.specs.declared.condition.Condition.{Condition}
use Rattle.sk_profile.specs.Faults.{is_good}
use Rattle.sk_profile.specs.Profiles.{Part, Profile}
use Rattle.sk_profile_json.specs.declared.conditions.WrongArgument.{WrongArgument}
use Rattle.sk_profile_json.specs.declared.context.Context.{Context}
use Rattle.sk_profile_json.specs.declared.fault.Absence.{Absence}
use Rattle.sk_profile_json.specs.declared.fault.Absence.TheVariants.{NotJson}
use Rattle.sk_profile_json.specs.declared.fault.Fault.{Fault}
use Rattle.sk_profile_json.specs.declared.fault.Field.{Field}
use Rattle.sk_profile_json.specs.declared.fault.Field.TheVariants as field
use Rattle.sk_profile_json.specs.declared.fault.Place.{Place}
use Rattle.sk_profile_json.specs.declared.fault.Place.TheVariants as place
use Rattle.sk_profile_json.specs.declared.fault.ReadFault.{ReadFault}
use Rattle.sk_profile_json.specs.declared.fault.ReadFault.TheVariants as read
use Rattle.sk_profile_json.specs.declared.fault.Wrong.{Wrong}
use Rattle.sk_profile_json.specs.declared.fault.Wrong.TheVariants.{NotTaken, Contradicts}
use Rattle.sk_profile_json.specs.Actions.{action_in, value_in}
use Rattle.sk_profile_json.specs.Architectures.{wrong_lists}
use Rattle.sk_profile.specs.Sayings.{are_apart}
use Rattle.sk_profile_json.specs.Conditions.{wrong_argument, conditions_of}
use Rattle.sk_profile_json.specs.Contexts.{counts}
use Rattle.sk_profile_json.specs.Entries.{Entry, Named, entry_of, all_named, is_told}
use Rattle.sk_profile_json.specs.Fields.{given, result_then, list_in, wrong_keys}
use Rattle.sk_profile_json.specs.Inspected.{text_inside}
use Rattle.sk_profile_json.specs.Parts.{parts_of}
use Rattle.sk_profile_json.specs.Slips.{slip_of}

-- ---- its entries

abbrev pub fault_at : Place → Wrong → Fault
fault_at spot wrong = record { place = spot; wrong = wrong }

-- what an entry says counts, or nothing
abbrev pub named_if : ℕ → List Named → Result Bool Wrong → Result (List Named) Fault
named_if at named (Ok true) = Ok named
named_if at named (Ok false) = Ok []
named_if at named (Err wrong) = Err (fault_at (place.Entry at) wrong)

-- two conditions on one argument contradict the field, since the runtimes differ there: either is enough for runc and crun,
-- and libseccomp refuses the rule
abbrev pub named_with : Context → ℕ → Json → Entry → List Condition → Result (List Named) Fault
named_with context at j entry conditions =
    if are_apart conditions then named_if at (all_named at conditions entry.value entry.names) (counts context j)
    else Err (fault_at (place.Entry at) (Contradicts field.Args))

abbrev pub named_unless : Context → ℕ → Json → Entry → Option WrongArgument → Result (List Named) Fault
named_unless context at j entry None = named_with context at j entry (conditions_of entry.arguments)
named_unless context at j entry (Some it) = Err (fault_at (place.Argument at it.place) it.wrong)

abbrev pub named_of_entry : Context → ℕ → Json → Result Entry Wrong → Result (List Named) Fault
named_of_entry context at j (Ok entry) = named_unless context at j entry (wrong_argument 0 entry.arguments)
named_of_entry context at j (Err wrong) = Err (fault_at (place.Entry at) wrong)

-- what the entry with this number says of its names
abbrev pub entry_named : Context → ℕ → Json → Result (List Named) Fault
entry_named context at j = named_of_entry context at j (entry_of j)

-- this before more, if that is right
abbrev pub before : List Named → Result (List Named) Fault → Result (List Named) Fault
before named (Ok more) = Ok (named ++ more)
before named (Err fault) = Err fault

-- what all entries say, the first of which has this number, in their order
abbrev pub named_from : Context → ℕ → List Json → Result (List Named) Fault
named_from context at [] = Ok []
named_from context at (j ∷ js) =
    result_then (λ named. before named (named_from context (at + 1) js)) (entry_named context at j)

-- ---- the rest

-- a default of NOTIFY would stop whoever is to listen
abbrev pub default_with : Json → Action → Result ℕ Wrong
default_with j action =
    if is_told action then Err (NotTaken field.DefaultAction) else value_in field.DefaultErrnoRet field.DefaultErrno action j

abbrev pub default_in : Json → Result ℕ Wrong
default_in j = result_then (default_with j) (action_in field.DefaultAction j)

abbrev pub profile_fields : List Field
profile_fields =
    field.DefaultAction ∷ field.DefaultErrnoRet ∷ field.DefaultErrno ∷ field.Architectures ∷ field.ArchMap ∷ field.Flags
    ∷ field.ListenerPath ∷ field.ListenerMetadata ∷ field.Syscalls ∷ []

pub record Head : Type 0 where
  pub default : ℕ
  pub entries : List Json

abbrev pub head_unless : Option Wrong → Json → Result Head Wrong
head_unless (Some wrong) j = Err wrong
head_unless None j =
    result_then (λ default. result_then (λ entries. Ok (record { default = default; entries = entries })) (list_in field.Syscalls j)) (default_in j)

abbrev pub head_with : Context → Json → Result Head Wrong
head_with context j =
    result_then (λ architectures. result_then (λ maps. head_unless (wrong_lists context architectures maps) j) (list_in field.ArchMap j))
    (list_in field.Architectures j)

abbrev pub head_if : Context → Option Wrong → Json → Result Head Wrong
head_if context (Some wrong) j = Err wrong
head_if context None j = head_with context j

abbrev pub head_of : Context → Json → Result Head Wrong
head_of context j = head_if context (wrong_keys profile_fields j) j

-- what is no call of the parts is killed, as libseccomp has it where nothing else is said: SECCOMP_RET_KILL_THREAD
abbrev pub profile_with : Context → Json → ℕ → Result (List Named) Fault → Result Profile Fault
profile_with context j default (Ok named) = Ok (record { parts = parts_of context j default named; default = default; bad = 0 })
profile_with context j default (Err fault) = Err fault

abbrev pub profile_if : Context → Json → Result Head Wrong → Result Profile Fault
profile_if context j (Ok head) = profile_with context j head.default (named_from context 0 head.entries)
profile_if context j (Err wrong) = Err (fault_at place.Profile wrong)

-- the profile that a value says, where it counts, or the first thing that is wrong with it
abbrev pub profile_in : Context → Json → Result Profile Fault
profile_in context j = profile_if context j (head_of context j)

-- each rule of its parts is one that a filter can be made of
abbrev pub AreGood : List Part → Type 0
AreGood parts = All (λ (part : Part). All (λ rule. is_good rule ≡ true) part.rules) parts

abbrev pub RulesAreGood : Type 0
RulesAreGood = (context : Context) (j : Json) (profile : Profile) → profile_in context j ≡ Ok profile → AreGood profile.parts

-- ---- reading

-- so something is wrong, or memory was refused
abbrev pub IsFault : {A : Type 0} → Result A Fault → ReadFault → Type 0
IsFault told (read.Profile fault) = told ≡ Err fault
IsFault told read.Memory = ⊤
IsFault told (read.NotJson slip) = ⊥
IsFault told read.KeyTwice = ⊥
IsFault told (read.NoProfile why) = ⊥

-- the text is a document without a key that comes twice in one object
abbrev pub IsDocument : List ℕ → Json → Type 0
IsDocument text j = (document text ≡ Some j) × HasUniqueKeys j

-- the configuration of a container has its profile as `seccomp` of `linux`: config-linux.md of the OCI runtime specification
abbrev pub configured : Json → Option Json
configured j = option_and_then (given field.Seccomp) (given field.Linux j)

-- and a SeccompProfile of Kubernetes has it as `spec`: the Security Profiles Operator
abbrev pub inside : Json → Option Json
inside j = option_or (configured j) (given field.Spec j)

-- a document that has none is one
abbrev pub profile_of_document : Json → Json
profile_of_document j = unwrap_or (inside j) j

-- what docker's text of a profile says
abbrev pub SaysInside : Context → List ℕ → Profile → Type 0
SaysInside context inner profile = (j : Json) × IsDocument inner j × (profile_in context j ≡ Ok profile)

abbrev pub SaysWithin : Context → Option (Result (List ℕ) Absence) → Json → Profile → Type 0
SaysWithin context None whole profile = profile_in context (profile_of_document whole) ≡ Ok profile
SaysWithin context (Some (Ok inner)) whole profile = SaysInside context inner profile
SaysWithin context (Some (Err why)) whole profile = ⊥

-- the profile that the text has is this one
abbrev pub Says : Context → List ℕ → Profile → Type 0
Says context text profile = (whole : Json) × IsDocument text whole × SaysWithin context (text_inside whole) whole profile

abbrev pub HasKeyTwice : List ℕ → Type 0
HasKeyTwice text = IsSomeAnd (document text) (λ j. ¬ HasUniqueKeys j)

abbrev pub IsTextFault : List ℕ → ReadFault → Type 0
IsTextFault text (read.Profile fault) = ⊥
IsTextFault text read.Memory = ⊤
IsTextFault text (read.NotJson slip) = (document text ≡ None) × (slip ≡ slip_of text)
IsTextFault text read.KeyTwice = HasKeyTwice text
IsTextFault text (read.NoProfile why) = ⊥

-- of the text of a profile that is docker's
abbrev pub IsFaultInside : Context → List ℕ → ReadFault → Type 0
IsFaultInside context inner (read.Profile fault) = (j : Json) × IsDocument inner j × (profile_in context j ≡ Err fault)
IsFaultInside context inner read.Memory = ⊤
IsFaultInside context inner (read.NotJson slip) = ⊥
IsFaultInside context inner read.KeyTwice = HasKeyTwice inner
IsFaultInside context inner (read.NoProfile why) = (why ≡ NotJson) × (document inner ≡ None)

abbrev pub IsFaultWithin : Context → Option (Result (List ℕ) Absence) → Json → ReadFault → Type 0
IsFaultWithin context None whole fault = IsFault (profile_in context (profile_of_document whole)) fault
IsFaultWithin context (Some (Ok inner)) whole fault = IsFaultInside context inner fault
IsFaultWithin context (Some (Err why)) whole fault = fault ≡ read.NoProfile why

-- the text is no document, or no profile is within, or a wrong one
abbrev pub IsReadFault : Context → List ℕ → ReadFault → Type 0
IsReadFault context text fault =
    IsTextFault text fault ⊎ ((whole : Json) × IsDocument text whole × IsFaultWithin context (text_inside whole) whole fault)
