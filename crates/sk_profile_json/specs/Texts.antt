-- What is said of a profile that is refused, behind its file's name: where, what is wrong, and what was expected. Entries and
-- the rest are counted from 1 on.
use Rattle.std.specs.Prelude.{ℕ, ◌+◌, ◌++◌, ◌^◌, ◌==◌, ◌&&◌, nat_le, Bool, true, false, if◌then◌else◌, List, [], ◌∷◌, codes, find, flat_map, Option, Some, None}
use Rattle.std.specs.Fmt.{decimal, radix_digits}
use Rattle.std.specs.Option.{option_and_then}
use Rattle.sk_names.specs.declared.architecture.Architecture.{Architecture}
use Rattle.sk_names.specs.declared.architecture.Architecture.TheVariants as architecture
use Rattle.sk_names.specs.Architectures.{architectures, audit_of, text_of}
use Rattle.sk_names.specs.Names.{name_on}
use Rattle.sk_profile_json.specs.declared.fault.Absence.{Absence}
use Rattle.sk_profile_json.specs.declared.fault.Absence.TheVariants as absence
use Rattle.sk_profile_json.specs.declared.fault.Fault.{Fault}
use Rattle.sk_profile_json.specs.declared.fault.Field.{Field}
use Rattle.sk_profile_json.specs.declared.fault.Field.TheVariants as field
use Rattle.sk_profile_json.specs.declared.fault.Place.{Place}
use Rattle.sk_profile_json.specs.declared.fault.Place.TheVariants as place
use Rattle.sk_profile_json.specs.declared.fault.Wrong.{Wrong}
use Rattle.sk_profile_json.specs.declared.fault.Wrong.TheVariants as wrong
use Rattle.sk_profile_json.specs.declared.slip.Extra.{Extra}
use Rattle.sk_profile_json.specs.declared.slip.Extra.TheVariants.{Comment, Comma}
use Rattle.sk_profile_json.specs.declared.slip.Slip.{Slip}
use Rattle.sk_profile_json.specs.Keys.{key_of}
use Rattle.sk_profile.specs.declared.fault.Clash.{Clash}
use Rattle.sk_profile_json.specs.declared.answer.Refusal.{Refusal}
use Rattle.sk_profile_json.specs.declared.answer.Refusal.TheVariants.{NoMachine, NotText, NotJson, KeyTwice, NoProfile, Wrong as IsWrong, Clashes, TooLong}

-- ---- where

abbrev pub entry_text : ℕ → List ℕ
entry_text entry = codes "entry " ++ decimal (entry + 1) ++ codes " of syscalls: "

abbrev pub place_text : Place → List ℕ
place_text place.Profile = []
place_text (place.Entry entry) = entry_text entry
place_text (place.Argument entry argument) = entry_text entry ++ codes "item " ++ decimal (argument + 1) ++ codes " of args: "

-- ---- what was expected

-- the keys that an object may have
abbrev pub keys_text : Place → List ℕ
keys_text place.Profile =
    codes "defaultAction, defaultErrnoRet, defaultErrno, architectures, archMap, flags, listenerPath, listenerMetadata or syscalls"
keys_text (place.Entry entry) = codes "names, name, action, errnoRet, errno, args, comment, includes or excludes"
keys_text (place.Argument entry argument) = codes "index, value, valueTwo or op"

-- what a field may be; what is wrong below `archMap`, `includes` and `excludes` is told of these, and four fields are not looked into
abbrev pub expected_text : Field → List ℕ
expected_text field.DefaultAction = codes "an action as SCMP_ACT_ERRNO, and not SCMP_ACT_NOTIFY"
expected_text field.DefaultErrnoRet = codes "a number up to 4094, or beside SCMP_ACT_TRACE up to 65535"
expected_text field.DefaultErrno = codes "the name of an error"
expected_text field.Architectures = codes "a list of names as SCMP_ARCH_X86, with that of the machine among them"
expected_text field.ArchMap = codes "a list of objects with architecture and subArchitectures"
expected_text field.Syscalls = codes "a list of entries"
expected_text field.Names = codes "a list of names of calls, with one at least"
expected_text field.Name = codes "the name of a call"
expected_text field.Action = codes "an action as SCMP_ACT_ALLOW"
expected_text field.ErrnoRet = codes "a number up to 4094, or beside SCMP_ACT_TRACE up to 65535"
expected_text field.Errno = codes "the name of an error"
expected_text field.Args = codes "a list of comparisons"
expected_text field.Includes = codes "an object with lists of names arches and caps, and a version minKernel as 4.8"
expected_text field.Excludes = codes "an object with lists of names arches and caps, and a version minKernel as 4.8"
expected_text field.Index = codes "the number of an argument, from 0 to 5"
expected_text field.Value = codes "a number up to 18446744073709551615"
expected_text field.ValueTwo = codes "a number up to 18446744073709551615"
expected_text field.Op = codes "an operator as SCMP_CMP_EQ"
expected_text field = codes "another value"

-- what a field contradicts, or is not for
abbrev pub contradiction_text : Field → List ℕ
contradiction_text field.ArchMap = codes "beside architectures: expected one of the two"
contradiction_text field.DefaultErrnoRet = codes "expected only beside SCMP_ACT_ERRNO or SCMP_ACT_TRACE"
contradiction_text field.DefaultErrno = codes "expected the name of the error in defaultErrnoRet, beside it"
contradiction_text field.Name = codes "beside names: expected one of the two"
contradiction_text field.Action = codes "who is notified of write is told so by write: expected another action"
contradiction_text field.ErrnoRet = codes "expected only beside SCMP_ACT_ERRNO or SCMP_ACT_TRACE"
contradiction_text field.Errno = codes "expected the name of the error in errnoRet, beside it"
contradiction_text field.Args = codes "expected one comparison of each argument at most"
contradiction_text field.ValueTwo = codes "expected 0, or beside SCMP_CMP_MASKED_EQ no bit outside of value"
contradiction_text field = codes "contradicts another field"

-- ---- what is wrong

abbrev pub wrong_text : Place → Wrong → List ℕ
wrong_text spot wrong.NotAnObject = codes "expected an object"
wrong_text spot (wrong.UnknownKey key) = codes "key " ++ decimal (key + 1) ++ codes " is not known: expected " ++ keys_text spot
wrong_text spot (wrong.Missing field) = key_of field ++ codes ": missing: expected " ++ expected_text field
wrong_text spot (wrong.NotTaken field) = key_of field ++ codes ": expected " ++ expected_text field
wrong_text spot (wrong.Contradicts field) = key_of field ++ codes ": " ++ contradiction_text field

abbrev pub fault_text : Fault → List ℕ
fault_text fault = place_text fault.place ++ wrong_text fault.place fault.wrong

-- the architecture of a call, by its number of linux/audit.h; those of x32 have bit 30 in their own number
abbrev pub is_of_x32 : ℕ → ℕ → Bool
is_of_x32 arch nr = arch == audit_of architecture.X32 && nat_le (2 ^ 30) nr

abbrev pub by_audit : ℕ → Option Architecture
by_audit arch = find (λ architecture. audit_of architecture == arch) architectures

abbrev pub architecture_at : ℕ → ℕ → Option Architecture
architecture_at arch nr = if is_of_x32 arch nr then Some architecture.X32 else by_audit arch

-- a call by its name; one that has none by its number
abbrev pub call_text : ℕ → Option (List ℕ) → List ℕ
call_text nr None = decimal nr
call_text nr (Some name) = name

abbrev pub name_at : Option Architecture → ℕ → Option (List ℕ)
name_at on nr = option_and_then (λ architecture. name_on architecture nr) on

abbrev pub is_x86_64 : Architecture → Bool
is_x86_64 architecture.X86_64 = true
is_x86_64 other = false

-- which architecture's it is, unless it is x86-64's
abbrev pub of_text : Option Architecture → List ℕ
of_text None = []
of_text (Some on) = if is_x86_64 on then [] else codes " of " ++ text_of on

unfoldable pub argument_text : ℕ → List ℕ
argument_text argument = codes "0x" ++ radix_digits 16 false argument

abbrev pub arguments_text : List ℕ → List ℕ
arguments_text [] = []
arguments_text (first ∷ others) = argument_text first ++ flat_map (λ other. codes ", " ++ argument_text other) others

abbrev pub both_text : ℕ → ℕ → List ℕ
both_text first second = codes "entries " ++ decimal (first + 1) ++ codes " and " ++ decimal (second + 1) ++ codes " of syscalls"

-- a call with its arguments
abbrev pub shown_text : Option Architecture → ℕ → List ℕ → List ℕ
shown_text on nr args = call_text nr (name_at on nr) ++ (codes "(" ++ (arguments_text args ++ (codes ")" ++ of_text on)))

abbrev pub clash_text : Clash → List ℕ
clash_text it =
    both_text it.first it.second ++ codes " clash: both fit " ++ (shown_text (architecture_at it.arch it.number) it.number it.args
    ++ codes ", and they say different things")

-- what no JSON has
abbrev pub extra_text : Extra → List ℕ
extra_text Comment = codes "a comment begins: JSON has none"
extra_text Comma = codes "a comma stands before the bracket that closes: JSON has none there"

abbrev pub slip_text : Slip → List ℕ
slip_text slip =
    codes "line " ++ (decimal slip.line ++ (codes ", column " ++ (decimal slip.column ++ (codes ": " ++ extra_text slip.extra))))

abbrev pub not_json_text : Option Slip → List ℕ
not_json_text None = codes "is no JSON: expected the JSON of a profile, no more than 128 deep"
not_json_text (Some slip) = slip_text slip

-- why docker was given no profile
abbrev pub reason_text : Absence → List ℕ
reason_text absence.Unsaid = codes "SecurityOpt names none, so docker's own holds, unless its daemon has another or the container is privileged"
reason_text absence.Builtin = codes "SecurityOpt has seccomp=builtin, which is docker's own"
reason_text absence.Unconfined = codes "SecurityOpt has seccomp=unconfined, so docker attaches no filter"
reason_text absence.NotJson = codes "what SecurityOpt has behind seccomp= is no JSON"

abbrev pub absence_text : Absence → List ℕ
absence_text why = codes "no seccomp profile: " ++ reason_text why

abbrev pub refusal_text : Refusal → List ℕ
refusal_text NoMachine = codes "no filter is made of a profile for s390x: its arguments have their highest byte first"
refusal_text NotText = codes "is no text in UTF-8: expected the JSON of a profile"
refusal_text (NotJson slip) = not_json_text slip
refusal_text (NoProfile why) = absence_text why
refusal_text KeyTwice = codes "a key comes twice in one object"
refusal_text (IsWrong fault) = fault_text fault
refusal_text (Clashes it) = clash_text it
refusal_text TooLong = codes "its filter would have more than 4096 instructions"
