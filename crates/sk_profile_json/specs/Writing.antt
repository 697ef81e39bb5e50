-- The text of the profile that allows calls of x86-64 by their numbers, and refuses all others by EPERM: docker's JSON, after the object `seccomp` of
-- config-linux.md of the OCI runtime specification.
use Rattle.std.specs.Prelude.{ℕ, ◌≡◌, ◌++◌, ◌==◌, ◌||◌, not, false, if◌then◌else◌, List, [], ◌∷◌, codes, find, is_some, Option, Some, None, Vec, Result, Ok, Err}
use Rattle.std.specs.Global.{Global}
use Rattle.std.specs.List.{filter_map, list_any}
use Rattle.json.specs.Json.{Json, string, number, array, object, Items, no_items, item, Members, no_members, member}
use Rattle.json.specs.Layout.{pretty}
use Rattle.json.specs.Tree.{json_tokens}
use Rattle.sk_insn.specs.declared.action.Action.TheVariants.{Errno, Allow}
use Rattle.sk_insn.specs.declared.record.Record.{Record}
use Rattle.sk_names.specs.declared.architecture.Architecture.TheVariants as architecture
use Rattle.sk_names.specs.Architectures.{audit_of}
use Rattle.sk_names.specs.Names.{name_on}
use Rattle.sk_profile.specs.Profiles.{Profile, is_x32, said_by}
use Rattle.sk_profile_json.specs.declared.context.Context.{Context}
use Rattle.sk_profile_json.specs.declared.fault.Field.{Field}
use Rattle.sk_profile_json.specs.declared.fault.Field.TheVariants as field
use Rattle.sk_profile_json.specs.declared.machine.Machine.TheVariants as machine
use Rattle.sk_profile_json.specs.Actions.{eperm, value_with}
use Rattle.sk_profile_json.specs.Keys.{key_of}
use Rattle.sk_profile_json.specs.Machines.{scmp_name}
use Rattle.sk_profile_json.specs.Wholes.{Says}

-- ---- the calls

-- the first of the numbers that no call of x86-64 has
abbrev pub first_unnamed : List ℕ → Option ℕ
first_unnamed numbers = find (λ nr. not (is_some (name_on architecture.X86_64 nr))) numbers

abbrev pub names_of : List ℕ → List (List ℕ)
names_of numbers = filter_map (name_on architecture.X86_64) numbers

-- ---- the value

abbrev pub strings : List (List ℕ) → Items
strings [] = no_items
strings (text ∷ texts) = item (string text) (strings texts)

abbrev pub at : Field → Json → Members → Members
at field j members = member (key_of field) j members

abbrev pub entry : List ℕ → Json
entry numbers = object (at field.Names (array (strings (names_of numbers))) (at field.Action (string (codes "SCMP_ACT_ALLOW")) no_members))

-- an entry has one name at least, so that no numbers have none
abbrev pub entries : List ℕ → Items
entries [] = no_items
entries (nr ∷ numbers) = item (entry (nr ∷ numbers)) no_items

abbrev pub value_of : List ℕ → Json
value_of numbers =
    object (at field.DefaultAction (string (codes "SCMP_ACT_ERRNO"))
    (at field.DefaultErrnoRet (number (codes "1"))
    (at field.Architectures (array (strings (scmp_name architecture.X86_64 ∷ [])))
    (at field.Syscalls (array (entries numbers)) no_members))))

-- ---- the text: a line for each item and member, and a line feed (10) at the end

abbrev pub profile_text : List ℕ → List ℕ
profile_text numbers = pretty (json_tokens (value_of numbers)) ++ 10 ∷ []

-- or the first number that has no name
abbrev pub IsProfileText : List ℕ → Result (Vec ℕ Global) ℕ → Type 0
IsProfileText numbers (Ok text) = (first_unnamed numbers ≡ None) × (text.items ≡ profile_text numbers)
IsProfileText numbers (Err nr) = first_unnamed numbers ≡ Some nr

-- ---- what it means

-- a call of x86-64 is allowed if its number is one of these, and refused by EPERM if it is not. All else, as what is of x32, is killed:
-- SECCOMP_RET_KILL_THREAD
abbrev pub answer : List ℕ → Record → ℕ
answer numbers call =
    if not (audit_of architecture.X86_64 == call.arch) || is_x32 call.nr then 0
    else if list_any (λ nr. nr == call.nr) numbers then value_with Allow None
    else value_with Errno (Some eperm)

abbrev pub Allows : List ℕ → Profile → Type 0
Allows numbers profile = (call : Record) → said_by profile call ≡ answer numbers call

-- it is read as a profile that says so, wherever it holds on x86-64, unless runc attaches the filter: that answers ENOSYS by itself to numbers above the
-- greatest one
abbrev pub SaysOf : List ℕ → List ℕ → Type 0
SaysOf numbers text =
    (context : Context) → context.machine ≡ Some machine.X86_64 → context.runc ≡ false
    → (profile : Profile) × Says context text profile × Allows numbers profile
