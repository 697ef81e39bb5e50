-- Where runc has instructions of its own stand before a filter, and which numbers they know: generatePatch of
-- libcontainer/seccomp/patchbpf/enosys_linux.go.
use Rattle.std.specs.Prelude.{ℕ, ◌&&◌, ◌||◌, not, nat_lt, Bool, true, false, if◌then◌else◌, List, is_some, Option, None, Result, Ok}
use Rattle.std.specs.List.{filter_map, fold}
use Rattle.json.specs.Json.{Json}
use Rattle.sk_insn.specs.declared.action.Action.{Action}
use Rattle.sk_insn.specs.declared.action.Action.TheVariants.{Allow, Log, Trace}
use Rattle.sk_names.specs.declared.architecture.Architecture.{Architecture}
use Rattle.sk_names.specs.Names.{number_on}
use Rattle.sk_profile_json.specs.declared.context.Context.{Context}
use Rattle.sk_profile_json.specs.declared.fault.Field.TheVariants as field
use Rattle.sk_profile_json.specs.declared.fault.Wrong.{Wrong}
use Rattle.sk_profile_json.specs.Actions.{action_in}
use Rattle.sk_profile_json.specs.Architectures.{architectures, own_map}
use Rattle.sk_profile_json.specs.Contexts.{is_empty}
use Rattle.sk_profile_json.specs.Entries.{Named}
use Rattle.sk_profile_json.specs.Multiplexed.{is_multiplexed}

-- they stand there where architectures are listed
abbrev pub lists_any : Context → Json → Bool
lists_any context j = not (is_empty (architectures j)) || is_some (own_map context j)

-- and calls are not performed that no entry is for; a tracer is to know new calls by itself
abbrev pub performs : Result Action Wrong → Bool
performs (Ok Allow) = true
performs (Ok Log) = true
performs (Ok Trace) = true
performs action = false

abbrev pub has_stub : Context → Json → Bool
has_stub context j = context.runc && (lists_any context j && not (performs (action_in field.DefaultAction j)))

-- ---- the greatest number of an architecture that an entry names, whatever it says. libseccomp has negative numbers for calls that
-- another one tells, and these are never the greatest

abbrev pub known_number : Architecture → Named → Option ℕ
known_number architecture it = if is_multiplexed architecture it.name then None else number_on architecture it.name

abbrev pub greater : ℕ → ℕ → ℕ
greater top nr = if nat_lt top nr then nr else top

abbrev pub top_on : Architecture → List Named → ℕ
top_on architecture named = fold greater 0 (filter_map (known_number architecture) named)
