-- The actions of a profile, and the values that a filter answers for them: config-linux.md of the OCI runtime
-- specification, section "Seccomp"; seccomp(2).
use Rattle.std.specs.Prelude.{ℕ, ◌+◌, ◌&&◌, not, Bool, true, false, if◌then◌else◌, List, codes, is_some, Option, Some, None, Result, Ok, Err, unwrap_or}
use Rattle.std.specs.Str.{bytes_eq}
use Rattle.json.specs.Json.{Json}
use Rattle.sk_insn.specs.declared.action.Action.{Action}
use Rattle.sk_insn.specs.declared.action.Action.TheVariants.{KillProcess, KillThread, Trap, Errno, UserNotif, Trace, Log, Allow}
use Rattle.sk_insn.specs.Actions.{has_value, value_of}
use Rattle.sk_filter.specs.Errors.{error_number}
use Rattle.sk_profile_json.specs.declared.fault.Field.{Field}
use Rattle.sk_profile_json.specs.declared.fault.Wrong.{Wrong}
use Rattle.sk_profile_json.specs.declared.fault.Wrong.TheVariants.{Contradicts}
use Rattle.sk_profile_json.specs.Fields.{result_then, required, taken, text_in, number_in}

-- `SCMP_ACT_KILL` is the older name of `SCMP_ACT_KILL_THREAD`
abbrev pub action_named : List ℕ → Option Action
action_named name =
    if bytes_eq name (codes "SCMP_ACT_KILL") then Some KillThread
    else if bytes_eq name (codes "SCMP_ACT_KILL_THREAD") then Some KillThread
    else if bytes_eq name (codes "SCMP_ACT_KILL_PROCESS") then Some KillProcess
    else if bytes_eq name (codes "SCMP_ACT_TRAP") then Some Trap
    else if bytes_eq name (codes "SCMP_ACT_ERRNO") then Some Errno
    else if bytes_eq name (codes "SCMP_ACT_TRACE") then Some Trace
    else if bytes_eq name (codes "SCMP_ACT_LOG") then Some Log
    else if bytes_eq name (codes "SCMP_ACT_NOTIFY") then Some UserNotif
    else if bytes_eq name (codes "SCMP_ACT_ALLOW") then Some Allow
    else None

-- the actions that give an error's number on: it is EPERM where none stands
abbrev pub takes_number : Action → Bool
takes_number Errno = true
takes_number Trace = true
takes_number other = false

abbrev pub eperm : ℕ
eperm = 1

-- the greatest number that libseccomp takes: an error's is less than MAX_ERRNO, and a tracer's may be any of 16 bits
abbrev pub greatest_number : Action → ℕ
greatest_number Trace = 65535
greatest_number other = 4094

-- the value that a filter answers
abbrev pub value_with : Action → Option ℕ → ℕ
value_with action given = unwrap_or (value_of action) 0 + (if takes_number action then unwrap_or given eperm else 0)

abbrev pub action_in : Field → Json → Result Action Wrong
action_in field j = result_then (λ name. taken field (action_named name)) (result_then (required field) (text_in field j))

-- an error's name, if it stands, is one of the number, which stands too: podman goes by the name, and docker by the number
abbrev pub agree : Option ℕ → Option (List ℕ) → Bool
agree given None = true
agree None (Some name) = false
agree (Some given) (Some name) = has_value given (error_number name)

-- an action that gives no number on has none
abbrev pub value_if : Field → Field → Action → Option ℕ → Option (List ℕ) → Result ℕ Wrong
value_if errno_ret errno action given name =
    if is_some given && not (takes_number action) then Err (Contradicts errno_ret)
    else if agree given name then Ok (value_with action given)
    else Err (Contradicts errno)

-- the value for an action, with the number and the name of its error in these fields
abbrev pub value_in : Field → Field → Action → Json → Result ℕ Wrong
value_in errno_ret errno action j =
    result_then (λ given. result_then (value_if errno_ret errno action given) (text_in errno j)) (number_in (greatest_number action) errno_ret j)
