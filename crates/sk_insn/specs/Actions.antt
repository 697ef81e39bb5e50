-- What the value of a filter asks for: the SECCOMP_RET_ actions of seccomp(2).
use Rattle.std.specs.Prelude.{ℕ, ◌-◌, ◌%◌, ◌==◌, Bool, true, false, List, [], ◌∷◌, codes, find, unwrap_or, Option, Some, None}
use Rattle.std.specs.Str.{bytes_eq}
use Rattle.sk_insn.specs.declared.action.Action.{Action}
use Rattle.sk_insn.specs.declared.action.Action.TheVariants.{KillProcess, KillThread, Trap, Errno, UserNotif, Trace, Log, Allow, Unknown}

-- the value that lets a call through, with no data: SECCOMP_RET_ALLOW
abbrev pub allow : ℕ
allow = 0x7fff0000

-- the value of a named action
abbrev pub value_of : Action → Option ℕ
value_of KillProcess = Some 0x80000000
value_of KillThread = Some 0x00000000
value_of Trap = Some 0x00030000
value_of Errno = Some 0x00050000
value_of UserNotif = Some 0x7fc00000
value_of Trace = Some 0x7ff00000
value_of Log = Some 0x7ffc0000
value_of Allow = Some allow
value_of Unknown = None

-- its word in the assembler and in reports
abbrev pub action_name : Action → List ℕ
action_name KillProcess = codes "kill_process"
action_name KillThread = codes "kill_thread"
action_name Trap = codes "trap"
action_name Errno = codes "errno"
action_name UserNotif = codes "user_notif"
action_name Trace = codes "trace"
action_name Log = codes "log"
action_name Allow = codes "allow"
action_name Unknown = codes "unknown"

-- the named actions, in order of precedence
abbrev pub actions : List Action
actions = KillProcess ∷ KillThread ∷ Trap ∷ Errno ∷ UserNotif ∷ Trace ∷ Log ∷ Allow ∷ []

-- the high 16 bits of a value, with the low ones 0
abbrev pub action_part : ℕ → ℕ
action_part value = value - value % 65536

-- the low 16 bits
abbrev pub data_part : ℕ → ℕ
data_part value = value % 65536

abbrev pub has_value : ℕ → Option ℕ → Bool
has_value wanted None = false
has_value wanted (Some value) = value == wanted

-- the action that a value asks for
unfoldable pub action_of : ℕ → Action
action_of value = unwrap_or (find (λ action. has_value (action_part value) (value_of action)) actions) Unknown

-- the action with a name
abbrev pub action_named : List ℕ → Option Action
action_named name = find (λ action. bytes_eq (action_name action) name) actions

-- whether the call is performed
abbrev pub performs : Action → Bool
performs Log = true
performs Allow = true
performs action = false
