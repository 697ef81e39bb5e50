-- Calls that are told by a number in the first argument of another one, and by its own number on some architectures only: socketcall(2) and
-- ipc(2). Their numbers are those of linux/net.h and linux/ipc.h. Linux reads the first argument as an int, and of ipc's
-- the lower half alone (ipc/syscall.c).
use Rattle.std.specs.Prelude.{ℕ, ◌&&◌, ◌==◌, not, Bool, List, [], ◌∷◌, codes, filter, find, map, flat_map, is_some, Option, Some, None}
use Rattle.std.specs.List.{filter_map, list_any}
use Rattle.std.specs.Option.{option_map, option_map_or}
use Rattle.std.specs.Str.{bytes_eq}
use Rattle.sk_names.specs.declared.architecture.Architecture.{Architecture}
use Rattle.sk_names.specs.Names.{number_on}
use Rattle.sk_filter.specs.Verdict.{first_of}
use Rattle.sk_profile.specs.declared.condition.Condition.{Condition}
use Rattle.sk_profile.specs.declared.condition.Test.TheVariants.{Masked}
use Rattle.sk_profile.specs.Profiles.{Rule, has_none}
use Rattle.sk_profile_json.specs.Entries.{Named}

-- a name, and the number that tells it
abbrev pub Told : Type 0
Told = List ℕ × ℕ

-- a call, the bits of its first argument that it reads, and the calls that these tell
pub record Multiplexer : Type 0 where
  pub call : List ℕ
  pub mask : ℕ
  pub tells : List Told

abbrev pub socketcall : Multiplexer
socketcall = record {
  call = codes "socketcall";
  mask = 0xffffffff;
  tells =
      (codes "socket", 1) ∷ (codes "bind", 2) ∷ (codes "connect", 3) ∷ (codes "listen", 4) ∷ (codes "accept", 5)
      ∷ (codes "getsockname", 6) ∷ (codes "getpeername", 7) ∷ (codes "socketpair", 8) ∷ (codes "send", 9) ∷ (codes "recv", 10)
      ∷ (codes "sendto", 11) ∷ (codes "recvfrom", 12) ∷ (codes "shutdown", 13) ∷ (codes "setsockopt", 14) ∷ (codes "getsockopt", 15)
      ∷ (codes "sendmsg", 16) ∷ (codes "recvmsg", 17) ∷ (codes "accept4", 18) ∷ (codes "recvmmsg", 19) ∷ (codes "sendmmsg", 20) ∷ [];
}

abbrev pub ipc : Multiplexer
ipc = record {
  call = codes "ipc";
  mask = 0xffff;
  tells =
      (codes "semop", 1) ∷ (codes "semget", 2) ∷ (codes "semctl", 3) ∷ (codes "semtimedop", 4)
      ∷ (codes "msgsnd", 11) ∷ (codes "msgrcv", 12) ∷ (codes "msgget", 13) ∷ (codes "msgctl", 14)
      ∷ (codes "shmat", 21) ∷ (codes "shmdt", 22) ∷ (codes "shmget", 23) ∷ (codes "shmctl", 24) ∷ [];
}

abbrev pub multiplexers : List Multiplexer
multiplexers = socketcall ∷ ipc ∷ []

-- ---- what is said of a call that is told so. Its arguments stand behind a pointer, or in other places, so that its conditions can't be
-- seen; it gets the strictest of all that may be said of it, and is never allowed what may be refused

abbrev pub is_named : List ℕ → Named → Bool
is_named name it = bytes_eq it.name name

-- it goes before those with conditions, as the rules of one number do
abbrev pub is_plain : ℕ → Named → Bool
is_plain default it = not (it.value == default) && has_none it.conditions

abbrev pub is_plain_as : ℕ → List ℕ → Named → Bool
is_plain_as default name it = is_named name it && is_plain default it

abbrev pub value_in : Named → ℕ
value_in it = it.value

-- of all that is said of a name
abbrev pub unseen : ℕ → List Named → List ℕ → ℕ
unseen default named name =
    option_map_or value_in (find (is_plain_as default name) named) (first_of (default ∷ map value_in (filter (is_named name) named)))

-- the first argument has this number under the mask
abbrev pub under : ℕ → ℕ → Condition
under mask number = record { index = 0; test = Masked mask; value = number }

-- the rule of the call with this number for one that it tells, if any entry names that
abbrev pub told_rule : ℕ → ℕ → ℕ → List Named → Told → Option Rule
told_rule nr mask default named told =
    option_map
    (λ (first : Named). record { number = nr; conditions = under mask told.1 ∷ []; value = unseen default named told.0; entry = first.entry })
    (find (is_named told.0) named)

abbrev pub told_rules : Multiplexer → ℕ → List Named → Option ℕ → List Rule
told_rules it default named None = []
told_rules it default named (Some nr) = filter_map (told_rule nr it.mask default named) it.tells

abbrev pub multiplexed_rules : Architecture → ℕ → List Named → List Rule
multiplexed_rules architecture default named =
    flat_map (λ it. told_rules it default named (number_on architecture it.call)) multiplexers

-- ---- whether a call is told so on an architecture

abbrev pub tells : List ℕ → Told → Bool
tells name told = bytes_eq told.0 name

abbrev pub is_told_by : Architecture → List ℕ → Multiplexer → Bool
is_told_by architecture name it = list_any (tells name) it.tells && is_some (number_on architecture it.call)

abbrev pub is_multiplexed : Architecture → List ℕ → Bool
is_multiplexed architecture name = list_any (is_told_by architecture name) multiplexers
