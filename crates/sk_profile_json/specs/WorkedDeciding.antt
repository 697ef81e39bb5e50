-- What of profiles decides on calls, worked out by hand: entries as docker's default profile has them, and calls that they are for.
use Rattle.std.specs.Prelude.{ℕ, ◌≡◌, ◌++◌, true, List, [], ◌∷◌, codes, Option, Some}
use Rattle.std.specs.Option.{option_and_then, option_map}
use Rattle.std.specs.Result.{result_ok}
use Rattle.json.specs.Json.{document}
use Rattle.sk_insn.specs.declared.record.Record.{Record}
use Rattle.sk_insn.specs.Record.{native}
use Rattle.sk_profile_json.specs.declared.context.Context.{Context}
use Rattle.sk_profile_json.specs.declared.deciding.Decider.{Decider}
use Rattle.sk_profile_json.specs.declared.deciding.Decider.TheVariants.{Entry, Default, NoCall, Foreign}
use Rattle.sk_profile_json.specs.Deciding.{decider_by}
use Rattle.sk_profile_json.specs.Wholes.{profile_in}
use Rattle.sk_profile_json.specs.WorkedFiles.{plain}
use Rattle.sk_profile_json.specs.WorkedPartings.{but_vsock, x32_socket}

abbrev pub decider : Context → List ℕ → Record → Option Decider
decider context text call =
    option_map (λ profile. decider_by profile call) (option_and_then (λ j. result_ok (profile_in context j)) (document text))

-- a call with a number and a first argument
abbrev pub call : ℕ → ℕ → Record
call nr argument = native nr 0 (argument ∷ 0 ∷ 0 ∷ 0 ∷ 0 ∷ 0 ∷ [])

-- some of docker's entries: what all may call; personality(2) of Linux, and of Linux with 32 bits; clone(2) without a new namespace for whoever
-- has no CAP_SYS_ADMIN, to whom there is no clone3(2), and all of clone(2) for whoever has
abbrev pub docker : List ℕ
docker = codes "{\"defaultAction\": \"SCMP_ACT_ERRNO\", \"defaultErrnoRet\": 1, \"syscalls\": [{\"names\": [\"read\", \"write\"], \"action\": \"SCMP_ACT_ALLOW\"}, {\"names\": [\"personality\"], \"action\": \"SCMP_ACT_ALLOW\", \"args\": [{\"index\": 0, \"value\": 0, \"op\": \"SCMP_CMP_EQ\"}]}, {\"names\": [\"personality\"], \"action\": \"SCMP_ACT_ALLOW\", \"args\": [{\"index\": 0, \"value\": 8, \"op\": \"SCMP_CMP_EQ\"}]}, {\"names\": [\"clone\"], \"action\": \"SCMP_ACT_ALLOW\", \"includes\": {\"caps\": [\"CAP_SYS_ADMIN\"]}}, {\"names\": [\"clone\"], \"action\": \"SCMP_ACT_ALLOW\", \"args\": [{\"index\": 0, \"value\": 2114060288, \"op\": \"SCMP_CMP_MASKED_EQ\"}], \"excludes\": {\"caps\": [\"CAP_SYS_ADMIN\"]}}, {\"names\": [\"clone3\"], \"action\": \"SCMP_ACT_ERRNO\", \"errnoRet\": 38, \"excludes\": {\"caps\": [\"CAP_SYS_ADMIN\"]}}]}"

-- of two entries for socket(2) the first has a condition, and the second has none and goes first
abbrev pub plain_first : List ℕ
plain_first = codes "{\"defaultAction\": \"SCMP_ACT_ERRNO\", \"syscalls\": [{\"names\": [\"socket\"], \"action\": \"SCMP_ACT_KILL\", \"args\": [{\"index\": 0, \"value\": 40, \"op\": \"SCMP_CMP_EQ\"}]}, {\"names\": [\"socket\"], \"action\": \"SCMP_ACT_ALLOW\"}]}"

-- an entry that does what the default does, before one that does not
abbrev pub as_default : List ℕ
as_default = codes "{\"defaultAction\": \"SCMP_ACT_ALLOW\", \"syscalls\": [{\"names\": [\"socket\"], \"action\": \"SCMP_ACT_ALLOW\"}, {\"names\": [\"socket\"], \"action\": \"SCMP_ACT_ERRNO\", \"args\": [{\"index\": 0, \"value\": 40, \"op\": \"SCMP_CMP_EQ\"}]}]}"

pub record WorkedDeciding : Type 0 where
  pub read : decider plain docker (call 0 0) ≡ Some (Entry 0)
  pub linux : decider plain docker (call 135 0) ≡ Some (Entry 1)
  pub linux32 : decider plain docker (call 135 8) ≡ Some (Entry 2)
  pub other_personality : decider plain docker (call 135 1) ≡ Some Default
  pub same_namespace : decider plain docker (call 56 17) ≡ Some (Entry 4)
  pub new_namespace : decider plain docker (call 56 0x10000011) ≡ Some Default
  pub refused : decider plain docker (call 435 0) ≡ Some (Entry 5)
  pub unnamed : decider plain docker (call 39 0) ≡ Some Default
  pub x32 : decider plain docker (call 0x40000000 0) ≡ Some Foreign
  pub i386 : decider plain docker (record (call 3 0) { arch = 0x40000003 }) ≡ Some Foreign
  pub goes_first : decider plain plain_first (call 41 40) ≡ Some (Entry 1)
  pub dropped : decider plain as_default (call 41 41) ≡ Some Default
  pub condition : decider plain as_default (call 41 40) ≡ Some (Entry 1)
  -- x32's arguments have 32 bits
  pub narrow : decider plain but_vsock (x32_socket 0x100000028) ≡ Some Default
  pub wide : decider plain but_vsock (call 41 0x100000028) ≡ Some (Entry 0)
  pub no_call : decider (record plain { runc = true }) but_vsock (call 1000 0) ≡ Some NoCall
