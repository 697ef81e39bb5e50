-- What `docker inspect` prints of one container: a list of one object. Its `HostConfig` has the options of `--security-opt` as `SecurityOpt`, where
-- docker's command line has put the text of a seccomp profile in place of its file's name (parseSecurityOpts of docker/cli,
-- cli/command/container/opts.go). What docker takes of them is parseSecurityOpt of moby/moby, daemon/daemon_unix.go.
use Rattle.std.specs.Prelude.{ℕ, ◌==◌, Bool, false, if◌then◌else◌, List, [], ◌∷◌, length, codes, fold, Option, Some, None, Result, Ok, Err}
use Rattle.std.specs.List.{list_any}
use Rattle.std.specs.Option.{option_and_then, option_map, unwrap_or}
use Rattle.std.specs.Str.{bytes_eq}
use Rattle.json.specs.Json.{Json}
use Rattle.json.specs.Find.{as_array, as_str}
use Rattle.sk_profile_json.specs.declared.fault.Absence.{Absence}
use Rattle.sk_profile_json.specs.declared.fault.Absence.TheVariants.{Unsaid, Builtin, Unconfined}
use Rattle.sk_profile_json.specs.declared.fault.Field.TheVariants as field
use Rattle.sk_profile_json.specs.Fields.{given, items_or_none, list_in, list_of}

-- ---- the options of a container

abbrev pub only_of : List Json → Option Json
only_of (item ∷ []) = Some item
only_of items = None

abbrev pub container_of : Json → Option Json
container_of j = option_and_then (λ items. only_of (list_of items)) (as_array j)

abbrev pub options_of : Json → Option (List Json)
options_of j = option_map (λ settings. items_or_none (list_in field.SecurityOpt settings)) (option_and_then (given field.HostConfig) (container_of j))

-- ---- what they say of seccomp

-- what stands behind the beginning of a word, where it begins so
abbrev pub behind : List ℕ → List ℕ → Option (List ℕ)
behind [] word = Some word
behind (first ∷ start) [] = None
behind (first ∷ start) (byte ∷ word) = if byte == first then behind start word else None

-- docker cuts an option at the first `=` (61), and one that has none at the first `:`
abbrev pub key_in : List ℕ → List ℕ
key_in option = if list_any (λ byte. byte == 61) option then codes "seccomp=" else codes "seccomp:"

abbrev pub seccomp_in : List ℕ → Option (List ℕ)
seccomp_in option = behind (key_in option) option

-- what each option says takes the place of what was said before it
abbrev pub said_after : List ℕ → Json → List ℕ
said_after said option = unwrap_or (option_and_then seccomp_in (as_str option)) said

-- so the last one counts, and where none says anything it is empty
abbrev pub said_last : List Json → List ℕ
said_last options = fold said_after [] options

-- ---- the profile

-- the text of a profile, or why there is none: nothing or one of two names is said (WithSeccomp of moby/moby, daemon/seccomp_linux.go)
abbrev pub text_said : List ℕ → Result (List ℕ) Absence
text_said said =
    if length said == 0 then Err Unsaid
    else if bytes_eq said (codes "builtin") then Err Builtin
    else if bytes_eq said (codes "unconfined") then Err Unconfined
    else Ok said

-- nothing where the document is none of docker's
abbrev pub text_inside : Json → Option (Result (List ℕ) Absence)
text_inside j = option_map (λ options. text_said (said_last options)) (options_of j)
