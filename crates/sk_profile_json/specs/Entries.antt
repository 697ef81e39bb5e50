-- One entry of `syscalls`: what it says of the calls that it names (config-linux.md of the OCI runtime specification, section
-- "Seccomp"). An older profile has one `name` in place of `names`.
use Rattle.std.specs.Prelude.{ℕ, ◌&&◌, Bool, true, false, if◌then◌else◌, List, [], ◌∷◌, codes, Option, Some, None, Result, Ok, Err}
use Rattle.std.specs.List.{list_any, list_all, filter_map}
use Rattle.std.specs.Option.{option_map}
use Rattle.json.specs.Json.{Json}
use Rattle.json.specs.Find.{as_str}
use Rattle.sk_insn.specs.declared.action.Action.{Action}
use Rattle.sk_insn.specs.declared.action.Action.TheVariants.{UserNotif}
use Rattle.sk_profile.specs.declared.condition.Condition.{Condition}
use Rattle.sk_profile_json.specs.declared.fault.Field.{Field}
use Rattle.sk_profile_json.specs.declared.fault.Field.TheVariants as field
use Rattle.sk_profile_json.specs.declared.fault.Wrong.{Wrong}
use Rattle.sk_profile_json.specs.declared.fault.Wrong.TheVariants.{Missing, NotTaken, Contradicts}
use Rattle.sk_profile_json.specs.Fields.{result_then, given, list_in, wrong_keys, is_text, is_the}
use Rattle.sk_profile_json.specs.Actions.{action_in, value_in}

-- ---- its names

abbrev pub names_or : List Json → Option Json → Result (List Json) Wrong
names_or [] None = Err (Missing field.Names)
names_or [] (Some name) = if is_text name then Ok (name ∷ []) else Err (NotTaken field.Name)
names_or (j ∷ js) None = if list_all is_text (j ∷ js) then Ok (j ∷ js) else Err (NotTaken field.Names)
names_or (j ∷ js) (Some name) = Err (Contradicts field.Name)

abbrev pub names_in : Json → Result (List Json) Wrong
names_in j = result_then (λ items. names_or items (given field.Name j)) (list_in field.Names j)

-- ---- its action

-- who listens for calls is told of them by write(2), so a runtime refuses to have that one told
abbrev pub is_told : Action → Bool
is_told UserNotif = true
is_told other = false

abbrev pub value_unless_told : List Json → Json → Action → Result ℕ Wrong
value_unless_told names j action =
    if is_told action && list_any (is_the (codes "write")) names then Err (Contradicts field.Action)
    else value_in field.ErrnoRet field.Errno action j

abbrev pub entry_value : List Json → Json → Result ℕ Wrong
entry_value names j = result_then (value_unless_told names j) (action_in field.Action j)

-- ---- the whole, but for its conditions

pub record Entry : Type 0 where
  pub names : List Json
  pub value : ℕ
  pub arguments : List Json

abbrev pub entry_fields : List Field
entry_fields =
    field.Names ∷ field.Name ∷ field.Action ∷ field.ErrnoRet ∷ field.Errno ∷ field.Args ∷ field.Comment
    ∷ field.Includes ∷ field.Excludes ∷ []

abbrev pub entry_with : Json → List Json → Result Entry Wrong
entry_with j names =
    result_then (λ value. result_then (λ arguments. Ok (record { names = names; value = value; arguments = arguments }))
    (list_in field.Args j)) (entry_value names j)

abbrev pub entry_if : Option Wrong → Json → Result Entry Wrong
entry_if (Some wrong) j = Err wrong
entry_if None j = result_then (entry_with j) (names_in j)

abbrev pub entry_of : Json → Result Entry Wrong
entry_of j = entry_if (wrong_keys entry_fields j) j

-- ---- what it says of each of its names

-- the value for the calls with a name whose arguments meet all conditions, and the number of the entry
pub record Named : Type 0 where
  pub name : List ℕ
  pub conditions : List Condition
  pub value : ℕ
  pub entry : ℕ

abbrev pub named_as : ℕ → List Condition → ℕ → Json → Option Named
named_as entry conditions value j =
    option_map (λ name. record { name = name; conditions = conditions; value = value; entry = entry }) (as_str j)

abbrev pub all_named : ℕ → List Condition → ℕ → List Json → List Named
all_named entry conditions value names = filter_map (named_as entry conditions value) names
