-- The architectures of a profile, that of the machine among them where any are listed. Of `archMap` the first object for the machine
-- says which of its relatives are, as moby and podman take it; one without such an object lists none.
use Rattle.std.specs.Prelude.{◌&&◌, ◌||◌, not, Bool, false, if◌then◌else◌, List, [], ◌∷◌, find, is_some, Option, Some, None, Result, Ok, Err}
use Rattle.std.specs.List.{list_any, list_all}
use Rattle.std.specs.Option.{option_map_or}
use Rattle.json.specs.Json.{Json}
use Rattle.sk_names.specs.declared.architecture.Architecture.{Architecture}
use Rattle.sk_profile_json.specs.declared.context.Context.{Context}
use Rattle.sk_profile_json.specs.declared.fault.Field.{Field}
use Rattle.sk_profile_json.specs.declared.fault.Field.TheVariants as field
use Rattle.sk_profile_json.specs.declared.fault.Wrong.{Wrong}
use Rattle.sk_profile_json.specs.declared.fault.Wrong.TheVariants.{NotTaken, Contradicts}
use Rattle.sk_profile_json.specs.declared.architectures.TheConstants.{ARCHITECTURES}
use Rattle.sk_profile_json.specs.Contexts.{is_empty}
use Rattle.sk_profile_json.specs.Fields.{given, items_or_none, list_in, wrong_keys, is_the}
use Rattle.sk_profile_json.specs.Machines.{own_of, scmp_name}

abbrev pub is_architecture : Json → Bool
is_architecture j = list_any (λ name. is_the name.now j) ARCHITECTURES

-- the machine's own
abbrev pub is_own : Context → Json → Bool
is_own context j = option_map_or (λ machine. is_the (scmp_name (own_of machine)) j) context.machine false

abbrev pub are_architectures : Context → List Json → Bool
are_architectures context items = list_all is_architecture items && (is_empty items || list_any (is_own context) items)

abbrev pub map_fields : List Field
map_fields = field.Architecture ∷ field.SubArchitectures ∷ []

abbrev pub is_some_and : (Json → Bool) → Option Json → Bool
is_some_and test None = false
is_some_and test (Some j) = test j

abbrev pub are_all : Result (List Json) Wrong → Bool
are_all (Ok items) = list_all is_architecture items
are_all (Err wrong) = false

abbrev pub is_map : Json → Bool
is_map j =
    not (is_some (wrong_keys map_fields j))
    && (is_some_and is_architecture (given field.Architecture j) && are_all (list_in field.SubArchitectures j))

-- only one of the two names any
abbrev pub wrong_lists : Context → List Json → List Json → Option Wrong
wrong_lists context architectures maps =
    if not (is_empty architectures) && not (is_empty maps) then Some (Contradicts field.ArchMap)
    else if not (are_architectures context architectures) then Some (NotTaken field.Architectures)
    else if not (list_all is_map maps) then Some (NotTaken field.ArchMap)
    else None

-- ---- those that are listed for the machine

abbrev pub architectures : Json → List Json
architectures j = items_or_none (list_in field.Architectures j)

abbrev pub maps : Json → List Json
maps j = items_or_none (list_in field.ArchMap j)

abbrev pub maps_own : Context → Json → Bool
maps_own context j = is_some_and (is_own context) (given field.Architecture j)

-- the object of `archMap` that counts
abbrev pub own_map : Context → Json → Option Json
own_map context j = find (maps_own context) (maps j)

abbrev pub names_sub : Architecture → Json → Bool
names_sub architecture j = list_any (is_the (scmp_name architecture)) (items_or_none (list_in field.SubArchitectures j))

abbrev pub is_listed : Context → Json → Architecture → Bool
is_listed context j architecture =
    list_any (is_the (scmp_name architecture)) (architectures j) || is_some_and (names_sub architecture) (own_map context j)

-- a relative of the machine counts where it is listed, unless the machine's own architecture is to stand alone
abbrev pub counts_too : Context → Json → Architecture → Bool
counts_too context j architecture = not context.native && is_listed context j architecture
