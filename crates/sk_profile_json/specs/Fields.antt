-- Looking a field up in an object of a profile. A field that is null stands for none, as in the runtimes.
use Rattle.std.specs.Prelude.{ℕ, not, Bool, false, if◌then◌else◌, List, [], ◌∷◌, is_some, Option, Some, None, Result, Ok, Err}
use Rattle.std.specs.List.{list_any, list_all, position_from}
use Rattle.std.specs.Option.{option_and_then, option_map}
use Rattle.std.specs.Str.{bytes_eq}
use Rattle.json.specs.Json.{Json, Items, no_items, item, Members}
use Rattle.json.specs.Find.{get, is_null, as_str, as_number, as_array, as_object}
use Rattle.json.specs.Strict.{keys}
use Rattle.sk_text.specs.Numbers.{number_of, up_to}
use Rattle.sk_profile_json.specs.declared.fault.Field.{Field}
use Rattle.sk_profile_json.specs.declared.fault.Wrong.{Wrong}
use Rattle.sk_profile_json.specs.declared.fault.Wrong.TheVariants.{NotAnObject, UnknownKey, Missing, NotTaken}
use Rattle.sk_profile_json.specs.Keys.{key_of}

-- ---- steps, each of which may find something wrong

abbrev pub result_then : {A B E : Type 0} → (A → Result B E) → Result A E → Result B E
result_then next (Ok x) = next x
result_then next (Err e) = Err e

-- what has to stand
abbrev pub required : {A : Type 0} → Field → Option A → Result A Wrong
required field None = Err (Missing field)
required field (Some x) = Ok x

-- what has to be one that is known
abbrev pub taken : {A : Type 0} → Field → Option A → Result A Wrong
taken field None = Err (NotTaken field)
taken field (Some x) = Ok x

-- ---- fields

abbrev pub unless_null : Option Json → Option Json
unless_null None = None
unless_null (Some j) = if is_null j then None else Some j

abbrev pub given : Field → Json → Option Json
given field j = unless_null (get (key_of field) j)

-- a field of a kind, if it stands
abbrev pub read_as : {A : Type 0} → (Json → Option A) → Field → Option Json → Result (Option A) Wrong
read_as kind field None = Ok None
read_as kind field (Some j) = elim (kind j) [ None ↦ Err (NotTaken field) | Some x ↦ Ok (Some x) ]

-- a text
abbrev pub text_in : Field → Json → Result (Option (List ℕ)) Wrong
text_in field j = read_as as_str field (given field j)

-- a number, with no sign, point or exponent, and at most so large
abbrev pub number_up_to : ℕ → Json → Option ℕ
number_up_to most j = option_and_then (λ digits. up_to most (number_of digits)) (as_number j)

abbrev pub number_in : ℕ → Field → Json → Result (Option ℕ) Wrong
number_in most field j = read_as (number_up_to most) field (given field j)

-- the items of a list; one that does not stand has none
abbrev pub list_of : Items → List Json
list_of no_items = []
list_of (item j js) = j ∷ list_of js

abbrev pub items_of_kind : Field → Option Json → Result (List Json) Wrong
items_of_kind field None = Ok []
items_of_kind field (Some j) = elim (as_array j) [ None ↦ Err (NotTaken field) | Some js ↦ Ok (list_of js) ]

abbrev pub list_in : Field → Json → Result (List Json) Wrong
list_in field j = items_of_kind field (given field j)

-- a list that was read
abbrev pub items_or_none : Result (List Json) Wrong → List Json
items_or_none (Ok items) = items
items_or_none (Err wrong) = []

-- whether it is a text, and which
abbrev pub is_text : Json → Bool
is_text j = is_some (as_str j)

abbrev pub is_written : List ℕ → Option (List ℕ) → Bool
is_written wanted None = false
is_written wanted (Some text) = bytes_eq text wanted

abbrev pub is_the : List ℕ → Json → Bool
is_the wanted j = is_written wanted (as_str j)

-- a list of texts
abbrev pub texts_of : Field → List Json → Result (List Json) Wrong
texts_of field items = if list_all is_text items then Ok items else Err (NotTaken field)

abbrev pub texts_in : Field → Json → Result (List Json) Wrong
texts_in field j = result_then (texts_of field) (list_in field j)

-- ---- keys

abbrev pub is_known : List Field → List ℕ → Bool
is_known known key = list_any (λ field. bytes_eq (key_of field) key) known

-- what is wrong with an object by its keys: it may have no others than these
abbrev pub wrong_members : List Field → Option Members → Option Wrong
wrong_members known None = Some NotAnObject
wrong_members known (Some members) = option_map UnknownKey (position_from (λ key. not (is_known known key)) 0 (keys members))

abbrev pub wrong_keys : List Field → Json → Option Wrong
wrong_keys known j = wrong_members known (as_object j)
