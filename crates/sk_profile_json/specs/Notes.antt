-- What is told of a profile beside its filter.
use Rattle.std.specs.Prelude.{ℕ, ◌+◌, ◌++◌, ◌&&◌, not, nat_le, Bool, false, if◌then◌else◌, List, [], ◌∷◌, map, codes, is_some, Option, Some, None, Result, Ok, Err}
use Rattle.std.specs.List.{filter_map, list_any}
use Rattle.std.specs.Option.{option_and_then}
use Rattle.json.specs.Find.{as_str}
use Rattle.json.specs.Json.{Json}
use Rattle.sk_names.specs.Architectures.{text_of}
use Rattle.sk_names.specs.X86_64.{number_named}
use Rattle.sk_names.specs.Elsewhere.{is_elsewhere}
use Rattle.sk_profile_json.specs.declared.context.Context.{Context}
use Rattle.sk_profile_json.specs.declared.machine.Machine.{Machine}
use Rattle.sk_profile_json.specs.declared.fault.Field.TheVariants as field
use Rattle.sk_profile_json.specs.declared.fault.Wrong.{Wrong}
use Rattle.sk_profile_json.specs.Architectures.{is_listed}
use Rattle.sk_profile_json.specs.Contexts.{counts}
use Rattle.sk_profile_json.specs.Entries.{names_in}
use Rattle.sk_profile_json.specs.Fields.{items_or_none, list_in}
use Rattle.sk_profile_json.specs.Machines.{own_of, row}
use Rattle.sk_profile_json.specs.Texts.{entry_text}

-- ---- names that no call of Linux has: such a name gives no rule, as in the runtimes

abbrev pub is_unknown : List ℕ → Bool
is_unknown name = not (is_some (number_named name)) && not (is_elsewhere name)

-- what can't be printed in one line stands as a question mark (63)
abbrev pub shown_byte : ℕ → ℕ
shown_byte byte = if nat_le 32 byte && nat_le byte 126 then byte else 63

abbrev pub unknown_text : ℕ → List ℕ → List ℕ
unknown_text entry name = entry_text entry ++ codes "no call is named " ++ map shown_byte name ++ codes ": passed over"

abbrev pub unknown_note : ℕ → List ℕ → Option (List ℕ)
unknown_note entry name = if is_unknown name then Some (unknown_text entry name) else None

abbrev pub name_note : ℕ → Json → Option (List ℕ)
name_note entry name = option_and_then (unknown_note entry) (as_str name)

abbrev pub names_notes : ℕ → List Json → List (List ℕ)
names_notes entry names = filter_map (name_note entry) names

-- the names of an entry that counts
abbrev pub is_yes : Result Bool Wrong → Bool
is_yes (Ok counts) = counts
is_yes (Err wrong) = false

abbrev pub counted_names : Context → Json → List Json
counted_names context j = if is_yes (counts context j) then items_or_none (names_in j) else []

abbrev pub entry_notes : Context → ℕ → Json → List (List ℕ)
entry_notes context entry j = names_notes entry (counted_names context j)

-- of the entries that count, the first of which has this number
abbrev pub notes_from : Context → ℕ → List Json → List (List ℕ)
notes_from context entry [] = []
notes_from context entry (j ∷ js) = entry_notes context entry j ++ notes_from context (entry + 1) js

-- ---- architectures that are listed, and left out

abbrev pub lists_relative : Context → Json → Machine → Bool
lists_relative context j machine = list_any (is_listed context j) (row machine).relatives

abbrev pub alone_text : Machine → List ℕ
alone_text machine = text_of (own_of machine) ++ codes "'s part alone: programs of its other architectures are killed"

abbrev pub alone_note : Context → Json → Option Machine → List (List ℕ)
alone_note context j None = []
alone_note context j (Some machine) = if context.native && lists_relative context j machine then alone_text machine ∷ [] else []

-- ---- all of them

abbrev pub entries_of : Json → List Json
entries_of j = items_or_none (list_in field.Syscalls j)

abbrev pub notes_of : Context → Json → List (List ℕ)
notes_of context j = alone_note context j context.machine ++ notes_from context 0 (entries_of j)
