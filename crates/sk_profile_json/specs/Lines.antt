-- The line of a file in which an entry of its profile begins: that of the first object that reads as the entry, among the first
-- `most_objects` of the text. Of entries that are alike only the first decides, and so theirs is one line.
use Rattle.std.specs.Prelude.{ℕ, ◌≡◌, true, List, length, take, drop, filter, find, slice_get, Option, Some, None, Result}
use Rattle.std.specs.List.{range_with_len}
use Rattle.std.specs.Option.{option_and_then, option_map}
use Rattle.std.specs.Str.{IsUtf8}
use Rattle.json.specs.Json.{Json, value, max_depth}
use Rattle.json.specs.Lex.{tokens}
use Rattle.json.specs.Print.{print}
use Rattle.json.specs.Tree.{json_tokens}
use Rattle.sk_profile_json.specs.declared.fault.Absence.{Absence}
use Rattle.sk_profile_json.specs.declared.fault.Field.TheVariants as field
use Rattle.sk_profile_json.specs.Fields.{is_written, items_or_none, list_in}
use Rattle.sk_profile_json.specs.Forms.{is_byte}
use Rattle.sk_profile_json.specs.Inspected.{text_inside}
use Rattle.sk_profile_json.specs.Slips.{line_of}
use Rattle.sk_profile_json.specs.Wholes.{IsDocument, profile_of_document}

-- ---- the entry

-- the one with this number, from 0 on; a text that docker was given for a container has no lines of its own
abbrev pub entry_if : ℕ → Option (Result (List ℕ) Absence) → Json → Option Json
entry_if number None whole = slice_get (items_or_none (list_in field.Syscalls (profile_of_document whole))) number
entry_if number (Some told) whole = None

abbrev pub entry_in : ℕ → Json → Option Json
entry_in number whole = entry_if number (text_inside whole) whole

-- ---- where it stands

-- the value with which a text begins, written without blanks
abbrev pub written : List ℕ → Option (List ℕ)
written text = option_map (λ read. print (json_tokens read.0)) (value max_depth (tokens text))

-- the places at which an object may begin: those of `{` (123), also in strings
abbrev pub openings : List ℕ → List ℕ
openings text = filter (λ place. is_byte 123 (slice_get text place)) (range_with_len 0 (length text))

-- no more are looked at, which bounds the work on a text that has many
abbrev pub most_objects : ℕ
most_objects = 1000

abbrev pub place_of : List ℕ → List ℕ → Option ℕ
place_of wanted text = find (λ place. is_written wanted (written (drop place text))) (take most_objects (openings text))

abbrev pub line_as : List ℕ → List ℕ → Option ℕ
line_as wanted text = option_map (λ place. line_of (take place text)) (place_of wanted text)

abbrev pub line_in : List ℕ → Json → Option ℕ
line_in text entry = line_as (print (json_tokens entry)) text

abbrev pub line_within : List ℕ → ℕ → Json → Option ℕ
line_within text number whole = option_and_then (line_in text) (entry_in number whole)

-- a file that is no document has none
abbrev pub IsEntryLine : List ℕ → ℕ → Option ℕ → Type 0
IsEntryLine bytes number (Some line) = IsUtf8 bytes × ((whole : Json) × IsDocument bytes whole × (line_within bytes number whole ≡ Some line))
IsEntryLine bytes number None = (whole : Json) → IsUtf8 bytes → IsDocument bytes whole → line_within bytes number whole ≡ None

-- ---- the law: what begins in the line is the entry

-- behind so many line feeds and one less stands a brace, and the reader of JSON reads the entry from there on
pub record Stands (text : List ℕ) (entry : Json) (line : ℕ) : Type 0 where
  pub place : ℕ
  pub on : line ≡ line_of (take place text)
  pub opens : is_byte 123 (slice_get (drop place text) 0) ≡ true
  pub reads : option_map (λ read. read.0) (value max_depth (tokens (drop place text))) ≡ Some entry

abbrev pub LinesHaveEntries : Type 0
LinesHaveEntries = (text : List ℕ) (number : ℕ) (whole entry : Json) (line : ℕ) → IsDocument text whole → entry_in number whole ≡ Some entry
    → line_within text number whole ≡ Some line → Stands text entry line
