-- The input of `skern eval`, line by line: the record of a call, then filters, the oldest first.
use Rattle.std.specs.Prelude.{ℕ, ◌+◌, not, nat_lt, ◌&&◌, is_some, if◌then◌else◌, List, [], ◌∷◌, ◌++◌, length, codes, Option, Some, None, Result, Ok, Err}
use Rattle.std.specs.List.{list_all}
use Rattle.std.specs.Option.{option_and_then}
use Rattle.std.specs.Str.{bytes_eq}
use Rattle.sk_insn.specs.declared.record.Record.{Record}
use Rattle.sk_insn.specs.Record.{record_of}
use Rattle.sk_text.specs.Lines.{words_of, is_printable_byte, begins_comment}
use Rattle.sk_text.specs.Hexadecimal.{hex_bytes}

-- what the lines so far have given: the record, once there is one, and the images of the filters
pub record Gathered : Type 0 where
  pub call : Option Record
  pub images : List (List ℕ)

abbrev pub nothing_yet : Gathered
nothing_yet = record { call = None; images = [] }

-- the only record, 64 bytes of x86-64's architecture
abbrev pub with_record : Gathered → Option (List ℕ) → Option Gathered
with_record given None = None
with_record given (Some bytes) =
    if is_some given.call then None
    else option_and_then (λ call. Some (record given { call = Some call })) (record_of bytes)

-- one filter more behind the record, of 32 at most
abbrev pub with_filter : Gathered → Option (List ℕ) → Option Gathered
with_filter given None = None
with_filter given (Some image) =
    if is_some given.call && nat_lt (length given.images) 32 then Some (record given { images = given.images ++ image ∷ [] })
    else None

-- what a line says: `record HEX` or `filter HEX`
abbrev pub said : Gathered → List (List ℕ) → Option Gathered
said given [] = Some given
said given (word ∷ digits) =
    if bytes_eq word (codes "record") then with_record given (hex_bytes digits)
    else if bytes_eq word (codes "filter") then with_filter given (hex_bytes digits)
    else None

-- a line of visible characters, a comment or one that says something; none where it is not understood
unfoldable pub with_line : Gathered → List ℕ → Option Gathered
with_line given line =
    if not (list_all is_printable_byte line) then None
    else if begins_comment (words_of line) then Some given
    else said given (words_of line)

-- the record and the images of the filters
abbrev pub finished : ℕ → Gathered → Result (Record × List (List ℕ)) ℕ
finished number given = elim given.call [ None ↦ Err number | Some call ↦ Ok (call, given.images) ]

-- the lines from this number on; the fault is the number of the first line that is not understood, and
-- of the line after the last where there is no record
abbrev pub gathered : ℕ → Gathered → List (List ℕ) → Result (Record × List (List ℕ)) ℕ
gathered number given [] = finished number given
gathered number given (line ∷ lines) = elim (with_line given line) [
  | None ↦ Err number
  | Some next ↦ gathered (number + 1) next lines
]
