-- The filters in files, the oldest first: those of the first file stand first. The first thing that is wrong is told with
-- the number of its file.
use Rattle.std.specs.Prelude.{ℕ, ◌+◌, ◌++◌, ◌==◌, nat_lt, if◌then◌else◌, List, [], ◌∷◌, length, Option, Some, None, Result, Ok, Err, unwrap_or, slice_get}
use Rattle.sk_insn.specs.declared.insn.Insn.{Insn}
use Rattle.sk_text.specs.Lines.{lines_of, words_of}
use Rattle.sk_text.specs.Hexadecimal.{hex_text_bytes}
use Rattle.sk_engines.specs.declared.filters.Refusal.{Refusal}
use Rattle.sk_engines.specs.Filters.{chained}
use Rattle.sk_ask.specs.declared.fault.FileFault.TheVariants.{NoFilter, OddDigits, Line, TooMany, Filter}
use Rattle.sk_ask.specs.declared.fault.Refused.{Refused}
use Rattle.sk_ask.specs.declared.form.Form.TheVariants as form
use Rattle.sk_ask.specs.declared.found.Place.{Place}
use Rattle.sk_ask.specs.Forms.{form_of, without_returns}
use Rattle.sk_ask.specs.Lines.{says}

-- images, and where each stands
pub record Filters : Type 0 where
  pub images : List (List ℕ)
  pub places : List Place

abbrev pub no_filters : Filters
no_filters = record { images = []; places = [] }

-- one filter more, of 32 at most
abbrev pub with_filter : Filters → Place → List ℕ → Result Filters Refused
with_filter found place image =
    if nat_lt (length found.images) 32 then Ok (record { images = found.images ++ image ∷ []; places = found.places ++ place ∷ [] })
    else Err (record { file = place.file; why = TooMany place.line })

-- ---- lines

-- a line adds a filter or nothing
abbrev pub with_line : ℕ → ℕ → Filters → List (List ℕ) → Result Filters Refused
with_line file number found words = elim (says words) [
  | Err fault ↦ Err (record { file = file; why = Line number fault })
  | Ok said ↦ elim said [
    | None ↦ Ok found
    | Some image ↦ with_filter found (record { file = file; line = Some number }) image
  ]
]

-- the lines from this number on
abbrev pub with_lines : ℕ → ℕ → Filters → List (List ℕ) → Result Filters Refused
with_lines file number found [] = Ok found
with_lines file number found (line ∷ lines) = elim (with_line file number found (words_of line)) [
  | Err refused ↦ Err refused
  | Ok more ↦ with_lines file (number + 1) more lines
]

-- a file that adds no filter is refused
abbrev pub some_more : ℕ → ℕ → Result Filters Refused → Result Filters Refused
some_more file before (Err refused) = Err refused
some_more file before (Ok found) =
    if length found.images == before then Err (record { file = file; why = NoFilter }) else Ok found

-- ---- files

-- the digits of a text are one filter
abbrev pub with_digits : ℕ → Filters → Option (List ℕ) → Result Filters Refused
with_digits file found None = Err (record { file = file; why = OddDigits })
with_digits file found (Some []) = Err (record { file = file; why = NoFilter })
with_digits file found (Some (byte ∷ bytes)) = with_filter found (record { file = file; line = None }) (byte ∷ bytes)

-- a file is read by its form
abbrev pub with_file : ℕ → Filters → List ℕ → Result Filters Refused
with_file file found bytes = elim (form_of bytes) [
  | form.Raw ↦ with_filter found (record { file = file; line = None }) bytes
  | form.Digits ↦ with_digits file found (hex_text_bytes (without_returns bytes))
  | form.Lines ↦ some_more file (length found.images) (with_lines file 1 found (lines_of (without_returns bytes)))
]

-- the files from this number on
abbrev pub with_files : ℕ → Filters → List (List ℕ) → Result Filters Refused
with_files number found [] = Ok found
with_files number found (file ∷ files) = elim (with_file number found file) [
  | Err refused ↦ Err refused
  | Ok more ↦ with_files (number + 1) more files
]

-- the filters in files with these bytes
abbrev pub filters_in : List (List ℕ) → Result Filters Refused
filters_in files = with_files 0 no_filters files

-- ---- their chain

-- where the filter with this number stands; there is such a place, as `AreGiven` says
abbrev pub place_at : List Place → ℕ → Place
place_at places number = unwrap_or (slice_get places number) (record { file = 0; line = None })

abbrev pub refused_at : Place → Refusal → Refused
refused_at place why = record { file = place.file; why = Filter place.line why }

-- what the filters make when they are attached one after the other
abbrev pub as_chain : List Place → Result (List (List Insn)) (ℕ × Refusal) → Result (List (List Insn)) Refused
as_chain places (Err (number, why)) = Err (refused_at (place_at places number) why)
as_chain places (Ok chain) = Ok chain

-- the chain of filters that were found, or the file of the first that is refused
abbrev pub chain_of : Filters → Result (List (List Insn)) Refused
chain_of found = as_chain found.places (chained 0 [] found.images)
