-- What `ask check` tells: whether Linux takes filters.
use Rattle.std.specs.Prelude.{ℕ, ◌≡◌, ◌⊎◌, ◌++◌, ◌/◌, true, false, unwrap_or, slice_get, List, [], ◌∷◌, codes, length, Result, Ok, Err}
use Rattle.sk_insn.specs.declared.insn.Insn.{Insn}
use Rattle.sk_profile_json.specs.declared.context.Context.{Context}
use Rattle.sk_ask.specs.declared.fault.FileFault.{FileFault}
use Rattle.sk_ask.specs.declared.fault.FileFault.TheVariants.{NoFilter, OddDigits, Line, TooMany, Filter}
use Rattle.sk_ask.specs.declared.fault.Refused.{Refused}
use Rattle.sk_ask.specs.declared.found.Place.{Place}
use Rattle.sk_ask.specs.declared.manner.Manner.{Manner}
use Rattle.sk_ask.specs.declared.trouble.Trouble.{Trouble}
use Rattle.sk_ask.specs.declared.trouble.Trouble.TheVariants.{Memory}
use Rattle.sk_ask.specs.Complaints.{about, shown}
use Rattle.sk_ask.specs.Endings.{Ending, answered, refused, ComesTo}
use Rattle.sk_ask.specs.Expanding.{StandFor, IsFirstWithout}
use Rattle.sk_ask.specs.Filters.{Filters}
use Rattle.sk_ask.specs.Reading.{judged}
use Rattle.sk_ask.specs.Shelves.{Held, AreContents, IsUnreadOf}
use Rattle.sk_ask.specs.Smaller.{counted}
use Rattle.sk_ask.specs.Texts.{at_line, fault_text}
use Rattle.sk_ask.specs.Troubles.{IsTrouble}

-- ---- filters that Linux takes

-- the name of the file with a number; there is one, as `AreGiven` says
abbrev pub name_at : List (List ℕ) → ℕ → List ℕ
name_at names file = unwrap_or (slice_get names file) []

-- where a filter stands, and how long it is
abbrev pub valid_line : List (List ℕ) → Place → List ℕ → List ℕ
valid_line names place image =
    shown (name_at names place.file)
    ++ (codes ": " ++ (at_line place.line ++ (codes "valid: " ++ (counted (length image / 8) ++ codes "\n"))))

abbrev pub valid_lines : List (List ℕ) → List Place → List (List ℕ) → List ℕ
valid_lines names (place ∷ places) (image ∷ images) = valid_line names place image ++ valid_lines names places images
valid_lines names places images = []

-- ---- filters that Linux refuses

abbrev pub invalid_line : List (List ℕ) → Refused → List ℕ
invalid_line names it = shown (name_at names it.file) ++ (codes ": " ++ (fault_text it.why ++ codes "\n"))

-- a filter that Linux refuses is an answer, and a file that holds none is trouble
abbrev pub ending_for : List (List ℕ) → Refused → FileFault → List ℕ → Ending
ending_for names it NoFilter notes = refused (about (name_at names it.file) (fault_text it.why))
ending_for names it OddDigits notes = refused (about (name_at names it.file) (fault_text it.why))
ending_for names it (Line number fault) notes = refused (about (name_at names it.file) (fault_text it.why))
ending_for names it (TooMany number) notes = refused (about (name_at names it.file) (fault_text it.why))
ending_for names it (Filter number why) notes = answered notes (invalid_line names it) true

-- ---- files

-- the filters in files with these names, or the first that is refused
abbrev pub checked : List (List ℕ) → Result (Filters × List (List Insn)) Refused → List ℕ → Ending
checked names (Ok it) notes = answered notes (valid_lines names it.0.places it.0.images) false
checked names (Err it) notes = ending_for names it it.why notes

-- one of the files is not read, or stands for nothing, or memory was refused
abbrev pub IsUnchecked : Manner → (List ℕ → Held) → Context → List (List ℕ) → Trouble → Type 0
IsUnchecked manner held context names why =
    IsUnreadOf 1048576 held names why
    ⊎ (((files : List (List ℕ)) × AreContents 1048576 held names files × IsFirstWithout manner context names files why)
    ⊎ (why ≡ Memory))

abbrev pub Checks : Manner → (List ℕ → Held) → Context → List (List ℕ) → Ending → Type 0
Checks manner held context names ending =
    ((files images : List (List ℕ)) × (notes : List ℕ) × AreContents 1048576 held names files
    × StandFor manner context names files images notes × ComesTo (checked names (judged images) notes) ending)
    ⊎ IsTrouble ending (IsUnchecked manner held context names)
