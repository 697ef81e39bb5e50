-- What is known of filters that were read from files by their names.
use Rattle.std.specs.Prelude.{ℕ, ◌≡◌, ◌⊎◌, List, Some, Result, Ok, Err, map, slice_get, ⊤}
use Rattle.sk_insn.specs.declared.insn.Insn.{Insn}
use Rattle.sk_ask.specs.declared.fault.Refused.{Refused}
use Rattle.sk_ask.specs.declared.manner.Manner.{Manner}
use Rattle.sk_ask.specs.Filters.{Filters, filters_in, chain_of}
use Rattle.sk_ask.specs.Finding.{filters_of}
use Rattle.sk_ask.specs.Texts.{fault_text}
use Rattle.sk_ask.specs.declared.files_of_filters.Filters.{Filters as Given}
use Rattle.sk_ask.specs.declared.trouble.Trouble.{Trouble}
use Rattle.sk_ask.specs.declared.trouble.Trouble.TheVariants as trouble
use Rattle.sk_profile_json.specs.declared.context.Context.{Context}
use Rattle.sk_ask.specs.Complaints.{about}
use Rattle.sk_ask.specs.Expanding.{StandFor, IsFirstWithout}
use Rattle.sk_ask.specs.Shelves.{Held, AreContents, IsUnreadOf}

-- the line that refuses one of the files with these names, which names it
abbrev pub IsRefusal : List (List ℕ) → Refused → List ℕ → Type 0
IsRefusal names refused line =
    (name : List ℕ) × (slice_get names refused.file ≡ Some name) × (line ≡ about name (fault_text refused.why))

-- ---- files whose bytes were read

abbrev pub with_chain : Filters → Result (List (List Insn)) Refused → Result (Filters × List (List Insn)) Refused
with_chain found (Err refused) = Err refused
with_chain found (Ok chain) = Ok (found, chain)

-- the filters in files with these bytes and their chain, or which file is refused
abbrev pub judged : List (List ℕ) → Result (Filters × List (List Insn)) Refused
judged files = elim (filters_in files) [
  | Err refused ↦ Err refused
  | Ok found ↦ with_chain found (chain_of found)
]

-- ---- files that were read

-- their bytes, the filters that they stand for, the chain of these, and the lines of what is told of them
pub record Read : Type 0 where
  pub files : List (List ℕ)
  pub found : Filters
  pub chain : List (List Insn)
  pub notes : List ℕ

-- ---- what the code's answers say

abbrev pub read_of : Given → Read
read_of given = record {
  files = map (λ file. file.items) given.files.items;
  found = filters_of given.found;
  chain = given.chain;
  notes = given.notes.items;
}

abbrev pub pair_of : Given → Filters × List (List Insn)
pair_of given = (filters_of given.found, given.chain)

-- of files with these names
abbrev pub IsReadAs : List (List ℕ) → Result Given Trouble → Result (Filters × List (List Insn)) Refused → Type 0
IsReadAs names (Ok given) said = said ≡ Ok (pair_of given)
IsReadAs names (Err (trouble.Refused line)) said = (refused : Refused) × (said ≡ Err refused) × IsRefusal names refused line.items
IsReadAs names (Err (trouble.Reading line)) said = ⊥
IsReadAs names (Err trouble.Memory) said = ⊤

-- ---- files by their names

-- this is what the files with these names hold, the filters in them and their chain, where a profile stands for its filter, and bytes may be
-- asked to have the highest byte first; and these lines are told of them
abbrev pub ReadsFilters : Manner → (List ℕ → Held) → Context → List (List ℕ) → Read → Type 0
ReadsFilters manner held context names read =
    (images : List (List ℕ)) × AreContents 1048576 held names read.files
    × StandFor manner context names read.files images read.notes × (judged images ≡ Ok (read.found, read.chain))

-- what the files stand for is refused, and the line names the file
abbrev pub IsRefusedIn : Manner → Context → List (List ℕ) → List (List ℕ) → Trouble → Type 0
IsRefusedIn manner context names files why =
    (images : List (List ℕ)) × (notes : List ℕ) × StandFor manner context names files images notes × IsReadAs names (Err why) (judged images)

-- one of the files, of at most 1048576 bytes each, is not read, or stands for nothing, or what they stand for is refused, or
-- memory
abbrev pub IsRefusedOf : Manner → (List ℕ → Held) → Context → List (List ℕ) → Trouble → Type 0
IsRefusedOf manner held context names why =
    IsUnreadOf 1048576 held names why
    ⊎ (((files : List (List ℕ)) × AreContents 1048576 held names files × (IsFirstWithout manner context names files why ⊎ IsRefusedIn manner context names files why))
    ⊎ (why ≡ trouble.Memory))
