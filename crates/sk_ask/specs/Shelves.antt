-- What is known of files that are read by their names.
use Rattle.std.specs.Prelude.{ℕ, ◌≡◌, ◌⊎◌, ◌<◌, ◌≤◌, List, [], ◌∷◌, ◌++◌, length, codes, ⊤}
use Rattle.std.specs.Fmt.{decimal}
use Rattle.sk_ask.specs.declared.shelf.Unopened.{Unopened}
use Rattle.sk_ask.specs.declared.shelf.Unopened.TheVariants.{Missing, Forbidden, Folder, Other}
use Rattle.sk_ask.specs.declared.trouble.Trouble.{Trouble}
use Rattle.sk_ask.specs.declared.trouble.Trouble.TheVariants as trouble
use Rattle.sk_ask.specs.Complaints.{about}

-- what is known of the file with a name: these are its bytes; or it can't be opened, for this reason; or a read of it fails; or
-- nothing, as of a stream, which ends where its first reader has been
pub data Held : Type 0 where
  holds : List ℕ → Held
  lacks : Unopened → Held
  fails : Held
  unknown : Held

-- it can't be opened for this reason, as far as is known
abbrev pub MayLack : Held → Unopened → Type 0
MayLack (lacks reason) why = why ≡ reason
MayLack unknown why = ⊤
MayLack held why = ⊥

-- a read of it fails, as far as is known
abbrev pub MayFail : Held → Type 0
MayFail fails = ⊤
MayFail unknown = ⊤
MayFail held = ⊥

-- ---- the whole file, which may have so many bytes

abbrev pub IsContent : ℕ → Held → List ℕ → Type 0
IsContent most (holds whole) bytes = (bytes ≡ whole) × (length whole ≤ most)
IsContent most unknown bytes = length bytes ≤ most
IsContent most held bytes = ⊥

-- it has more, as far as is known
abbrev pub MayBeTooLong : ℕ → Held → Type 0
MayBeTooLong most (holds whole) = most < length whole
MayBeTooLong most unknown = ⊤
MayBeTooLong most held = ⊥

abbrev pub unopened_text : Unopened → List ℕ
unopened_text Missing = codes "no such file"
unopened_text Forbidden = codes "may not be read"
unopened_text Folder = codes "is a folder"
unopened_text Other = codes "can't be opened"

abbrev pub too_long_text : ℕ → List ℕ
too_long_text most = codes "has more than " ++ decimal most ++ codes " bytes"

-- the line that says why the file with this name is refused before its bytes are judged
abbrev pub IsRefused : ℕ → Held → List ℕ → List ℕ → Type 0
IsRefused most held name line =
    ((why : Unopened) × MayLack held why × (line ≡ about name (unopened_text why)))
    ⊎ (MayBeTooLong most held × (line ≡ about name (too_long_text most)))

-- why the file with this name is not read, and the line that says so
abbrev pub IsUnread : ℕ → Held → List ℕ → Trouble → Type 0
IsUnread most held name (trouble.Refused line) = IsRefused most held name line.items
IsUnread most held name (trouble.Reading line) = MayFail held × (line.items ≡ about name (codes "reading failed"))
IsUnread most held name trouble.Memory = ⊤

-- ---- several files, of which each may have so many bytes

-- the first of them that is not read; those before it are
abbrev pub IsUnreadOf : ℕ → (List ℕ → Held) → List (List ℕ) → Trouble → Type 0
IsUnreadOf most held [] why = ⊥
IsUnreadOf most held (name ∷ names) why =
    IsUnread most (held name) name why ⊎ ((bytes : List ℕ) × IsContent most (held name) bytes × IsUnreadOf most held names why)

-- these are the bytes of the files with these names, one for one
abbrev pub AreContents : ℕ → (List ℕ → Held) → List (List ℕ) → List (List ℕ) → Type 0
AreContents most held [] [] = ⊤
AreContents most held (name ∷ names) (file ∷ files) = IsContent most (held name) file × AreContents most held names files
AreContents most held names files = ⊥
