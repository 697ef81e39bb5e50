-- Endings without an answer, by their reasons.
use Rattle.std.specs.Prelude.{ℕ, ◌≡◌, ◌⊎◌, List, [], ◌∷◌, Err}
use Rattle.sk_profile_json.specs.declared.context.Context.{Context}
use Rattle.sk_ask.specs.Reading.{Read, ReadsFilters, IsRefusedOf}
use Rattle.sk_ask.specs.Shelves.{Held}
use Rattle.sk_ask.specs.declared.manner.Manner.{Manner}
use Rattle.sk_ask.specs.declared.trouble.Trouble.{Trouble}
use Rattle.sk_ask.specs.Endings.{Ending, ending_of, no_memory}

-- no answer came of it, for this reason
abbrev pub IsTrouble : Ending → (Trouble → Type 0) → Type 0
IsTrouble ending P = (why : Trouble) × P why × (ending ≡ ending_of (Err why))

-- what is so of the first name and those behind it. Without a name nothing is answered, and it is another's to tell it: only
-- memory may be refused
abbrev pub OfFirst : List (List ℕ) → Ending → (List ℕ → List (List ℕ) → Type 0) → Type 0
OfFirst [] ending P = ending ≡ no_memory
OfFirst (first ∷ others) ending P = P first others

-- what files with some names end as, where this is so of them as they were read
abbrev pub Over : Type 1
Over = List (List ℕ) → Ending → (Read → Type 0) → Type 0

-- the files make a chain, and it is so; or one of them is refused or not read. Bytes may have the highest byte of a number first,
-- where that is asked for
abbrev pub OfFiles : Manner → (List ℕ → Held) → Context → Over
OfFiles manner held context names ending P =
    ((read : Read) × ReadsFilters manner held context names read × P read)
    ⊎ IsTrouble ending (IsRefusedOf manner held context names)
