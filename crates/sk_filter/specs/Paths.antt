-- The ways that control can take through a program, whatever the values are: from place 0, to both
-- sides of each conditional jump, up to a return. Jumps of the BPF machine only go forwards (McCanne
-- and Jacobson 1993; the Linux kernel's documentation of socket filters; seccomp(2)).
use Rattle.std.specs.Prelude.{ℕ, ◌≡◌, ◌+◌, ◌==◌, ◌||◌, ◌⊎◌, Bool, true, false, List, [], ◌∷◌, Option, Some, None, IsSomeAnd, slice_get}
use Rattle.std.specs.Option.{option_map_or}
use Rattle.sk_insn.specs.declared.insn.Insn.{Insn}
use Rattle.sk_insn.specs.declared.operation.Operation.{Operation}
use Rattle.sk_insn.specs.declared.operation.Operation.TheVariants.{LoadScratch, StoreScratch, Jump, Branch, ReturnConstant, ReturnAccumulator}
use Rattle.sk_insn.specs.Operations.{operation_of}

-- ---- one instruction: its operation, none where its code is not permitted, and its fields

-- where control goes on: nowhere, at one place, or at either of two
pub data Onward : Type 0 where
  Nowhere : Onward
  To : ℕ → Onward
  Either : ℕ → ℕ → Onward

-- from a place: nowhere from a return; where a jump lands, a whole number that does not wrap; else at the next place
abbrev pub onward : ℕ → Option Operation → Insn → Onward
onward place (Some Jump) insn = To (place + 1 + insn.k)
onward place (Some (Branch comparison operand)) insn = Either (place + 1 + insn.jt) (place + 1 + insn.jf)
onward place (Some ReturnConstant) insn = Nowhere
onward place (Some ReturnAccumulator) insn = Nowhere
onward place operation insn = To (place + 1)

-- the scratch word that it loads, if any
abbrev pub loaded_word : Option Operation → Insn → Option ℕ
loaded_word (Some (LoadScratch register)) insn = Some insn.k
loaded_word operation insn = None

-- the scratch word that it stores, if any
abbrev pub stored_word : Option Operation → Insn → Option ℕ
stored_word (Some (StoreScratch register)) insn = Some insn.k
stored_word operation insn = None

-- ---- the same said of a place or a word, as a relation and as its test

abbrev pub GoesTo : ℕ → Onward → Type 0
GoesTo next Nowhere = ⊥
GoesTo next (To place) = next ≡ place
GoesTo next (Either place other) = (next ≡ place) ⊎ (next ≡ other)

abbrev pub goes_to : ℕ → Onward → Bool
goes_to next Nowhere = false
goes_to next (To place) = next == place
goes_to next (Either place other) = (next == place) || (next == other)

-- control can go on there
abbrev pub LeadsTo : ℕ → ℕ → Option Operation → Insn → Type 0
LeadsTo place next operation insn = GoesTo next (onward place operation insn)

abbrev pub leads_to : ℕ → ℕ → Option Operation → Insn → Bool
leads_to place next operation insn = goes_to next (onward place operation insn)

-- it loads the scratch word
abbrev pub Loads : ℕ → Option Operation → Insn → Type 0
Loads word operation insn = IsSomeAnd (loaded_word operation insn) (λ loaded. loaded ≡ word)

-- it stores the scratch word
abbrev pub Stores : ℕ → Option Operation → Insn → Type 0
Stores word operation insn = IsSomeAnd (stored_word operation insn) (λ stored. stored ≡ word)

abbrev pub stores : ℕ → Option Operation → Insn → Bool
stores word operation insn = option_map_or (λ stored. stored == word) (stored_word operation insn) false

-- it ends the program
abbrev pub returns : Option Operation → Insn → Bool
returns (Some ReturnConstant) insn = true
returns (Some ReturnAccumulator) insn = true
returns operation insn = false

-- ---- paths

-- there is an instruction at the place, and this holds of its operation and of its fields
abbrev pub At : List Insn → ℕ → (Option Operation → Insn → Type 0) → Type 0
At insns place P = (insn : Insn) × (slice_get insns place ≡ Some insn) × P (operation_of insn.code) insn

-- a path to a place: the places before it on the way, the last one first, back to place 0
abbrev pub IsPath : List Insn → ℕ → List ℕ → Type 0
IsPath insns place [] = place ≡ 0
IsPath insns place (before ∷ earlier) = At insns before (LeadsTo before place) × IsPath insns before earlier

-- none of the places stores the scratch word
abbrev pub NoneStores : List Insn → ℕ → List ℕ → Type 0
NoneStores insns word [] = Unit {0}
NoneStores insns word (place ∷ places) =
    (At insns place (Stores word) → ⊥) × NoneStores insns word places

-- the place loads the scratch word, and some path to it stores none there
abbrev pub IsUnstored : List Insn → ℕ → ℕ → Type 0
IsUnstored insns place word =
    At insns place (Loads word) × ((before : List ℕ) × IsPath insns place before × NoneStores insns word before)
