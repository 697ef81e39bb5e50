-- The main theorem's statement.
use Rattle.std.specs.Prelude.{ℕ, ◌≡◌, ◌<◌, ◌^◌, ◌==◌, Bool, true, List, length, All, IsTrue, find, Option, Some, None, ⊤, Contains}
use Rattle.sk_insn.specs.declared.record.Record.{Record}
use Rattle.sk_insn.specs.Actions.{allow}
use Rattle.sk_insn.specs.Record.{architecture}
use Rattle.sk_filter.specs.Meaning.{Returned, Meaning, meaning_of}
use Rattle.sk_filter.specs.Walk.{walks}
use Rattle.sk_profile.specs.declared.condition.Condition.{Condition}
use Rattle.sk_profile.specs.Sayings.{IsBare, Piece, Single, Joined, Tree, Leaf, Away, Fork, said, saying_at}
use Rattle.sk_profile.specs.Code.{high, Section, filter_code}

-- a call as the machine makes one: six arguments of 64 bits, and a number and an architecture of 32
pub record IsCall (call : Record) : Type 0 where
  pub number : call.nr < 2 ^ 32
  pub arch : call.arch < 2 ^ 32
  pub six : length call.args ≡ 6
  pub fit : All (λ a. a < 2 ^ 64) call.args

-- each condition is on one of the six arguments, and numbers that are asked for together have one upper half, 0 where
-- registers have 32 bits
pub record IsChoice (narrow : Bool) (index first : ℕ) (others : List ℕ) : Type 0 where
  pub inside : index < 6
  pub halves : All (λ number. high number ≡ high first) others
  pub within : narrow ≡ true → high first ≡ 0

abbrev pub IsPiece : Bool → Piece → Type 0
IsPiece narrow (Single arm) = All (λ (c : Condition). c.index < 6) arm.conditions
IsPiece narrow (Joined choice) = IsChoice narrow choice.index choice.first choice.others

-- a value that has no instructions in the tree is among those behind it
abbrev pub IsTree : List ℕ → Tree → Type 0
IsTree values (Leaf narrow pieces otherwise) = All (IsPiece narrow) pieces
IsTree values (Away value) = Contains values value
IsTree values (Fork number below above) = IsTree values below × IsTree values above

-- it has instructions at all
abbrev pub HasCode : Tree → Type 0
HasCode (Away value) = ⊥
HasCode tree = ⊤

pub record IsSection (section : Section) : Type 0 where
  pub tree : IsTree section.values section.tree
  pub code : HasCode section.tree

-- it comes to this value, in some number of steps
abbrev pub Gives : ℕ → Meaning → Type 0
Gives value m = (steps : ℕ) × (m ≡ Returned value steps)

-- what sections say of a call, and this value of what is none of theirs
abbrev pub section_for : List Section → ℕ → Option Section
section_for sections arch = find (λ (section : Section). section.audit == arch) sections

abbrev pub said_if : Option Section → ℕ → Record → ℕ
said_if None bad call = bad
said_if (Some section) bad call = said (saying_at section.tree call.nr) call

-- the filter answers to every call what its sections say
abbrev pub CodeMeansSections : Type 0
CodeMeansSections =
    (bad : ℕ) (sections : List Section) → All IsSection sections → (call : Record) → IsCall call
    → Gives (said_if (section_for sections call.arch) bad call) (meaning_of (filter_code bad sections) call)

-- the calls of x86-64 with a number are allowed without asking for an argument
abbrev pub IsAllowed : Option Section → ℕ → ℕ → Type 0
IsAllowed None bad nr = bad ≡ allow
IsAllowed (Some section) bad nr = IsBare allow (saying_at section.tree nr)

-- Linux sees of each such number, by the number and the architecture alone, that all its calls are allowed
abbrev pub SectionsAreKnown : Type 0
SectionsAreKnown =
    (bad : ℕ) (sections : List Section) (nr : ℕ) → All IsSection sections → IsAllowed (section_for sections architecture) bad nr
    → IsTrue (walks (filter_code bad sections) nr)
