-- What a profile says of a call, once its rules stand by the number of the call: the first arm whose conditions all
-- hold answers, and otherwise what is left (runtime-spec, config-linux.md, "Seccomp"; seccomp_rule_add(3)).
use Rattle.std.specs.Prelude.{ℕ, ◌≡◌, ◌%◌, ◌^◌, All, ◌==◌, ◌&&◌, Bool, true, false, nat_lt, nat_le, not, if◌then◌else◌, bit_and, List, [], ◌∷◌, map, flat_map, take, slice_index_or}
use Rattle.std.specs.List.{list_any}
use Rattle.sk_insn.specs.declared.record.Record.{Record}
use Rattle.sk_profile.specs.declared.condition.Condition.{Condition}
use Rattle.sk_profile.specs.declared.condition.Test.{Test}
use Rattle.sk_profile.specs.declared.condition.Test.TheVariants.{Is, IsNot, Below, AtMost, Above, AtLeast, Masked}

-- a comparison of two numbers of 64 bits
abbrev pub compares : Test → ℕ → ℕ → Bool
compares Is a b = a == b
compares IsNot a b = not (a == b)
compares Below a b = nat_lt a b
compares AtMost a b = nat_le a b
compares Above a b = nat_lt b a
compares AtLeast a b = nat_le b a
compares (Masked mask) a b = bit_and a mask == b

-- the condition holds of a call
abbrev pub holds_of : Condition → Record → Bool
holds_of c call = compares c.test (slice_index_or call.args c.index 0) c.value

-- all of them do
abbrev pub all_hold : List Condition → Record → Bool
all_hold [] call = true
all_hold (c ∷ conditions) call = holds_of c call && all_hold conditions call

-- whether it is on the argument with this index
abbrev pub is_on : ℕ → Condition → Bool
is_on index c = c.index == index

-- each condition is on another argument
abbrev pub are_apart : List Condition → Bool
are_apart [] = true
are_apart (c ∷ conditions) = not (list_any (is_on c.index) conditions) && are_apart conditions

-- what is answered where all conditions hold
pub record Arm : Type 0 where
  pub conditions : List Condition
  pub value : ℕ

-- what is said of the calls of one number, of which each argument is its lower half where registers have 32 bits
pub record Saying : Type 0 where
  pub narrow : Bool
  pub arms : List Arm
  pub otherwise : ℕ

-- the same of every call
abbrev pub always : ℕ → Saying
always value = record { narrow = false; arms = []; otherwise = value }

abbrev pub low : ℕ → ℕ
low n = n % 2 ^ 32

-- the call as its conditions see it
abbrev pub seen : Bool → Record → Record
seen narrow call = if narrow then record call { args = map low call.args } else call

-- the first arm whose conditions hold
abbrev pub first_held : List Arm → ℕ → Record → ℕ
first_held [] otherwise call = otherwise
first_held (arm ∷ arms) otherwise call =
    if all_hold arm.conditions call then arm.value else first_held arms otherwise call

abbrev pub said : Saying → Record → ℕ
said saying call = first_held saying.arms saying.otherwise (seen saying.narrow call)

-- an arm that asks one argument for a number
abbrev pub asks : ℕ → ℕ → ℕ → Arm
asks index value number = record {
  conditions = record { index = index; test = Is; value = number } ∷ [];
  value = value;
}

-- arms of one value that ask one argument for these numbers
pub record Choice : Type 0 where
  pub index : ℕ
  pub value : ℕ
  pub first : ℕ
  pub others : List ℕ

-- arms whose instructions stand together: one by itself, or some that share what they ask
pub data Piece : Type 0 where
  Single : Arm → Piece
  Joined : Choice → Piece

abbrev pub arms_of : Piece → List Arm
arms_of (Single arm) = arm ∷ []
arms_of (Joined choice) = map (asks choice.index choice.value) (choice.first ∷ choice.others)

abbrev pub saying_of_pieces : Bool → List Piece → ℕ → Saying
saying_of_pieces narrow pieces otherwise = record { narrow = narrow; arms = flat_map arms_of pieces; otherwise = otherwise }

-- pieces of the first arms of a saying that say of every call what it says; none, where it says the same of all
pub record Shows (narrow : Bool) (pieces : List Piece) (otherwise : ℕ) (saying : Saying) : Type 0 where
  pub same : (call : Record) → said (saying_of_pieces narrow pieces otherwise) call ≡ said saying call
  pub left : otherwise ≡ saying.otherwise
  pub first : ℕ
  pub shown : flat_map arms_of pieces ≡ take first saying.arms
  pub none : All (λ (arm : Arm). arm.value ≡ saying.otherwise) saying.arms → pieces ≡ []

-- a saying that says this of every call, as is seen without asking for an argument
abbrev pub AlwaysSays : ℕ → Saying → Type 0
AlwaysSays value saying = All (λ (arm : Arm). arm.value ≡ value) saying.arms × (saying.otherwise ≡ value)

-- and one without arms
abbrev pub IsBare : ℕ → Saying → Type 0
IsBare value saying = (saying.arms ≡ []) × (saying.otherwise ≡ value)

-- the numbers cut in two, again and again; at the end what is said, in pieces, or a value that stands among those behind the tree
pub data Tree : Type 0 where
  Leaf : Bool → List Piece → ℕ → Tree
  Away : ℕ → Tree
  Fork : ℕ → Tree → Tree → Tree

-- what stands at a number: below the fork's number, or from it on
abbrev pub saying_at : Tree → ℕ → Saying
saying_at (Leaf narrow pieces otherwise) nr = saying_of_pieces narrow pieces otherwise
saying_at (Away value) nr = always value
saying_at (Fork number below above) nr = if nat_le number nr then saying_at above nr else saying_at below nr
