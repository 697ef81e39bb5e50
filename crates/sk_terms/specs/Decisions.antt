-- Trees of terms, and what they tell of a call.
use Rattle.std.specs.Prelude.{ℕ, ◌≡◌, ◌<◌, not, true, false, if◌then◌else◌, box_value, List, length, filter, Option, Some, None}
use Rattle.sk_insn.specs.declared.record.Record.{Record}
use Rattle.sk_insn.specs.Record.{IsNative}
use Rattle.sk_conditions.specs.declared.tree.Tree.{Tree}
use Rattle.sk_conditions.specs.Conditions.{Agrees, told}
use Rattle.sk_terms.specs.declared.decision.Branching.{Branching}
use Rattle.sk_terms.specs.declared.decision.Decision.{Decision}
use Rattle.sk_terms.specs.declared.decision.Decision.TheVariants.{Is, Untold, Ask'}
use Rattle.sk_terms.specs.Terms.{holds_term}

-- the value that a tree of terms tells of a call, if it tells one
abbrev pub decided : Decision → Record → Option ℕ
decided (Is value) call = Some value
decided Untold call = None
decided (Ask' term p held q failed) call = if holds_term term call then decided held call else decided failed call

-- so does one that begins with a term
abbrev pub decided_branching : Branching → Record → Option ℕ
decided_branching it call = if holds_term it.term call then decided (box_value it.held) call else decided (box_value it.failed) call

-- a tree of terms has a value at each of its ends
abbrev pub DecidesAll : Decision → Type 0
DecidesAll (Is value) = Unit {0}
DecidesAll Untold = ⊥
DecidesAll (Ask' term p held q failed) = DecidesAll held × DecidesAll failed

-- so has one that begins with a term
abbrev pub BranchesAll : Branching → Type 0
BranchesAll it = DecidesAll (box_value it.held) × DecidesAll (box_value it.failed)

-- what a tree of tests tells rightly of a call of x86-64, this one does not tell otherwise
abbrev pub DecidesAs : Decision → Tree → Type 0
DecidesAs decision tree = (call : Record) → IsNative call → (value : ℕ) → Agrees (told tree call) value → Agrees (decided decision call) value

-- both calls come to the same end of a tree of terms
abbrev pub GoTogether : Decision → Record → Record → Type 0
GoTogether (Is value) one other = Unit {0}
GoTogether Untold one other = Unit {0}
GoTogether (Ask' term p held q failed) one other =
    (holds_term term one ≡ holds_term term other)
    × (holds_term term one ≡ true → GoTogether held one other)
    × (holds_term term one ≡ false → GoTogether failed one other)

-- one of these calls at least comes to each end of a tree of terms: a term parts them into those on which it holds, and the others
abbrev pub EachEndIsMetBy : List Record → Decision → Type 0
EachEndIsMetBy calls (Is value) = 0 < length calls
EachEndIsMetBy calls Untold = 0 < length calls
EachEndIsMetBy calls (Ask' term p held q failed) =
    EachEndIsMetBy (filter (λ call. holds_term term call) calls) held × EachEndIsMetBy (filter (λ call. not (holds_term term call)) calls) failed

-- so it does of one that begins with a term
abbrev pub EachBranchIsMetBy : List Record → Branching → Type 0
EachBranchIsMetBy calls it =
    EachEndIsMetBy (filter (λ call. holds_term it.term call) calls) (box_value it.held)
    × EachEndIsMetBy (filter (λ call. not (holds_term it.term call)) calls) (box_value it.failed)
