-- Two chains compared on calls of x86-64.
use Rattle.std.specs.Prelude.{ℕ, zero, suc, ◌≡◌, ◌≤◌, ◌<◌, ◌^◌, Bool, true, false, ◌&&◌, List, slice_get}
use Rattle.std.specs.List.{All}
use Rattle.std.specs.Option.{option_map_or}
use Rattle.sk_insn.specs.declared.insn.Insn.{Insn}
use Rattle.sk_insn.specs.declared.record.Record.{Record}
use Rattle.sk_insn.specs.Record.{IsNative}
use Rattle.sk_filter.specs.Verdict.{verdict_of}
use Rattle.sk_conditions.specs.declared.differences.Verdicts.{Verdicts}
use Rattle.sk_conditions.specs.declared.standing.Relation.{Relation}
use Rattle.sk_conditions.specs.declared.standing.Relation.TheVariants.{Same, AsStrict}
use Rattle.sk_conditions.specs.declared.tree.Tree.{Tree}
use Rattle.sk_conditions.specs.declared.tree.Tree.TheVariants.{Is, Untold, Ask'}
use Rattle.sk_conditions.specs.Comparing.{relates}
use Rattle.sk_conditions.specs.Followed.{AreFollowed}
use Rattle.sk_conditions.specs.Steps.{NeverPart}
use Rattle.libskern.specs.declared.compare.Difference.{Difference}
use Rattle.libskern.specs.declared.compare.Found.{Found}
use Rattle.libskern.specs.declared.compare.Found.TheVariants.{Holds, Fails, Open}
use Rattle.libskern.specs.Shapes.{record_of}

-- what is asked of a new chain: that it answers the same, or as strictly
abbrev pub relation_asked : Bool → Relation
relation_asked false = Same
relation_asked true = AsStrict

-- whether it does so to a call
abbrev pub stands_on : Relation → List (List Insn) → List (List Insn) → Record → Bool
stands_on relation old new call = relates relation (verdict_of old call) (verdict_of new call)

-- so it does to each call of x86-64 with a number from one on and below another
abbrev pub StandsFrom : Relation → List (List Insn) → List (List Insn) → ℕ → ℕ → Type 0
StandsFrom relation old new from end =
    (call : Record) → IsNative call → from ≤ call.nr → call.nr < end → stands_on relation old new call ≡ true

-- a call of x86-64 to which it does not, with both verdicts
pub record IsDifference (relation : Relation) (old new : List (List Insn)) (it : Difference) : Type 0 where
  pub native : IsNative (record_of it.call)
  pub of_old : verdict_of old (record_of it.call) ≡ it.old_verdict
  pub of_new : verdict_of new (record_of it.call) ≡ it.new_verdict
  pub fails : relates relation it.old_verdict it.new_verdict ≡ false

-- what was found is so
abbrev pub IsFound : Relation → List (List Insn) → List (List Insn) → ℕ → ℕ → Found → Type 0
IsFound relation old new from end Holds = StandsFrom relation old new from end
IsFound relation old new from end (Fails it) = IsDifference relation old new it
IsFound relation old new from end Open = Unit {0}

-- the new chain of two stands so to the old one on every call of x86-64
abbrev pub Stand : Bool → List (List Insn) × List (List Insn) → Type 0
Stand stricter (old, new) = StandsFrom (relation_asked stricter) old new 0 (2 ^ 32)

-- or this is a call on which it does not
abbrev pub Differ : Bool → Difference → List (List Insn) × List (List Insn) → Type 0
Differ stricter it (old, new) = IsDifference (relation_asked stricter) old new it

-- each filter of both is of the kind that is followed
abbrev pub BothFollowed : List (List Insn) × List (List Insn) → Type 0
BothFollowed (old, new) = All AreFollowed old × All AreFollowed new

-- all calls of any numbers go one way through each filter of both
abbrev pub NeitherParts : List (List Insn) × List (List Insn) → Type 0
NeitherParts (old, new) = NeverPart 0 (2 ^ 32) old × NeverPart 0 (2 ^ 32) new

-- ---- what the code knows on its way there

-- the relation holds between the verdicts of this pair
abbrev pub pair_stands : Relation → Verdicts → Bool
pair_stands relation pair = relates relation pair.old pair.new

-- an end of a tree of differences says that the relation holds: 0 says so, and a number from 1 on names a pair
abbrev pub end_stands : Relation → List Verdicts → ℕ → Bool
end_stands relation pairs zero = true
end_stands relation pairs (suc i) = option_map_or (pair_stands relation) (slice_get pairs i) false

-- each end of it does
abbrev pub tree_stands : Relation → List Verdicts → Tree → Bool
tree_stands relation pairs (Is number) = end_stands relation pairs number
tree_stands relation pairs Untold = false
tree_stands relation pairs (Ask' test p held q failed) = tree_stands relation pairs held && tree_stands relation pairs failed
