-- What a tree of differences says where each of its ends says that the relation holds, and when each does.
use Rattle.std.proofs.Common.{◌≡◌, ℕ, zero, suc, Bool, true, false, ◌&&◌, not, if◌then◌else◌, List, [], ◌∷◌, filter, slice_index_or, Some, sym, subst, ap, ◌∙◌, refl, arith}
use Rattle.std.specs.List.{All}
use Rattle.std.specs.Option.{option_map_or}
use Rattle.std.specs.Cmp.Derive.{both_true}
use Rattle.std.proofs.lemmas.List.Elements.{All-filter, All-head, filter_passes}
use Rattle.sk_insn.specs.declared.insn.Insn.{Insn}
use Rattle.sk_insn.specs.declared.record.Record.{Record}
use Rattle.sk_filter.specs.Verdict.{verdict_of}
use Rattle.sk_conditions.specs.declared.differences.Verdicts.{Verdicts}
use Rattle.sk_conditions.specs.declared.standing.Relation.{Relation}
use Rattle.sk_conditions.specs.declared.tree.Tree.{Tree}
use Rattle.sk_conditions.specs.declared.tree.Tree.TheVariants.{Is, Untold, Ask'}
use Rattle.sk_conditions.specs.Comparing.{relates}
use Rattle.sk_conditions.specs.Conditions.{holds_on, told}
use Rattle.sk_conditions.specs.Differing.{SaysOf}
use Rattle.sk_conditions.specs.Followed.{TellsAll}
use Rattle.sk_conditions.specs.Meeting.{EachEndIsMet}
use Rattle.libskern.specs.Comparing.{end_stands, pair_stands, stands_on, tree_stands}

left : (a b : Bool) → (a && b) ≡ true → a ≡ true
left true b e = refl
left false b e = e

right : (a b : Bool) → (a && b) ≡ true → b ≡ true
right true b e = e
right false b e = absurd (let wrong : false ≡ true = e in cc)

-- an end that says so
of_end : (relation : Relation) (pairs : List Verdicts) (number old new : ℕ) → end_stands relation pairs number ≡ true
    → SaysOf relation pairs old new (Some number) → relates relation old new ≡ true
of_end relation pairs zero old new stands says = says
of_end relation pairs (suc i) old new stands says =
    sym (ap (λ found. option_map_or (pair_stands relation) found false) says) ∙ stands

pub of_tree : (relation : Relation) (pairs : List Verdicts) (tree : Tree) (call : Record) (old new : ℕ)
    → tree_stands relation pairs tree ≡ true → SaysOf relation pairs old new (told tree call) → relates relation old new ≡ true
of_tree relation pairs (Is number) call old new stands says = of_end relation pairs number old new stands says
of_tree relation pairs Untold call old new stands says = absurd (let wrong : false ≡ true = stands in cc)
of_tree relation pairs (Ask' test p held q failed) call old new stands says = by_test (holds_on test call) says
    (of_tree relation pairs held call old new (left (tree_stands relation pairs held) (tree_stands relation pairs failed) stands))
    (of_tree relation pairs failed call old new (right (tree_stands relation pairs held) (tree_stands relation pairs failed) stands))
  where
    by_test : (b : Bool) → SaysOf relation pairs old new (if b then told held call else told failed call)
        → (SaysOf relation pairs old new (told held call) → relates relation old new ≡ true)
        → (SaysOf relation pairs old new (told failed call) → relates relation old new ≡ true) → relates relation old new ≡ true
    by_test true one on_held on_failed = on_held one
    by_test false one on_held on_failed = on_failed one

-- an end of a call on which the relation holds says so
to_end : (relation : Relation) (pairs : List Verdicts) (number old new : ℕ) → relates relation old new ≡ true
    → SaysOf relation pairs old new (Some number) → end_stands relation pairs number ≡ true
to_end relation pairs zero old new stands says = refl
to_end relation pairs (suc i) old new stands says = ap (λ found. option_map_or (pair_stands relation) found false) says ∙ stands

-- a tree says so of a call on which the relation holds
abbrev SaysTrue : Relation → List Verdicts → List (List Insn) → List (List Insn) → Tree → Record → Type 0
SaysTrue relation pairs old new tree call =
    SaysOf relation pairs (verdict_of old call) (verdict_of new call) (told tree call) × (stands_on relation old new call ≡ true)

-- the calls that pass a test, of each of which more is known then
those : (P Q : Record → Type 0) (p : Record → Bool) (calls : List Record) → All P calls → ((call : Record) → p call ≡ true → P call → Q call)
    → All Q (filter p calls)
those P Q p calls all more k d less =
    more (slice_index_or (filter p calls) k d) (filter_passes p calls k d less) (All-filter p P calls all k d less)

of_not : (b : Bool) → not b ≡ true → b ≡ false
of_not true e = absurd (let wrong : false ≡ true = e in cc)
of_not false e = refl

-- where some calls come to all ends of a tree, and it says so of each of them, each end does
pub to_tree : (relation : Relation) (pairs : List Verdicts) (old new : List (List Insn)) (tree : Tree) (calls : List Record)
    → TellsAll tree → EachEndIsMet calls tree → All (SaysTrue relation pairs old new tree) calls → tree_stands relation pairs tree ≡ true
to_tree relation pairs old new (Is number) [] tells met all = absurd (omega (arith, met))
to_tree relation pairs old new (Is number) (call ∷ calls) tells met all =
    let first = All-head (SaysTrue relation pairs old new (Is number)) call calls all in
    to_end relation pairs number (verdict_of old call) (verdict_of new call) first.1 first.0
to_tree relation pairs old new Untold calls tells met all = absurd tells
to_tree relation pairs old new (Ask' test p held q failed) calls tells met all = both_true
    (to_tree relation pairs old new held (filter (λ call. holds_on test call) calls) tells.1.0 met.0
    (those (SaysTrue relation pairs old new (Ask' test p held q failed)) (SaysTrue relation pairs old new held) (λ call. holds_on test call) calls all
    (λ call e is. (subst (λ b. SaysOf relation pairs (verdict_of old call) (verdict_of new call) (if b then told held call else told failed call)) e is.0, is.1))))
    (to_tree relation pairs old new failed (filter (λ call. not (holds_on test call)) calls) tells.1.1 met.1
    (those (SaysTrue relation pairs old new (Ask' test p held q failed)) (SaysTrue relation pairs old new failed) (λ call. not (holds_on test call)) calls all
    (λ call e is. (
      subst (λ b. SaysOf relation pairs (verdict_of old call) (verdict_of new call) (if b then told held call else told failed call))
          (of_not (holds_on test call) e) is.0,
      is.1,
    ))))
