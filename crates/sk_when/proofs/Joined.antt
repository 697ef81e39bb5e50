-- Pieces with one more behind them, alone or as a part of the last one.
use Rattle.std.proofs.Common.{ℕ, ◌≡◌, ◌+◌, ◌≤◌, inl, inr, List, [], ◌∷◌, ◌++◌, refl, sym, ap, subst, arith}
use Rattle.std.specs.List.{All, list_any}
use Rattle.std.proofs.lemmas.Bool.{cases_lt}
use Rattle.std.proofs.lemmas.List.Elements.{All-nil, All-cons, All-head}
use Rattle.sk_insn.specs.declared.insn.Insn.{Insn}
use Rattle.sk_conditions.specs.declared.numbers.Numbers.{Numbers}
use Rattle.sk_conditions.specs.declared.standing.Relation.{Relation}
use Rattle.sk_when.specs.declared.piece.Calls.TheVariants.{Every}
use Rattle.sk_when.specs.declared.piece.Outcome.{Outcome}
use Rattle.sk_when.specs.declared.piece.Outcome.TheVariants.{Undecided, Apart}
use Rattle.sk_when.specs.declared.piece.Part.{Part}
use Rattle.sk_when.specs.declared.piece.Piece.{Piece}
use Rattle.sk_when.specs.Pieces.{AreAlike, AreCompared, ArePartsOfOne, Cover, HasVerdicts, Holds, HoldsOf, IsSo, TellNoWhole, meets_calls}

pub one_more : (relation : Relation) (old new : List (List Insn)) (pieces : List Piece) (from : ℕ) (piece : Piece)
    → AreCompared relation old new from piece.numbers.first pieces → piece.numbers.first ≤ piece.numbers.last
    → Holds relation old new piece → AreCompared relation old new from (piece.numbers.last + 1) (pieces ++ piece ∷ [])
one_more relation old new [] from piece so_far rises holds = (sym so_far, subst (λ n. n ≤ piece.numbers.last) (sym so_far) rises, holds, refl)
one_more relation old new (before ∷ pieces) from piece so_far rises holds =
    (so_far.0, so_far.1, so_far.2, one_more relation old new pieces (before.numbers.last + 1) piece so_far.3 rises holds)

-- the numbers of two pieces, one behind the other
abbrev both_numbers : Numbers → Numbers → Numbers
both_numbers one other = record { first = one.first; last = other.last }

-- what holds of the calls of both, and the call of the first
so_of_both : (relation : Relation) (old new : List (List Insn)) (one other : Numbers) (outcome another : Outcome) → AreAlike outcome another
    → one.last + 1 ≡ other.first → other.first ≤ other.last → IsSo relation old new one Every outcome → IsSo relation old new other Every another
    → IsSo relation old new (both_numbers one other) Every outcome
so_of_both relation old new one other Undecided another are meet rises is is' = tt
so_of_both relation old new one other (Apart it call) Undecided are meet rises is is' = absurd are
so_of_both relation old new one other (Apart it call) (Apart it' call') are meet rises is is' =
    let below = is.2.0.1.1 in (
      λ at within every. elim (cases_lt one.last at.nr) [
        | inl behind ↦
            subst (λ v. HasVerdicts old new v at) (sym are) (is'.0 at (within.0, (omega (arith, behind, meet), within.1.1)) refl)
        | inr here ↦ is.0 at (within.0, (within.1.0, here)) refl
      ],
      is.1,
      ((is.2.0.0, (is.2.0.1.0, omega (arith, below, meet, rises))), refl),
    )

holds_both : (relation : Relation) (old new : List (List Insn)) (one other : Numbers) (parts others : List Part) → ArePartsOfOne parts others
    → one.last + 1 ≡ other.first → other.first ≤ other.last
    → All (HoldsOf relation old new one) parts × Cover relation old new one parts
    → All (HoldsOf relation old new other) others × Cover relation old new other others
    → All (HoldsOf relation old new (both_numbers one other)) parts × Cover relation old new (both_numbers one other) parts
holds_both relation old new one other [] [] are meet rises (hold, cover) (holds, covers) = (
  All-nil (HoldsOf relation old new (both_numbers one other)),
  λ call within differs. elim (cases_lt one.last call.nr) [
    | inl behind ↦ covers call (within.0, (omega (arith, behind, meet), within.1.1)) differs
    | inr here ↦ cover call (within.0, (within.1.0, here)) differs
  ],
)
holds_both relation old new one other (part ∷ []) (another ∷ []) are meet rises (hold, cover) (holds, covers) = (
  All-cons (HoldsOf relation old new (both_numbers one other)) part [] (
    subst (λ calls. IsSo relation old new (both_numbers one other) calls part.outcome) (sym are.0)
        (so_of_both relation old new one other part.outcome another.outcome are.2 meet rises
        (subst (λ calls. IsSo relation old new one calls part.outcome) are.0 (All-head (HoldsOf relation old new one) part [] hold).0)
        (subst (λ calls. IsSo relation old new other calls another.outcome) are.1 (All-head (HoldsOf relation old new other) another [] holds).0)),
    subst (TellNoWhole (both_numbers one other)) (sym are.0) tt,
  )
      (All-nil (HoldsOf relation old new (both_numbers one other))),
  λ call within differs. ap (λ c. list_any (λ calls. meets_calls calls call) (c ∷ [])) are.0,
)
holds_both relation old new one other [] (another ∷ others) are meet rises hold holds = absurd are
holds_both relation old new one other (part ∷ []) [] are meet rises hold holds = absurd are
holds_both relation old new one other (part ∷ []) (another ∷ (third ∷ others)) are meet rises hold holds = absurd are
holds_both relation old new one other (part ∷ (second ∷ parts)) others are meet rises hold holds = absurd are

pub joined : (relation : Relation) (old new : List (List Insn)) (pieces : List Piece) (from : ℕ) (last piece : Piece)
    → AreCompared relation old new from piece.numbers.first (pieces ++ last ∷ []) → piece.numbers.first ≤ piece.numbers.last
    → Holds relation old new piece → ArePartsOfOne last.parts.items piece.parts.items
    → AreCompared relation old new from (piece.numbers.last + 1) (pieces ++ record { numbers = both_numbers last.numbers piece.numbers; parts = last.parts } ∷ [])
joined relation old new [] from last piece so_far rises holds are =
    let begins = so_far.0 in let up = so_far.1 in let meet = so_far.3 in (
      so_far.0,
      omega (arith, up, meet, rises),
      holds_both relation old new last.numbers piece.numbers last.parts.items piece.parts.items are so_far.3 rises so_far.2 holds,
      refl,
    )
joined relation old new (before ∷ pieces) from last piece so_far rises holds are =
    (so_far.0, so_far.1, so_far.2, joined relation old new pieces (before.numbers.last + 1) last piece so_far.3 rises holds are)
