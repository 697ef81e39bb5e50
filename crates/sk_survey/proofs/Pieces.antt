-- Rows that hold in pieces, with one more row, or with more numbers in the last one.
use Rattle.std.proofs.Common.{◌≡◌, ℕ, ◌+◌, ◌^◌, ◌≤◌, ◌<◌, ◌⊎◌, inl, inr, List, length, Some, slice_get, set, sym, subst, arith}
use Rattle.std.specs.List.{All, Contains}
use Rattle.std.proofs.lemmas.List.Elements.{All-contains, All-set}
use Rattle.std.proofs.lemmas.Option.{get_or_from_slice_get, slice_get_within}
use Rattle.sk_insn.specs.declared.insn.Insn.{Insn}
use Rattle.sk_survey.specs.declared.rows.Row.{Row}
use Rattle.sk_survey.specs.declared.answers.Answers.{Answers}
use Rattle.sk_survey.specs.Answers.{answers_of, ChainAnswersAmong, AreRising}
use Rattle.sk_survey.specs.Ends.{OnlyVerdicts}
use Rattle.sk_survey.specs.Settling.{TellsOne}
use Rattle.sk_survey.specs.Surveys.{Holds, Tell}
use Rattle.sk_survey.specs.Pieces.{HoldsInPieces}
use Rattle.sk_survey.proofs.Standing.{last_tells}

-- with the same answers
holds_alike : (programs : List (List Insn)) (first last : ℕ) (one other : Answers) → answers_of one ≡ answers_of other
    → Holds programs (record { first = first; last = last; answers = one }) → Holds programs (record { first = first; last = last; answers = other })
holds_alike programs first last one other same holds = record {
  among = subst (ChainAnswersAmong programs first last) same holds.among;
  rising = subst AreRising same holds.rising;
  only = subst (OnlyVerdicts programs first last) same holds.only;
  settled = λ settle. subst TellsOne same (holds.settled settle);
}

-- a row between two cuts has one piece
pub whole_piece : (programs : List (List Insn)) (cuts : List ℕ) (row : Row) → row.last < 2 ^ 32
    → All (λ cut. (cut ≤ row.first) ⊎ (row.last < cut)) cuts → Holds programs row → HoldsInPieces programs cuts row
whole_piece programs cuts row fits between holds first last low rises high piece =
    let P = λ (cut : ℕ). (cut ≤ row.first) ⊎ (row.last < cut) in
    let begins : row.first ≡ first = elim piece.begins [
      | inl none ↦ omega arith
      | inr has ↦ elim (All-contains P cuts first between has) [ inl below ↦ omega arith | inr above ↦ absurd (omega arith) ]
    ] in
    let ends : row.last ≡ last = elim piece.ends [
      | inl all ↦ omega arith
      | inr has ↦ elim (All-contains P cuts (last + 1) between has) [ inl below ↦ absurd (omega arith) | inr above ↦ omega arith ]
    ] in
    subst (λ n. Holds programs (record { first = first; last = n; answers = row.answers })) ends
    (subst (λ n. Holds programs (record { first = n; last = row.last; answers = row.answers })) begins holds)

-- a piece of both stands in one of them
pub pieces_longer : (programs : List (List Insn)) (cuts : List ℕ) (rows : List Row) (n from : ℕ) (row before : Row) → n + 1 ≡ length rows
    → slice_get rows n ≡ Some before → answers_of before.answers ≡ answers_of row.answers → Tell programs from row.first rows
    → (row.first ≡ 0) ⊎ Contains cuts row.first → All (HoldsInPieces programs cuts) rows → HoldsInPieces programs cuts row
    → All (HoldsInPieces programs cuts) (set rows n (record { first = before.first; last = row.last; answers = before.answers }))
pieces_longer programs cuts rows n from row before long here same told begins all one =
    let next = last_tells programs rows n from row.first before told long here in
    let inside = slice_get_within rows n before here in
    let earlier : HoldsInPieces programs cuts before =
    subst (HoldsInPieces programs cuts) (get_or_from_slice_get rows n before before here) (all n before inside) in
    All-set (HoldsInPieces programs cuts) rows n (record { first = before.first; last = row.last; answers = before.answers }) (λ first last low rises high piece.
    elim begins [
      | inl none ↦ absurd (omega arith)
      | inr has ↦ elim (All-contains (λ cut. (cut ≤ first) ⊎ (last < cut)) cuts row.first piece.uncut has) [
        | inl behind ↦ holds_alike programs first last row.answers before.answers (sym same) (one first last behind rises high piece)
        | inr ahead ↦ earlier first last low rises (omega arith) piece
      ]
    ]) all
