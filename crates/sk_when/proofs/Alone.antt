-- Pieces of numbers with a name, and pieces of which each part is decided, with one more behind them.
use Rattle.std.proofs.Common.{ℕ, ◌≡◌, ◌+◌, ◌^◌, ◌≤◌, ◌<◌, inl, inr, is_some, IsTrue, List, [], ◌∷◌, ◌++◌, length, get_or, sym, subst, ◌∙◌, arith}
use Rattle.std.specs.List.{All}
use Rattle.std.specs.List.Sorted.{IsNonDecreasing}
use Rattle.std.proofs.lemmas.Bool.{cases_lt}
use Rattle.std.proofs.lemmas.List.Elements.{All-nil, All-cons, All-head, All-tail, All-push}
use Rattle.sk_insn.specs.declared.insn.Insn.{Insn}
use Rattle.sk_names.specs.declared.architecture.Architecture.{Architecture}
use Rattle.sk_names.specs.Names.{name_on}
use Rattle.sk_survey.specs.declared.answers.Answers.TheVariants.{Any}
use Rattle.sk_survey.specs.declared.rows.Row.{Row}
use Rattle.sk_survey.specs.Cutting.{IsCutRound}
use Rattle.sk_survey.proofs.Cutting.{alone_before, alone_behind}
use Rattle.sk_conditions.specs.declared.numbers.Numbers.{Numbers}
use Rattle.sk_conditions.specs.declared.standing.Relation.{Relation}
use Rattle.sk_when.specs.declared.piece.Piece.{Piece}
use Rattle.sk_when.specs.Pieces.{AreCompared, IsNamed, NamedAreAlone, NamedAreAloneIn, AreDecided}

-- the numbers before a beginning, or behind all of them
abbrev row_of : Numbers → Row
row_of numbers = record { first = numbers.first; last = numbers.last; answers = Any }

pub named_before : (a : Architecture) (beginnings : List ℕ) (numbers : Numbers) (i : ℕ) → IsNonDecreasing beginnings
    → ((nr : ℕ) → IsTrue (is_some (name_on a nr)) → IsCutRound beginnings nr) → i < length beginnings
    → ((k : ℕ) → k < i → get_or beginnings k 0 ≤ numbers.first) → numbers.last < get_or beginnings i 0 → numbers.last < 2 ^ 32 → NamedAreAlone a numbers
named_before a beginnings numbers i rising round less passed below fits nr named =
    alone_before beginnings (nr ∷ []) (row_of numbers) i rising
    (All-cons (IsCutRound beginnings) nr [] (round nr named) (All-nil (IsCutRound beginnings))) less passed below fits 0 0 (omega arith) 0 (row_of numbers) (omega arith)

pub named_behind : (a : Architecture) (beginnings : List ℕ) (numbers : Numbers) → ((nr : ℕ) → IsTrue (is_some (name_on a nr)) → IsCutRound beginnings nr)
    → All (λ beginning. beginning ≤ numbers.first) beginnings → numbers.last < 2 ^ 32 → NamedAreAlone a numbers
named_behind a beginnings numbers round passed fits nr named =
    alone_behind beginnings (nr ∷ []) (row_of numbers)
    (All-cons (IsCutRound beginnings) nr [] (round nr named) (All-nil (IsCutRound beginnings))) passed fits 0 0 (omega arith) 0 (row_of numbers) (omega arith)

-- what holds of all elements holds of the last one, and of those before it
pub all_before : {X : Type 0} (P : X → Type 0) (xs : List X) (x : X) → All P (xs ++ x ∷ []) → All P xs × P x
all_before P [] x all = (All-nil P, All-head P x [] all)
all_before P (y ∷ ys) x all =
    let behind = all_before P ys x (All-tail P y (ys ++ x ∷ []) all) in
    (All-cons P y ys (All-head P y (ys ++ x ∷ []) all) behind.0, behind.1)

-- two runs of numbers, neither of which is a number with a name
both_alone : (a : Architecture) (one other : Numbers) → one.last + 1 ≡ other.first → (IsNamed a one → ⊥) → (IsNamed a other → ⊥)
    → NamedAreAlone a one → NamedAreAlone a other → NamedAreAlone a (record { first = one.first; last = other.last })
both_alone a one other meet unnamed unnamed' alone alone' nr named low high =
    elim (cases_lt one.last nr) [
      | inl behind ↦
          let is = alone' nr named (omega (arith, behind, meet)) high in
          absurd (unnamed' (is.0 ∙ sym is.1, subst (λ n. IsTrue (is_some (name_on a n))) (sym is.0) named))
      | inr here ↦
          let is = alone nr named low here in
          absurd (unnamed (is.0 ∙ sym is.1, subst (λ n. IsTrue (is_some (name_on a n))) (sym is.0) named))
    ]

-- where the last piece ends
last_meets : (relation : Relation) (old new : List (List Insn)) (pieces : List Piece) (from end : ℕ) (last : Piece)
    → AreCompared relation old new from end (pieces ++ last ∷ []) → last.numbers.last + 1 ≡ end
last_meets relation old new [] from end last compared = compared.3
last_meets relation old new (piece ∷ pieces) from end last compared =
    last_meets relation old new pieces (piece.numbers.last + 1) end last compared.3

pub joined_alone : (a : Architecture) (relation : Relation) (old new : List (List Insn)) (pieces : List Piece) (from : ℕ) (last piece : Piece)
    → AreCompared relation old new from piece.numbers.first (pieces ++ last ∷ []) → (IsNamed a last.numbers → ⊥) → (IsNamed a piece.numbers → ⊥)
    → All (NamedAreAloneIn a) (pieces ++ last ∷ []) → NamedAreAloneIn a piece
    → All (NamedAreAloneIn a) (pieces ++ record { numbers = record { first = last.numbers.first; last = piece.numbers.last }; parts = last.parts } ∷ [])
joined_alone a relation old new pieces from last piece compared unnamed unnamed' all alone =
    let before = all_before (NamedAreAloneIn a) pieces last all in
    All-push (NamedAreAloneIn a) pieces (record { numbers = record { first = last.numbers.first; last = piece.numbers.last }; parts = last.parts }) before.0
    (both_alone a last.numbers piece.numbers (last_meets relation old new pieces from piece.numbers.first last compared) unnamed unnamed' before.1 alone)

pub joined_decided : (pieces : List Piece) (last piece : Piece) → All AreDecided (pieces ++ last ∷ [])
    → All AreDecided (pieces ++ record { numbers = record { first = last.numbers.first; last = piece.numbers.last }; parts = last.parts } ∷ [])
joined_decided pieces last piece all =
    let before = all_before AreDecided pieces last all in
    All-push AreDecided pieces (record { numbers = record { first = last.numbers.first; last = piece.numbers.last }; parts = last.parts }) before.0 before.1
