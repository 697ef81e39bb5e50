-- Steps of the loops of `ask lint`: of counts, of notes of numbers one behind another, and of numbers that pass a test.
use Rattle.std.proofs.Common.{◌≡◌, ℕ, zero, suc, ◌+◌, ◌≤◌, Bool, true, false, if◌then◌else◌, length, map, slice_set, List, [], ◌∷◌, ◌++◌, append-nil, append_assoc, refl, sym, ap, ◌∙◌, arith}
use Rattle.std.specs.List.{count_by, filter}
use Rattle.sk_insn.specs.declared.insn.Insn.{Insn}
use Rattle.sk_when.specs.declared.concern.Concern.{Concern}
use Rattle.sk_when.specs.declared.piece.Piece.{Piece}
use Rattle.sk_when.specs.Lint.{has_concern}
use Rattle.sk_when.specs.LintNotes.{AreNotes, AreNotesOf}
use Rattle.sk_when.specs.LintText.{counted}

pub counted_more : (it : Concern) (pieces : List Piece) (piece : Piece)
    → counted it (pieces ++ piece ∷ []) ≡ counted it pieces + count_by (has_concern it) piece.parts.items
counted_more it [] piece = omega arith
counted_more it (first ∷ pieces) piece = let rest = counted_more it pieces piece in omega (arith, rest)

pub more_notes : (programs : List (List Insn)) (is_spent : Bool) (numbers : List ℕ) (nr : ℕ) (text first : List ℕ)
    → AreNotes programs is_spent numbers text → AreNotesOf programs is_spent nr first → AreNotes programs is_spent (numbers ++ nr ∷ []) (text ++ first)
more_notes programs is_spent [] nr text first notes of = (first, [], of, refl, ap (λ (its : List ℕ). its ++ first) notes ∙ sym (append-nil first))
more_notes programs is_spent (number ∷ numbers) nr text first notes of = (
  notes.0,
  notes.1 ++ first,
  notes.2,
  more_notes programs is_spent numbers nr notes.1 first notes.3 of,
  ap (λ (its : List ℕ). its ++ first) notes.4 ∙ append_assoc notes.0 notes.1 first,
)

-- notes that are there though steps may have been spent since
pub notes_spent : (programs : List (List Insn)) (before after : Bool) (numbers : List ℕ) (text : List ℕ) → (after ≡ false → before ≡ false)
    → AreNotes programs before numbers text → AreNotes programs after numbers text
notes_spent programs before after [] text since notes = notes
notes_spent programs before after (number ∷ numbers) text since notes =
    let tree = notes.2.1 in (
      notes.0,
      notes.1,
      (notes.2.0, record { tells = tree.tells; all = λ all none. tree.all all (since none) }, notes.2.2),
      notes_spent programs before after numbers notes.1 since notes.3,
      notes.4,
    )

pub filter_more : (test : ℕ → Bool) (xs : List ℕ) (x : ℕ) → filter test (xs ++ x ∷ []) ≡ (if test x then filter test xs ++ x ∷ [] else filter test xs)
filter_more test [] x = by_test (test x) where
  by_test : (b : Bool) → (if b then x ∷ [] else []) ≡ (if b then [] ++ x ∷ [] else [])
  by_test true = refl
  by_test false = refl
filter_more test (first ∷ xs) x = by_test (test first) (test x) (filter_more test xs x) where
  by_test : (b c : Bool) → filter test (xs ++ x ∷ []) ≡ (if c then filter test xs ++ x ∷ [] else filter test xs)
      → (if b then first ∷ filter test (xs ++ x ∷ []) else filter test (xs ++ x ∷ []))
      ≡ (if c then (if b then first ∷ filter test xs else filter test xs) ++ x ∷ [] else if b then first ∷ filter test xs else filter test xs)
  by_test true true rest = ap (λ (its : List ℕ). first ∷ its) rest
  by_test true false rest = ap (λ (its : List ℕ). first ∷ its) rest
  by_test false true rest = rest
  by_test false false rest = rest

pub set_past : (xs : List ℕ) (i a : ℕ) → length xs ≤ i → slice_set xs i a ≡ xs
set_past [] i a past = refl
set_past (x ∷ xs) zero a past = absurd (omega (arith, past))
set_past (x ∷ xs) (suc i) a past = ap (λ (its : List ℕ). x ∷ its) (set_past xs i a (omega (arith, past)))

pub map_push : (f : Piece → ℕ) (pieces : List Piece) (piece : Piece) → map f (pieces ++ piece ∷ []) ≡ map f pieces ++ f piece ∷ []
map_push f [] piece = refl
map_push f (first ∷ pieces) piece = ap (λ (its : List ℕ). f first ∷ its) (map_push f pieces piece)
