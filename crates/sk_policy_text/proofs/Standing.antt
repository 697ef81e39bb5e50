-- Rows in their text.
use Rattle.std.proofs.Common.{ℕ, ◌≤◌, List, [], ◌∷◌, inl, inr, nat_le, Option}
use Rattle.std.specs.Prelude.{All}
use Rattle.std.proofs.lemmas.Bool.{cases_Bool, leb-true}
use Rattle.std.proofs.lemmas.List.Elements.{All-nil, All-cons, All-append}
use Rattle.sk_policy_text.specs.declared.sentence.Range.{Range}
use Rattle.sk_policy_text.specs.declared.sentence.Sentence.{Sentence}
use Rattle.sk_policy_text.specs.declared.sentence.Sentence.TheVariants as sentence
use Rattle.sk_policy_text.specs.declared.stated.Stated.{Stated}
use Rattle.sk_policy_text.specs.PolicyRows.{Part, part_in, parts_in, parts_at, parts_of}

-- what holds of each range of a row holds of each part
pub parts_have : (P : Part → Type 0) (line : ℕ) (verdict : Option ℕ) (behind : List Stated)
    → ((range : Range) → range.first ≤ range.last → P (record { first = range.first; last = range.last; line = line; verdict = verdict; behind = behind }))
    → (ranges : List Range) → All P (parts_in ranges line verdict behind)
parts_have P line verdict behind each [] = All-nil P
parts_have P line verdict behind each (range ∷ ranges) =
    All-append P (part_in range line verdict behind) (parts_in ranges line verdict behind)
    (elim (cases_Bool (nat_le range.first range.last)) [
      | inl some ↦ rw some (All-cons P _ [] (each range (leb-true range.first range.last some)) (All-nil P))
      | inr none ↦ rw none (All-nil P)
    ])
    (parts_have P line verdict behind each ranges)

some_numbers_at : (it : Sentence) (line : ℕ) (behind : List Stated) → All (λ (part : Part). part.first ≤ part.last) (parts_at it line behind)
some_numbers_at (sentence.Row ranges verdict) line behind = parts_have (λ (part : Part). part.first ≤ part.last) line verdict behind (λ range some. some) ranges.items
some_numbers_at other line behind = All-nil (λ (part : Part). part.first ≤ part.last)

pub some_numbers : (text : List Stated) → All (λ (part : Part). part.first ≤ part.last) (parts_of text)
some_numbers [] = All-nil (λ (part : Part). part.first ≤ part.last)
some_numbers (first ∷ behind) =
    All-append (λ (part : Part). part.first ≤ part.last) (parts_at first.sentence first.line behind) (parts_of behind) (some_numbers_at first.sentence first.line behind) (some_numbers behind)
