-- How many instructions the rules of a policy's text take at most, told from what is written.
use Rattle.std.specs.Prelude.{ℕ, ◌+◌, ◌*◌, nat_lt, if◌then◌else◌, List, [], ◌∷◌, length, sum_by, Option, Some, None}
use Rattle.sk_policy_text.specs.declared.sentence.Sentence.{Sentence}
use Rattle.sk_policy_text.specs.declared.sentence.Sentence.TheVariants as sentence
use Rattle.sk_policy_text.specs.declared.stated.Stated.{Stated}
use Rattle.sk_policy_text.specs.PolicyRows.{Part, sentences_of, parts_of}

-- the words of the conditions of the cases that a text begins with
abbrev pub words_below : List Sentence → ℕ
words_below [] = 0
words_below (sentence.Case verdict words ∷ behind) = length words.now + words_below behind
words_below (other ∷ behind) = 0

-- a row with a verdict has no cases
abbrev pub words_of_row : Option ℕ → List Sentence → ℕ
words_of_row None behind = words_below behind
words_of_row (Some verdict) behind = 0

-- 6 for each word of a case's condition, and one for its verdict
abbrev pub cases_bound : List Sentence → ℕ
cases_bound [] = 0
cases_bound (sentence.Case verdict words ∷ behind) = (6 * length words.now + 1) + cases_bound behind
cases_bound (other ∷ behind) = 0

abbrev pub row_bound : Option ℕ → List Sentence → ℕ
row_bound None behind = cases_bound behind
row_bound (Some verdict) behind = 0

-- 6 for the numbers of x32 below one, where there are any: the first is 0x40000000
abbrev pub gap_bound : ℕ → ℕ
gap_bound end = if nat_lt 0x40000000 end then 6 else 0

-- 6 for each range of a row, more for the cases of the row, and for the numbers of x32 before the range
abbrev pub part_bound : Part → ℕ
part_bound part = (6 + row_bound part.verdict (sentences_of part.behind)) + gap_bound part.first

abbrev pub parts_bound : List Part → ℕ
parts_bound parts = sum_by part_bound parts

-- of all ranges, and 6 for the numbers of x32 behind the last one
abbrev pub rules_bound : List Stated → ℕ
rules_bound text = parts_bound (parts_of text) + 6
