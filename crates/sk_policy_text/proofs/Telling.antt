-- The lines of cases are read as these cases.
use Rattle.std.proofs.Common.{◌≡◌, ◌≢◌, ◌==◌, ◌∙◌, ap, refl, ℕ, List, [], ◌∷◌, ◌++◌, codes, false, append_assoc, Ok}
use Rattle.std.specs.List.{before_first}
use Rattle.sk_text.proofs.Cuts.{before_first-no}
use Rattle.sk_names.specs.declared.architecture.Architecture.{Architecture}
use Rattle.sk_filter.specs.VerdictText.{verdict_text}
use Rattle.sk_policy_text.specs.declared.word.Place.TheVariants.{Behind, Case as Blank}
use Rattle.sk_policy_text.specs.Words.{Word, is_blank, is_letter_or_digit, is_word_byte, placed, words_behind, words_of_line}
use Rattle.sk_policy_text.specs.Sentences.{Case, case, condition, said_by, sentence_in, stopped_at, where_or_else}
use Rattle.sk_policy_text.specs.RoundTrip.{CasesComeBack, ElsesComeBack}
use Rattle.sk_policy_text.proofs.Cuts.{blank_parts}
use Rattle.sk_policy_text.proofs.Returning.{Says, begins_error_name, verdict_says}
use Rattle.sk_policy_text.proofs.Spelling.{is_word, one_before, one_word}

-- ---- blanks in front

space_first : (line : List ℕ) → words_of_line (32 ∷ line) ≡ words_of_line line
unfolding is_blank
space_first line =
    ap (words_behind []) (before_first-no (λ byte. byte == 35) 32 line refl) ∙ blank_parts 32 (before_first (λ byte. byte == 35) line) refl

two_spaces : (line : List ℕ) → words_of_line (codes "  " ++ line) ≡ words_of_line line
two_spaces line = space_first (32 ∷ line) ∙ space_first line

-- ---- words with a place

behind_others : (number : ℕ) (words others : List (List ℕ)) → placed number Behind (words ++ others) ≡ placed number Behind words ++ placed number Behind others
behind_others number [] others = refl
behind_others number (word ∷ words) others =
    ap (λ l. record { text = word; line = number; place = Behind } ∷ l) (behind_others number words others)

-- the words of a verdict, and those behind it
abbrev with_others : ℕ → List ℕ → List (List ℕ) → List Word → List Word
with_others number first more rest = record { text = first; line = number; place = Blank } ∷ (placed number Behind more ++ rest)

-- ---- a case

case_read : (by : Architecture) (number value : ℕ) (text : List ℕ) (says : Says text value) (rest : List Word) → begins_error_name rest ≡ false
    → said_by by (with_others number says.first says.more rest) ≡ where_or_else value rest
unfolding said_by case
case_read by number value text says rest free = let read = says.read number Blank rest free in rw read refl

words_read : (number value : ℕ) (text tail : List ℕ) (says : Says text value)
    → placed number Blank (words_of_line (codes "  " ++ (text ++ (32 ∷ tail))))
    ≡ with_others number says.first says.more (placed number Behind (words_of_line tail))
words_read number value text tail says =
    ap (placed number Blank) (two_spaces (text ++ (32 ∷ tail)) ∙ says.before tail)
    ∙ ap (λ l. record { text = says.first; line = number; place = Blank } ∷ l) (behind_others number says.more (words_of_line tail))

else_word : words_of_line (codes "else") ≡ codes "else" ∷ []
unfolding is_word is_word_byte is_letter_or_digit
else_word = one_word (codes "else") refl

where_word : (condition : List ℕ) → words_of_line (codes "where " ++ condition) ≡ codes "where" ∷ words_of_line condition
unfolding is_word is_word_byte is_letter_or_digit
where_word condition = one_before (codes "where") condition refl

pub elses_come_back : ElsesComeBack
unfolding where_or_else
elses_come_back by value number named small =
    let says = verdict_says value named small in
    let rest = placed number Behind (codes "else" ∷ []) in
    ap (sentence_in by)
    (words_read number value (verdict_text value) (codes "else") says ∙ ap (λ l. with_others number says.first says.more (placed number Behind l)) else_word)
    ∙ ap (stopped_at (with_others number says.first says.more rest)) (case_read by number value (verdict_text value) says rest refl)

-- the words of a condition are kept
kept : (number value : ℕ) (words : List (List ℕ)) (more : List Word) → words ≢ []
    → condition value (placed number Behind words ++ more) ≡ Ok (Case value (placed number Behind words ++ more))
kept number value [] more some = absurd (some refl)
kept number value (word ∷ words) more some = refl

condition_read : (number value : ℕ) (words : List (List ℕ)) (more : List Word) → words ≢ []
    → where_or_else value (placed number Behind (codes "where" ∷ words) ++ more) ≡ Ok (Case value (placed number Behind words ++ more))
unfolding where_or_else
condition_read number value words more some = kept number value words more some

pub cases_come_back : CasesComeBack
cases_come_back by value number condition more named small some =
    let says = verdict_says value named small in
    let behind = placed number Behind (codes "where" ∷ words_of_line condition) in
    let text : placed number Blank (words_of_line (codes "  " ++ (verdict_text value ++ (codes " where " ++ condition))))
    ≡ with_others number says.first says.more behind =
    words_read number value (verdict_text value) (codes "where " ++ condition) says
    ∙ ap (λ l. with_others number says.first says.more (placed number Behind l)) (where_word condition) in
    let all : with_others number says.first says.more behind ++ more ≡ with_others number says.first says.more (behind ++ more) =
    ap (λ l. record { text = says.first; line = number; place = Blank } ∷ l) (append_assoc (placed number Behind says.more) behind more) in
    ap (sentence_in by) (ap (λ l. l ++ more) text ∙ all)
    ∙ ap (stopped_at (with_others number says.first says.more (behind ++ more)))
    (case_read by number value (verdict_text value) says (behind ++ more) refl ∙ condition_read number value (words_of_line condition) more some)
