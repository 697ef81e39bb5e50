-- The text of the least policy is read as its sentences.
use Rattle.std.proofs.Common.{◌≡◌, ◌<◌, ◌^◌, ◌∙◌, ap, arith, sym, refl, subst, inl, inr, ◌⊎◌, ℕ, List, [], ◌∷◌, ◌++◌, map, codes, flat_map, Option, Some, None, Result, Ok, Err}
use Rattle.std.specs.List.{All}
use Rattle.std.proofs.lemmas.List.{append-nil}
use Rattle.std.proofs.lemmas.List.Elements.{All-nil, All-cons, All-head, All-tail}
use Rattle.std.proofs.lemmas.Bool.{cases_Bool}
use Rattle.sk_insn.specs.Actions.{action_of}
use Rattle.sk_filter.specs.Errors.{error_named, error_number}
use Rattle.sk_filter.specs.VerdictText.{verdict_text}
use Rattle.sk_arguments.specs.declared.naming.Naming.{Naming}
use Rattle.sk_names.specs.declared.architecture.Architecture.{Architecture}
use Rattle.sk_names.specs.declared.architecture.Architecture.TheVariants as architecture
use Rattle.sk_names.specs.Architectures.{text_of}
use Rattle.sk_replay.specs.WordCalls.{plain_number}
use Rattle.sk_text.specs.Numbers.{number_of}
use Rattle.sk_when.specs.declared.names.Names.{Names}
use Rattle.sk_when.specs.declared.row.ConditionalRow.{ConditionalRow}
use Rattle.sk_when.specs.Naming.{names_of}
use Rattle.sk_when.specs.WhenText.{when_text}
use Rattle.std.specs.Fmt.{digits}
use Rattle.sk_policy_text.specs.declared.sentence.Range.{Range}
use Rattle.sk_policy_text.specs.declared.sentence.Sentence.{Sentence}
use Rattle.sk_policy_text.specs.declared.sentence.Sentence.TheVariants as sentence
use Rattle.sk_policy_text.specs.declared.stated.Stated.{Stated}
use Rattle.sk_policy_text.specs.declared.stop.Stop.{Stop}
use Rattle.sk_policy_text.specs.declared.word.Place.TheVariants as place
use Rattle.sk_policy_text.specs.PolicyMade.{AreSaid, IsText, first_words, reads_on}
use Rattle.sk_policy_text.specs.PolicyRows.{arch_in}
use Rattle.sk_policy_text.specs.Sentences.{◌>>=◌, Said, Arch, Default, Others, Row, Case, Else, arch, behind_colon, behind_commas, behind_items, behind_error, begins_case, is_the, line, only_verdict, ranges_of, row, said_by, sentence_in, stopped_at, verdict, verdict_or_none}
use Rattle.sk_policy_text.specs.Verdicts.{action_value, data_in, error_in, verdict_of_word}
use Rattle.sk_policy_text.specs.Views.{said}
use Rattle.sk_policy_text.specs.Words.{Word, begun, goes_on, is_blank, is_letter_or_digit, is_pair, is_word_byte, placed, words_of_line, words_of_text}
use Rattle.sk_policy_when.specs.Allowing.{allow_text, arch_line, default_line, rows_text, written_for}
use Rattle.sk_policy_when.specs.Narrowing.{refused}
use Rattle.sk_policy_when.specs.Texts.{AreRows, AreSentences, IsSayableRow, together}
use Rattle.sk_policy_when.proofs.Cutting.{AreClean}
use Rattle.sk_policy_when.proofs.Finding.{IsRow, nothing_said, rows_rows, saids}
use Rattle.sk_policy_when.proofs.Sentencing.{BeginsWith, NoComma, ReadsAs, each_sentence, read_both, read_none}
use Rattle.sk_policy_when.proofs.Texting.{AreAll, read_line, rows_read}

-- ---- the sentences

abbrev pub header : Architecture → List Said
header architecture.X86_64 = []
header by = Arch by ∷ []

-- the line of all other calls, and the sentences of rows
abbrev pub all_said : List (List Said) → List Said
all_said groups = Default refused ∷ together groups

-- ---- a text is these sentences

abbrev Exactly : List Said → List Said → Type 0
Exactly all what = what ≡ all

default_read : (by : Architecture) → ReadsAs by default_line (Exactly (Default refused ∷ []))
unfolding verdict_text action_of error_named error_number plain_number number_of digits is_blank is_letter_or_digit is_word_byte is_pair goes_on begun data_in action_value verdict_of_word error_in behind_error verdict only_verdict behind_colon line said_by
default_read by =
    read_line by (codes "default " ++ verdict_text refused) place.Row (Default refused) (Exactly (Default refused ∷ []))
    refl (record { word = codes "default"; others = codes "errno/1" ∷ codes "EPERM" ∷ []; are = refl; no_sign = refl }) refl refl (λ number. refl) refl

arch_one : (on by : Architecture) → AreClean (codes "arch " ++ text_of by) → BeginsWith (words_of_line (codes "arch " ++ text_of by))
    → ((number : ℕ) → sentence_in on (placed number place.Row (words_of_line (codes "arch " ++ text_of by))) ≡ Ok (Arch by))
    → ReadsAs on ((codes "arch " ++ text_of by) ++ (10 ∷ [])) (Exactly (Arch by ∷ []))
unfolding is_blank
arch_one on by clean starts reads =
    read_line on (codes "arch " ++ text_of by) place.Row (Arch by) (Exactly (Arch by ∷ [])) clean starts refl refl reads refl

arch_read : (on by : Architecture) → ReadsAs on (arch_line (written_for by)) (Exactly (header (written_for by)))
unfolding is_blank is_letter_or_digit is_word_byte is_pair goes_on begun behind_colon arch line said_by
arch_read on architecture.X86_64 = read_none on (Exactly []) refl
arch_read on architecture.X32 = read_none on (Exactly []) refl
arch_read on architecture.I386 = arch_one on architecture.I386 refl (record { word = codes "arch"; others = codes "i386" ∷ []; are = refl; no_sign = refl }) (λ number. refl)
arch_read on architecture.Aarch64 = arch_one on architecture.Aarch64 refl (record { word = codes "arch"; others = codes "aarch64" ∷ []; are = refl; no_sign = refl }) (λ number. refl)
arch_read on architecture.Arm = arch_one on architecture.Arm refl (record { word = codes "arch"; others = codes "arm" ∷ []; are = refl; no_sign = refl }) (λ number. refl)
arch_read on architecture.Riscv64 = arch_one on architecture.Riscv64 refl (record { word = codes "arch"; others = codes "riscv64" ∷ []; are = refl; no_sign = refl }) (λ number. refl)
arch_read on architecture.Ppc64le = arch_one on architecture.Ppc64le refl (record { word = codes "arch"; others = codes "ppc64le" ∷ []; are = refl; no_sign = refl }) (λ number. refl)
arch_read on architecture.S390x = arch_one on architecture.S390x refl (record { word = codes "arch"; others = codes "s390x" ∷ []; are = refl; no_sign = refl }) (λ number. refl)
arch_read on architecture.Loongarch64 = arch_one on architecture.Loongarch64 refl (record { word = codes "arch"; others = codes "loongarch64" ∷ []; are = refl; no_sign = refl }) (λ number. refl)

-- sentences are those of the policy with these rows
record AreAllowing (by : Architecture) (rows : List ConditionalRow) (what : List Said) : Type 0 where
  groups : List (List Said)
  are : what ≡ header by ++ all_said groups
  rows_are : AreRows rows groups

abbrev AreBehind : List ConditionalRow → List Said → Type 0
AreBehind rows what = (groups : List (List Said)) × (what ≡ all_said groups) × AreRows rows groups

behind_read : (by : Architecture) (names : Names) (rows : List ConditionalRow) → names.architecture ≡ by → All IsSayableRow rows → ReadsAs by (default_line ++ when_text names rows) (AreBehind rows)
behind_read by names rows is all =
    read_both by default_line (when_text names rows) (Exactly (Default refused ∷ [])) (AreAll rows) (AreBehind rows)
    (λ what others one are. (are.0, ap (λ l. l ++ others) one ∙ ap (λ l. Default refused ∷ l) are.1, are.2))
    (default_read by)
    (subst (λ (other : Architecture). ReadsAs other (when_text names rows) (AreAll rows)) is (rows_read names rows all))

text_read : (naming : Naming) (on by : Architecture) (rows : List ConditionalRow) → All IsSayableRow rows → written_for by ≡ on → ReadsAs on (allow_text naming by rows) (AreAllowing on rows)
unfolding allow_text
text_read naming on by rows all is =
    subst (λ (other : Architecture). ReadsAs on (rows_text naming other rows) (AreAllowing on rows)) (sym is)
    (read_both on (arch_line on) (default_line ++ when_text (names_of naming on) rows) (Exactly (header on)) (AreBehind rows) (AreAllowing on rows)
    (λ what others one are. record { groups = are.0; are = ap (λ l. l ++ others) one ∙ ap (λ l. header on ++ l) are.1; rows_are = are.2 })
    (subst (λ (other : Architecture). ReadsAs on (arch_line other) (Exactly (header other))) is (arch_read on by))
    (behind_read on (names_of naming on) rows refl all))

-- the text is sentences of the policy
record AreSaidOf (naming : Naming) (by : Architecture) (rows : List ConditionalRow) : Type 0 where
  groups : List (List Said)
  rows_are : AreRows rows groups
  are : AreSentences (written_for by) (words_of_text (allow_text naming by rows)) (header (written_for by) ++ all_said groups)

sentences_are : (naming : Naming) (by : Architecture) (rows : List ConditionalRow) → All IsSayableRow rows → AreSaidOf naming by rows
sentences_are naming by rows all =
    let on = written_for by in
    let text = allow_text naming by rows in
    let read = text_read naming on by rows all refl [] 1 (All-nil (λ (word : Word). NoComma word.text)) in
    let each = each_sentence on read.words read.said read.each in
    record {
      groups = read.are.groups;
      rows_are = read.are.rows_are;
      are =
          subst (λ (l : List Said). AreSentences on (words_of_text text) l) read.are.are
          (subst (λ (l : List Word). AreSentences on l read.said) (sym (ap words_of_text (sym (append-nil text)) ∙ read.lines [])) each);
    }

-- ---- the first sentence is read alike on each architecture

stopped : (words : List Word) (read : Result Said Stop) (what : Said) → stopped_at words read ≡ Ok what → read ≡ Ok what
stopped words (Ok one) what is = let same : one ≡ what = cc in ap Ok same
stopped words (Err stop) what is = cc

no_row : (by : Architecture) (ranges : Result (List Range) Stop) (value : Result (Option ℕ) Stop) → (ranges >>= λ range. value >>= λ one. Ok (Row range one)) ≡ Ok (Arch by) → ⊥
no_row by (Err stop) value is = cc
no_row by (Ok range) (Err stop) is = cc
no_row by (Ok range) (Ok one) is = cc

row_no_arch : (by of : Architecture) (words : List Word) → row by words ≡ Ok (Arch of) → ⊥
unfolding row
row_no_arch by of words is = no_row of (ranges_of by (words ∷ behind_commas words)) (verdict_or_none (behind_colon (behind_items words))) is

line_alike : (by on of : Architecture) (words : List Word) → line by words ≡ Ok (Arch of) → line on words ≡ Ok (Arch of)
unfolding line
line_alike by on of [] is = absurd (row_no_arch by of [] is)
line_alike by on of (word ∷ rest) is = elim (cases_Bool (is_the (codes "arch") word)) [
  | inl t ↦ let same = rw t at is in rw t same
  | inr a ↦ elim (cases_Bool (is_the (codes "default") word)) [
    | inl t ↦ let same = rw (a, t) at is in rw (a, t) same
    | inr d ↦ elim (cases_Bool (is_the (codes "others") word)) [
      | inl t ↦ let same = rw (a, d, t) at is in rw (a, d, t) same
      | inr o ↦ let rowed : row by (word ∷ rest) ≡ Ok (Arch of) = rw (a, d, o) at is in absurd (row_no_arch by of (word ∷ rest) rowed)
    ]
  ]
]

said_alike : (by on of : Architecture) (words : List Word) → said_by by words ≡ Ok (Arch of) → said_by on words ≡ Ok (Arch of)
unfolding said_by
said_alike by on of words is = elim (cases_Bool (begins_case words)) [
  | inl t ↦ let same = rw t at is in rw t same
  | inr f ↦ let same = rw f at is in rw f (line_alike by on of words same)
]

arch_alike : (by on of : Architecture) (words : List Word) → sentence_in by words ≡ Ok (Arch of) → sentence_in on words ≡ Ok (Arch of)
arch_alike by on of words is = ap (stopped_at words) (said_alike by on of words (stopped words (said_by by words) (Arch of) is))

-- ---- whoever reads the text finds these sentences

abbrev SaysNoArch : Said → Type 0
SaysNoArch (Arch by) = ⊥
SaysNoArch other = Unit {0}

no_arch : (it : Sentence) (what : Said) → said it ≡ what → SaysNoArch what → arch_in it ≡ None
no_arch (sentence.Arch by) what is free = absurd (subst SaysNoArch (sym is) free)
no_arch (sentence.Default value) what is free = refl
no_arch (sentence.Others value) what is free = refl
no_arch (sentence.Row ranges value) what is free = refl
no_arch (sentence.Case value words) what is free = refl
no_arch (sentence.Else value) what is free = refl

some_arch : (it : Sentence) (by : Architecture) → said it ≡ Arch by → arch_in it ≡ Some by
some_arch (sentence.Arch other) by is = let same : other ≡ by = cc in ap Some same
some_arch (sentence.Default value) by is = cc
some_arch (sentence.Others value) by is = cc
some_arch (sentence.Row ranges value) by is = cc
some_arch (sentence.Case value words) by is = cc
some_arch (sentence.Else value) by is = cc

still : (by : Architecture) (above : List Stated) (it : Stated) → reads_on above ≡ by → arch_in it.sentence ≡ None → reads_on (above ++ it ∷ []) ≡ by
still by [] it is none = rw none is
still by (first ∷ above) it is none = is

heard : (by : Architecture) (above : List Stated) (words : List Word) (text : List Stated) (all : List Said) → reads_on above ≡ by → AreSaid above words text [] → AreSentences by words all → All SaysNoArch all
    → saids text ≡ all
heard by above words [] [] on are sentences free = refl
heard by above words [] (it ∷ all) on are sentences free = absurd (nothing_said by it (sym (ap (λ l. sentence_in by (first_words l)) are) ∙ sentences.0))
heard by above words (first ∷ behind) [] on are sentences free =
    absurd (nothing_said (reads_on above) (said first.sentence) (sym (ap (λ l. sentence_in (reads_on above) (first_words l)) sentences) ∙ are.0.1))
heard by above words (first ∷ behind) (it ∷ all) on are sentences free =
    let both : Ok (said first.sentence) ≡ Ok it = sym are.0.1 ∙ ap (λ on_it. sentence_in on_it (first_words words)) on ∙ sentences.0 in
    let is : said first.sentence ≡ it = cc in
    let none = no_arch first.sentence it is (All-head SaysNoArch it all free) in
    let others = heard by (above ++ first ∷ []) _ behind all (still by above first on none) are.1 sentences.1 (All-tail SaysNoArch it all free) in
    (λ i. is i ∷ others i)

no_arch_of_row : (what : Said) → IsRow what → SaysNoArch what
no_arch_of_row (Arch by) row = absurd row
no_arch_of_row (Default value) row = tt
no_arch_of_row (Others value) row = tt
no_arch_of_row (Row ranges value) row = tt
no_arch_of_row (Case value words) row = tt
no_arch_of_row (Else value) row = tt

rows_free : (all : List Said) → All IsRow all → All SaysNoArch all
rows_free [] rows = All-nil SaysNoArch
rows_free (it ∷ all) rows = All-cons SaysNoArch it all (no_arch_of_row it (All-head IsRow it all rows)) (rows_free all (All-tail IsRow it all rows))

behind_free : (rows : List ConditionalRow) (groups : List (List Said)) → AreRows rows groups → All SaysNoArch (all_said groups)
behind_free rows groups are = All-cons SaysNoArch (Default refused) (together groups) tt (rows_free (together groups) (rows_rows rows groups are))

-- the first sentence says of which architecture the others are
heard_behind : (by : Architecture) (words : List Word) (text : List Stated) (all : List Said) → AreSaid [] words text [] → AreSentences by words (Arch by ∷ all) → All SaysNoArch all → saids text ≡ Arch by ∷ all
heard_behind by words [] all are sentences free = absurd (nothing_said by (Arch by) (sym (ap (λ l. sentence_in by (first_words l)) are) ∙ sentences.0))
heard_behind by words (first ∷ behind) all are sentences free =
    let both : Ok (said first.sentence) ≡ Ok (Arch by) = sym are.0.1 ∙ arch_alike by architecture.X86_64 by (first_words words) sentences.0 in
    let is : said first.sentence ≡ Arch by = cc in
    let some = some_arch first.sentence by is in
    let others = heard by (first ∷ []) _ behind all (rw some refl) are.1 sentences.1 free in
    (λ i. is i ∷ others i)

abbrev IsHeader : Architecture → Type 0
IsHeader by = ((by ≡ architecture.X86_64) × (header by ≡ [])) ⊎ (header by ≡ Arch by ∷ [])

header_is : (by : Architecture) → IsHeader by
header_is architecture.X86_64 = inl (refl, refl)
header_is architecture.X32 = inr refl
header_is architecture.I386 = inr refl
header_is architecture.Aarch64 = inr refl
header_is architecture.Arm = inr refl
header_is architecture.Riscv64 = inr refl
header_is architecture.Ppc64le = inr refl
header_is architecture.S390x = inr refl
header_is architecture.Loongarch64 = inr refl

-- the sentences of the text, where it is one of x86-64, or says of which architecture it is
pub data IsHeard (by : Architecture) (groups : List (List Said)) (text : List Stated) : Type 0 where
  of_native : by ≡ architecture.X86_64 → saids text ≡ all_said groups → IsHeard by groups text
  of_named : saids text ≡ Arch by ∷ all_said groups → IsHeard by groups text

heard_all : (by : Architecture) (words : List Word) (text : List Stated) (groups : List (List Said)) → All SaysNoArch (all_said groups) → AreSaid [] words text []
    → AreSentences by words (header by ++ all_said groups) → IsHeader by → IsHeard by groups text
heard_all by words text groups free are sentences (inl plain) =
    of_native plain.0
    (heard by [] words text (all_said groups) (sym plain.0) are (subst (λ (l : List Said). AreSentences by words (l ++ all_said groups)) plain.1 sentences) free)
heard_all by words text groups free are sentences (inr named) =
    of_named (heard_behind by words text (all_said groups) are (subst (λ (l : List Said). AreSentences by words (l ++ all_said groups)) named sentences) free)

-- and these are the rows
pub record AreHeard (by : Architecture) (rows : List ConditionalRow) (text : List Stated) : Type 0 where
  pub groups : List (List Said)
  pub rows_are : AreRows rows groups
  pub is : IsHeard by groups text

pub are_heard : (naming : Naming) (by : Architecture) (rows : List ConditionalRow) (text : List Stated) → All IsSayableRow rows → IsText (allow_text naming by rows) text → AreHeard (written_for by) rows text
are_heard naming by rows text all is =
    let said = sentences_are naming by rows all in
    record {
      groups = said.groups;
      rows_are = said.rows_are;
      is =
          heard_all (written_for by) (words_of_text (allow_text naming by rows)) text said.groups (behind_free rows said.groups said.rows_are) is said.are
          (header_is (written_for by));
    }
