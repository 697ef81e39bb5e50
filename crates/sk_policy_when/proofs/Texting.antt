-- The text of rows is read as sentences that are these rows.
use Rattle.std.proofs.Common.{◌≡◌, ◌≢◌, ◌<◌, ◌≤◌, ◌^◌, ◌==◌, not, ◌∙◌, ap, sym, refl, subst, inl, inr, ℕ, List, [], ◌∷◌, ◌++◌, length, map, codes, flat_map, if◌then◌else◌, Bool, true, false, Option, Some, None, Ok, append_assoc}
use Rattle.std.specs.List.{All, before_first}
use Rattle.std.proofs.lemmas.Bool.{and_parts, cases_Bool, false≢true}
use Rattle.std.proofs.lemmas.List.{append-nil}
use Rattle.std.proofs.lemmas.List.Elements.{All-nil, All-head, All-tail, All-append}
use Rattle.sk_text.specs.Lines.{lines_of}
use Rattle.sk_text.proofs.Cuts.{before_first-no}
use Rattle.sk_filter.specs.VerdictText.{verdict_text}
use Rattle.sk_engines.specs.Output.{line}
use Rattle.sk_survey.specs.Answers.{answers_of}
use Rattle.sk_names.specs.declared.architecture.Architecture.{Architecture}
use Rattle.sk_show.specs.Text.{name_text, numbers_text}
use Rattle.sk_terms.specs.declared.lines.Line.{Line}
use Rattle.sk_terms.specs.Known.{known_by}
use Rattle.sk_terms.specs.Text.{condition_text}
use Rattle.sk_when.specs.declared.names.Names.{Names}
use Rattle.sk_when.specs.declared.row.ConditionalRow.{ConditionalRow}
use Rattle.sk_when.specs.Filling.{filled_behind}
use Rattle.sk_when.specs.Naming.{constants_of}
use Rattle.sk_when.specs.WhenText.{before_text, ends_text, line_text, row_text, value_text, when_text}
use Rattle.sk_policy_text.specs.declared.word.Place.{Place}
use Rattle.sk_policy_text.specs.declared.word.Place.TheVariants as place
use Rattle.sk_policy_text.specs.Words.{Word, begins_blank, begins_joined, begun, goes_on, is_blank, placed, words_behind, words_of_line, words_of_text}
use Rattle.sk_policy_text.specs.ConditionsTokens.{token_of}
use Rattle.sk_policy_text.specs.Sentences.{Said, Row, Case, Else, begins, sentence_in}
use Rattle.sk_policy_text.proofs.Numbering.{names_word, numbers_word}
use Rattle.sk_policy_text.proofs.Telling.{cases_come_back, elses_come_back}
use Rattle.sk_policy_text.proofs.Whole.{heads_come_back, rows_come_back}
use Rattle.sk_policy_when.specs.Written.{words_in}
use Rattle.sk_policy_when.specs.Texts.{AreCondition, AreEnds, AreLines, AreRow, AreRows, AreSentences, IsLine, IsSayableLine, IsSayableRow, IsSayableValue, TextsComeBack, together}
use Rattle.sk_policy_when.proofs.Cutting.{AreClean, both_clean}
use Rattle.sk_policy_when.proofs.Broken.{FillsLines, fills_lines, is_solid}
use Rattle.sk_policy_when.proofs.Splitting.{blank_line, line_ends, words_split}
use Rattle.sk_policy_when.proofs.Choosing.{IsWritten, choices_condition}
use Rattle.sk_policy_when.proofs.Solid.{choices_solid}
use Rattle.sk_policy_when.proofs.Sentencing.{BeginsWith, NoComma, ReadsAs, clean_line, each_sentence, read_both, read_none, read_one, texts_placed}
use Rattle.sk_policy_when.proofs.Starting.{starts_no_blank, starts_word, verdict_starts, word_starts}

abbrev texts_of : List Word → List (List ℕ)
texts_of words = map (λ (word : Word). word.text) words

-- ---- sentences in one line

nothing : (more : List Word) → texts_of more ≡ [] → more ≡ []
nothing [] h = refl
nothing (word ∷ more) h = cc

pub read_line : (by : Architecture) (text : List ℕ) (where_ : Place) (it : Said) (Are : List Said → Type 0) → AreClean text → BeginsWith (words_of_line text)
    → (if begins_blank text then place.Case else place.Row) ≡ where_ → begins where_ ≡ true
    → ((number : ℕ) → sentence_in by (placed number where_ (words_of_line text)) ≡ Ok it) → Are (it ∷ []) → ReadsAs by (text ++ (10 ∷ [])) Are
read_line by text where_ it Are clean starts is begins_it reads are =
    read_one by (text ++ (10 ∷ [])) text [] where_ (λ number more. it) Are
    (λ rest. ap lines_of (append_assoc text (10 ∷ []) rest) ∙ line_ends text rest clean)
    starts is begins_it (All-nil (λ other. begins_joined (words_of_line other) ≡ true))
    (subst (All NoComma) (sym (append-nil (words_of_line text))) (clean_line text clean))
    (λ number more texts. (
      ap (λ l. sentence_in by (placed number where_ (words_of_line text) ++ l)) (nothing more texts)
          ∙ ap (sentence_in by) (append-nil (placed number where_ (words_of_line text)))
          ∙ reads number,
      are,
    ))

-- ---- rows

pub row_line : (by : Architecture) (first last value : ℕ) → first ≤ last → last < 2 ^ 32 → IsSayableValue (Some value)
    → ReadsAs by (numbers_text first last ++ (codes " " ++ (name_text by first last ++ (codes " " ++ (verdict_text value ++ (10 ∷ []))))))
    (AreEnds (record { first = first; last = last }) [] (Some value))
row_line by first last value le small named =
    let numbers = word_starts (numbers_text first last) (numbers_word first last le small) in
    let name = word_starts (name_text by first last) (names_word by first last) in
    let verdict = verdict_starts value in
    let behind = codes " " ++ (name_text by first last ++ (codes " " ++ verdict_text value)) in
    subst (λ (l : List ℕ). ReadsAs by l (AreEnds (record { first = first; last = last }) [] (Some value)))
    (append_assoc (numbers_text first last) behind (10 ∷ []) ∙ ap (λ l. numbers_text first last ++ (32 ∷ l)) (append_assoc (name_text by first last) (32 ∷ verdict_text value) (10 ∷ [])))
    (read_line by (numbers_text first last ++ behind) place.Row (Row (record { first = first; last = last } ∷ []) (Some value)) (AreEnds (record { first = first; last = last }) [] (Some value))
    (both_clean (numbers_text first last) behind numbers.clean (both_clean (name_text by first last) (32 ∷ verdict_text value) name.clean verdict.clean))
    (starts_word (numbers_text first last) behind numbers)
    (ap (λ b. if b then place.Case else place.Row) (starts_no_blank (numbers_text first last) behind numbers))
    refl
    (λ number. rows_come_back by first last value number le small named.0 named.1)
    (refl, refl))

abbrev IsHead : ℕ → ℕ → List Said → Type 0
IsHead first last said = said ≡ Row (record { first = first; last = last } ∷ []) None ∷ []

head_line : (by : Architecture) (first last : ℕ) → first ≤ last → last < 2 ^ 32
    → ReadsAs by ((numbers_text first last ++ (codes " " ++ name_text by first last)) ++ (10 ∷ [])) (IsHead first last)
head_line by first last le small =
    let numbers = word_starts (numbers_text first last) (numbers_word first last le small) in
    let name = word_starts (name_text by first last) (names_word by first last) in
    let behind = codes " " ++ name_text by first last in
    read_line by (numbers_text first last ++ behind) place.Row (Row (record { first = first; last = last } ∷ []) None) (IsHead first last)
    (both_clean (numbers_text first last) behind numbers.clean name.clean)
    (starts_word (numbers_text first last) behind numbers)
    (ap (λ b. if b then place.Case else place.Row) (starts_no_blank (numbers_text first last) behind numbers))
    refl
    (λ number. heads_come_back by first last number le small)
    refl

-- ---- lines

blanks_start : (text : List ℕ) → BeginsWith (words_of_line text) → BeginsWith (words_of_line (codes "  " ++ text))
blanks_start text it = subst BeginsWith (sym (blank_line (32 ∷ text) ∙ blank_line text)) it

else_line : (by : Architecture) (answers : Option (List ℕ)) (otherwise : Option ℕ) → IsSayableValue otherwise
    → ReadsAs by (codes "  " ++ (value_text answers otherwise ++ line (codes " else"))) (AreLines [] otherwise)
unfolding is_blank
else_line by answers None named = absurd named
else_line by answers (Some value) named =
    let verdict = verdict_starts value in
    subst (λ (l : List ℕ). ReadsAs by (codes "  " ++ l) (AreLines [] (Some value))) (append_assoc (verdict_text value) (codes " else") (10 ∷ []))
    (read_line by (codes "  " ++ (verdict_text value ++ codes " else")) place.Case (Else value) (AreLines [] (Some value))
    (both_clean (verdict_text value) (codes " else") verdict.clean refl)
    (blanks_start (verdict_text value ++ codes " else") (starts_word (verdict_text value) (codes " else") verdict))
    refl refl
    (λ number. elses_come_back by value number named.0 named.1)
    refl)

some_word : (byte : ℕ) (more rest : List ℕ) → words_behind (byte ∷ more) rest ≡ [] → ⊥
some_word byte more [] h = cc
some_word byte more (next ∷ rest) h = elim (cases_Bool (goes_on (byte ∷ more) next)) [
  | inl t ↦ some_word byte (more ++ next ∷ []) rest (rw t at h)
  | inr f ↦ let none : (byte ∷ more) ∷ words_behind (begun next) rest ≡ [] = rw f at h in cc
]

solid_some : (text : List ℕ) → is_solid text ≡ true → words_of_line text ≢ []
unfolding begun goes_on
solid_some [] h = absurd (false≢true h)
solid_some (byte ∷ text) h =
    let parts = and_parts (not (is_blank byte)) (not (byte == 35)) h in
    let begun_it : words_behind [] (byte ∷ before_first (λ b. b == 35) text) ≡ words_behind (byte ∷ []) (before_first (λ b. b == 35) text) = let f = not_true (is_blank byte) parts.0 in rw f refl in
    λ none. some_word byte [] (before_first (λ b. b == 35) text) (sym begun_it ∙ sym (ap (words_behind []) (before_first-no (λ b. b == 35) byte text (not_true (byte == 35) parts.1))) ∙ none)
  where
    not_true : (b : Bool) → not b ≡ true → b ≡ false
    not_true true h = absurd (false≢true h)
    not_true false h = refl

tokens_are : (words : List Word) → map (λ (word : Word). token_of word.text) words ≡ map token_of (texts_of words)
tokens_are [] = refl
tokens_are (word ∷ words) = ap (λ l. token_of word.text ∷ l) (tokens_are words)

texts_both : (one other : List Word) → texts_of (one ++ other) ≡ texts_of one ++ texts_of other
texts_both [] other = refl
texts_both (word ∷ one) other = ap (λ l. word.text ∷ l) (texts_both one other)

-- one sentence, which is a line
abbrev IsOne : Line → List Said → Type 0
IsOne it said = (one : Said) × (said ≡ one ∷ []) × IsLine it one

module _ (by : Architecture) (it : Line) (value column : ℕ) (text : List ℕ) (is : it.value ≡ Some value) (named : IsSayableValue (Some value)) (written : IsWritten text it.choices.items) (solid : is_solid text ≡ true) where
  abbrev front : List ℕ
  front = codes "  " ++ (verdict_text value ++ codes " where ")

  abbrev before_space : List ℕ
  before_space = codes "  " ++ (verdict_text value ++ codes " where")

  fills : FillsLines text (filled_behind column text)
  fills = fills_lines column text written.clean

  whole : front ++ fills.first ≡ codes "  " ++ (verdict_text value ++ (codes " where " ++ fills.first))
  whole = ap (λ l. codes "  " ++ l) (append_assoc (verdict_text value) (codes " where ") fills.first)

  words_are : words_of_line (front ++ fills.first) ++ words_in fills.others ≡ words_of_line before_space ++ words_of_line text
  words_are =
      ap (λ l. words_of_line l ++ words_in fills.others) (whole ∙ ap (λ l. codes "  " ++ l) (sym (append_assoc (verdict_text value) (codes " where") (32 ∷ fills.first))))
      ∙ ap (λ l. l ++ words_in fills.others)
      (words_split before_space fills.first (both_clean (verdict_text value) (codes " where") (verdict_starts value).clean refl) ∙ ap (λ l. words_of_line before_space ++ l) (blank_line fills.first))
      ∙ append_assoc (words_of_line before_space) (words_of_line fills.first) (words_in fills.others)
      ∙ ap (λ l. words_of_line before_space ++ l) fills.words

  commas : All NoComma (words_of_line (front ++ fills.first) ++ words_in fills.others)
  commas =
      subst (All NoComma) (sym words_are)
      (All-append NoComma (words_of_line before_space) (words_of_line text)
      (clean_line before_space (both_clean (verdict_text value) (codes " where") (verdict_starts value).clean refl)) (clean_line text written.clean))

  kept : ℕ → List Word → List Word
  kept number more = placed number place.Behind (words_of_line fills.first) ++ more

  condition_is : (number : ℕ) (more : List Word) → texts_of more ≡ words_in fills.others → AreCondition (kept number more) it.choices.items
  unfolding kept
  condition_is number more texts = record {
    written = written.condition.written;
    are =
        tokens_are (placed number place.Behind (words_of_line fills.first) ++ more)
        ∙ ap (map token_of)
        (texts_both (placed number place.Behind (words_of_line fills.first)) more
        ∙ ap (λ l. l ++ texts_of more) (texts_placed number place.Behind (words_of_line fills.first))
        ∙ ap (λ l. words_of_line fills.first ++ l) texts
        ∙ fills.words)
        ∙ written.condition.words;
    means = written.condition.means;
  }

  case_line : ReadsAs by (front ++ (filled_behind column text ++ (10 ∷ []))) (IsOne it)
  unfolding kept is_blank
  case_line =
      read_one by (front ++ (filled_behind column text ++ (10 ∷ []))) (front ++ fills.first) fills.others place.Case (λ number more. Case value (kept number more)) (IsOne it)
      (λ rest.
      ap lines_of (append_assoc front (filled_behind column text ++ (10 ∷ [])) rest ∙ ap (λ l. front ++ l) (append_assoc (filled_behind column text) (10 ∷ []) rest))
      ∙ fills.lines front rest (both_clean (verdict_text value) (codes " where ") (verdict_starts value).clean refl))
      (blanks_start ((verdict_text value ++ codes " where ") ++ fills.first)
      (subst (λ (l : List ℕ). BeginsWith (words_of_line l)) (sym (append_assoc (verdict_text value) (codes " where ") fills.first)) (starts_word (verdict_text value) (codes " where " ++ fills.first) (verdict_starts value))))
      refl refl fills.go_on commas
      (λ number more texts. (
        ap (λ l. sentence_in by (placed number place.Case (words_of_line l) ++ more)) whole
            ∙ cases_come_back by value number fills.first more named.0 named.1 (solid_some fills.first (fills.solid solid)),
        (Case value (kept number more), refl, (is, condition_is number more texts)),
      ))

line_read : (by : Architecture) (call : Option ℕ) (answers : Option (List ℕ)) (it : Line) → IsSayableLine it → ReadsAs by (line_text call answers it) (IsOne it)
unfolding line_text before_text
line_read by call answers it sayable = by_value it.value refl sayable.value
  where
    by_value : (value : Option ℕ) → it.value ≡ value → IsSayableValue value
        → ReadsAs by (before_text answers value ++ line (filled_behind (length (before_text answers value)) (condition_text call it))) (IsOne it)
    by_value None is named = absurd named
    by_value (Some value) is named =
        case_line by it value (length (before_text answers (Some value))) (condition_text call it) is named
        (choices_condition (known_by call it.choices.items) it.choices.items sayable.choices)
        (choices_solid (known_by call it.choices.items) it.choices.items)

lines_read : (by : Architecture) (call : Option ℕ) (answers : Option (List ℕ)) (otherwise : Option ℕ) (lines : List Line) → All IsSayableLine lines → IsSayableValue otherwise
    → ReadsAs by (flat_map (line_text call answers) lines ++ (codes "  " ++ (value_text answers otherwise ++ line (codes " else")))) (AreLines lines otherwise)
lines_read by call answers otherwise [] all named = else_line by answers otherwise named
lines_read by call answers otherwise (it ∷ lines) all named =
    let last = codes "  " ++ (value_text answers otherwise ++ line (codes " else")) in
    subst (λ (l : List ℕ). ReadsAs by l (AreLines (it ∷ lines) otherwise)) (sym (append_assoc (line_text call answers it) (flat_map (line_text call answers) lines) last))
    (read_both by (line_text call answers it) (flat_map (line_text call answers) lines ++ last) (IsOne it) (AreLines lines otherwise) (AreLines (it ∷ lines) otherwise)
    (λ said others one are. subst (λ (l : List Said). AreLines (it ∷ lines) otherwise (l ++ others)) (sym one.1) (one.2, are))
    (line_read by call answers it (All-head IsSayableLine it lines all))
    (lines_read by call answers otherwise lines (All-tail IsSayableLine it lines all) named))

-- ---- all rows

ends_read : (by : Architecture) (call : Option ℕ) (answers : Option (List ℕ)) (first last : ℕ) (otherwise : Option ℕ) (lines : List Line)
    → first ≤ last → last < 2 ^ 32 → All IsSayableLine lines → IsSayableValue otherwise
    → ReadsAs by (numbers_text first last ++ (codes " " ++ (name_text by first last ++ ends_text call answers otherwise lines))) (AreEnds (record { first = first; last = last }) lines otherwise)
ends_read by call answers first last None [] le small all named = absurd named
ends_read by call answers first last (Some value) [] le small all named = row_line by first last value le small named
ends_read by call answers first last otherwise (it ∷ lines) le small all named =
    let behind = flat_map (line_text call answers) (it ∷ lines) ++ (codes "  " ++ (value_text answers otherwise ++ line (codes " else"))) in
    subst (λ (l : List ℕ). ReadsAs by l (AreEnds (record { first = first; last = last }) (it ∷ lines) otherwise))
    (append_assoc (numbers_text first last ++ (codes " " ++ name_text by first last)) (10 ∷ []) behind
    ∙ append_assoc (numbers_text first last) (codes " " ++ name_text by first last) (10 ∷ behind))
    (read_both by ((numbers_text first last ++ (codes " " ++ name_text by first last)) ++ (10 ∷ [])) behind (IsHead first last) (AreLines (it ∷ lines) otherwise)
    (AreEnds (record { first = first; last = last }) (it ∷ lines) otherwise)
    (λ said others head are. subst (λ (l : List Said). AreEnds (record { first = first; last = last }) (it ∷ lines) otherwise (l ++ others)) (sym head) (refl, refl, are))
    (head_line by first last le small)
    (lines_read by call answers otherwise (it ∷ lines) all named))

row_read : (names : Names) (told : ConditionalRow) → IsSayableRow told → ReadsAs names.architecture (row_text names told) (AreRow told)
unfolding row_text
row_read names told it =
    ends_read names.architecture (constants_of names told.row.first told.row.last) (answers_of told.row.answers) told.row.first told.row.last told.otherwise told.lines.items
    it.rising it.fits it.lines it.otherwise

abbrev pub AreAll : List ConditionalRow → List Said → Type 0
AreAll rows said = (groups : List (List Said)) × (said ≡ together groups) × AreRows rows groups

pub rows_read : (names : Names) (rows : List ConditionalRow) → All IsSayableRow rows → ReadsAs names.architecture (when_text names rows) (AreAll rows)
rows_read names [] all = read_none names.architecture (AreAll []) ([], refl, tt)
rows_read names (told ∷ rows) all =
    read_both names.architecture (row_text names told) (when_text names rows) (AreRow told) (AreAll rows) (AreAll (told ∷ rows))
    (λ said others one are. (said ∷ are.0, ap (λ l. said ++ l) are.1, (one, are.2)))
    (row_read names told (All-head IsSayableRow told rows all))
    (rows_read names rows (All-tail IsSayableRow told rows all))

pub texts_come_back : TextsComeBack
texts_come_back names rows all =
    let read = rows_read names rows all [] 1 (All-nil (λ (word : Word). NoComma word.text)) in
    let each = each_sentence names.architecture read.words read.said read.each in
    record {
      said = read.are.0;
      are =
          subst (λ (l : List Said). AreSentences names.architecture (words_of_text (when_text names rows)) l) read.are.1
          (subst (λ (l : List Word). AreSentences names.architecture l read.said) (sym (ap words_of_text (sym (append-nil (when_text names rows))) ∙ read.lines [])) each);
      rows_are = read.are.2;
    }
