-- The text of rows that are told of filters says of each call the filters' verdict.
use Rattle.std.proofs.Common.{◌≡◌, ◌+◌, ◌≤◌, ◌^◌, nat_le, ◌∙◌, ap, arith, sym, refl, subst, inl, inr, ℕ, zero, suc, List, [], ◌∷◌, ◌++◌, map, true, false, Option, Some, None}
use Rattle.std.specs.Prelude.{Contains}
use Rattle.std.specs.List.{All}
use Rattle.std.proofs.lemmas.Bool.{and_from, cases_Bool, false≢true, le-leb, leb-true, leb-false}
use Rattle.std.proofs.lemmas.List.Elements.{All-head, All-tail}
use Rattle.sk_insn.specs.declared.insn.Insn.{Insn}
use Rattle.sk_insn.specs.declared.record.Record.{Record}
use Rattle.sk_filter.specs.Verdict.{verdict_of}
use Rattle.sk_survey.specs.Answers.{answers_of}
use Rattle.sk_survey.specs.Surveys.{Tell}
use Rattle.sk_names.specs.declared.architecture.Architecture.TheVariants as architecture
use Rattle.sk_terms.specs.declared.lines.Line.{Line}
use Rattle.sk_terms.specs.Lines.{meets_line, told_by}
use Rattle.sk_when.specs.declared.row.ConditionalRow.{ConditionalRow}
use Rattle.sk_when.specs.Lines.{IsTold, IsVerdict, or_else}
use Rattle.sk_when.specs.Naming.{names_of}
use Rattle.sk_when.specs.Telling.{row_told}
use Rattle.sk_when.specs.WhenText.{when_text}
use Rattle.sk_policy.specs.Policies.{IsWhole}
use Rattle.sk_policy_text.specs.declared.sentence.Range.{Range}
use Rattle.sk_policy_text.specs.declared.sentence.Sentence.{Sentence}
use Rattle.sk_policy_text.specs.declared.sentence.Sentence.TheVariants as sentence
use Rattle.sk_policy_text.specs.declared.stated.Stated.{Stated}
use Rattle.sk_policy_text.specs.declared.word.Word.{Word as CodeWord}
use Rattle.sk_policy_text.specs.Words.{Word, words_of_text}
use Rattle.sk_policy_text.specs.ConditionsTokens.{token_of, tokens_of}
use Rattle.sk_policy_text.specs.Sentences.{Said, Arch, Default, Others, Row, Case, Else, line}
use Rattle.sk_policy_text.specs.Views.{all_seen, said}
use Rattle.sk_policy_text.specs.PolicyRows.{Part, parts_at, parts_in, parts_of, sentences_of}
use Rattle.sk_policy_text.specs.PolicySays.{RowSays, SaysCases, SaysRow}
use Rattle.sk_policy_when.specs.Again.{as_native}
use Rattle.sk_policy_when.specs.Texts.{AreCondition, AreLines, AreRow, AreRows, IsSayableRow, IsSayableValue, TextsSayVerdicts, range_of, together}
use Rattle.sk_policy_when.proofs.Again.{same_choices}
use Rattle.sk_policy_when.proofs.Texting.{texts_come_back}
use Rattle.sk_policy_when.proofs.Finding.{IsHeaded, headed, rows_rows, saids, same_said}

-- ---- what cases say

tokens_seen : (words : List CodeWord) → tokens_of words ≡ map (λ (word : Word). token_of word.text) (all_seen words)
tokens_seen [] = refl
tokens_seen (word ∷ words) = ap (λ l. token_of word.text.now ∷ l) (tokens_seen words)

-- a value, and that sentences say it
abbrev pub SaysValue : List Sentence → Record → Option ℕ → Type 0
SaysValue sentences call value = (said_value : ℕ) × (value ≡ Some said_value) × SaysCases sentences call said_value

pub else_says : (it : Sentence) (behind : List Sentence) (call : Record) (value : ℕ) → said it ≡ Else value → SaysCases (it ∷ behind) call value
else_says (sentence.Else other) behind call value is = let same : other ≡ value = cc in sym same
else_says (sentence.Arch by) behind call value is = cc
else_says (sentence.Default other) behind call value is = cc
else_says (sentence.Others other) behind call value is = cc
else_says (sentence.Row ranges other) behind call value is = cc
else_says (sentence.Case other words) behind call value is = cc

pub case_says : (it : Sentence) (behind : List Sentence) (call : Record) (value : ℕ) (words : List Word) (line : Line) (told : Option ℕ) → IsWhole call → said it ≡ Case value words
    → AreCondition words line.choices.items → (meets_line line (as_native call) ≡ true → told ≡ Some value)
    → (meets_line line (as_native call) ≡ false → SaysValue behind call told) → SaysValue (it ∷ behind) call told
case_says (sentence.Case other code) behind call value words line told whole is condition held failed =
    let same : other ≡ value = cc in
    let seen : all_seen code.now ≡ words = cc in
    let tokens = tokens_seen code.now ∙ ap (map (λ (word : Word). token_of word.text)) seen ∙ condition.are in
    let means = condition.means call whole ∙ same_choices line.choices.items call in
    elim (cases_Bool (meets_line line (as_native call))) [
      | inl met ↦ (value, held met, (condition.written, tokens, λ h. sym same, λ h. absurd (false≢true (sym h ∙ means ∙ met))))
      | inr unmet ↦
          let more = failed unmet in
          (more.0, more.1, (condition.written, tokens, λ h. absurd (false≢true (sym unmet ∙ sym means ∙ h)), λ h. more.2))
    ]
case_says (sentence.Else other) behind call value words line told whole is condition held failed = cc
case_says (sentence.Arch by) behind call value words line told whole is condition held failed = cc
case_says (sentence.Default other) behind call value words line told whole is condition held failed = cc
case_says (sentence.Others other) behind call value words line told whole is condition held failed = cc
case_says (sentence.Row ranges other) behind call value words line told whole is condition held failed = cc

lines_say : (lines : List Line) (otherwise : Option ℕ) (more rest : List Said) (behind : List Stated) (call : Record) (told : Option ℕ) → IsWhole call → AreLines lines otherwise more
    → saids behind ≡ more ++ rest → or_else (told_by lines (as_native call)) otherwise ≡ told ∷ [] → SaysValue (sentences_of behind) call told
lines_say [] otherwise [] rest behind call told whole are is one = absurd are
lines_say [] otherwise (Else value ∷ []) rest [] call told whole are is one = cc
lines_say [] otherwise (Else value ∷ []) rest (it ∷ behind) call told whole are is one =
    let first : said it.sentence ≡ Else value = cc in
    let same : otherwise ≡ told = cc in
    (value, sym same ∙ are, else_says it.sentence (sentences_of behind) call value first)
lines_say [] otherwise (Else value ∷ other ∷ more) rest behind call told whole are is one = absurd are
lines_say [] otherwise (Arch by ∷ more) rest behind call told whole are is one = absurd are
lines_say [] otherwise (Default value ∷ more) rest behind call told whole are is one = absurd are
lines_say [] otherwise (Others value ∷ more) rest behind call told whole are is one = absurd are
lines_say [] otherwise (Row ranges value ∷ more) rest behind call told whole are is one = absurd are
lines_say [] otherwise (Case value words ∷ more) rest behind call told whole are is one = absurd are
lines_say (line ∷ lines) otherwise [] rest behind call told whole are is one = absurd are
lines_say (line ∷ lines) otherwise (Case value words ∷ more) rest [] call told whole are is one = cc
lines_say (line ∷ lines) otherwise (Case value words ∷ more) rest (it ∷ behind) call told whole are is one =
    let first : said it.sentence ≡ Case value words = cc in
    let others : saids behind ≡ more ++ rest = cc in
    case_says it.sentence (sentences_of behind) call value words line told whole first are.0.1
    (λ met. let same : line.value ∷ told_by lines (as_native call) ≡ told ∷ [] = rw met at one in let is_it : line.value ≡ told = cc in sym is_it ∙ are.0.0)
    (λ unmet. lines_say lines otherwise more rest behind call told whole are.1 others (rw unmet at one))
lines_say (line ∷ lines) otherwise (Arch by ∷ more) rest behind call told whole are is one = absurd are.0
lines_say (line ∷ lines) otherwise (Default value ∷ more) rest behind call told whole are is one = absurd are.0
lines_say (line ∷ lines) otherwise (Others value ∷ more) rest behind call told whole are is one = absurd are.0
lines_say (line ∷ lines) otherwise (Row ranges value ∷ more) rest behind call told whole are is one = absurd are.0
lines_say (line ∷ lines) otherwise (Else value ∷ more) rest behind call told whole are is one = absurd are.0

-- ---- what rows say

behind_others : (front parts : List Part) (it : Part) → Contains parts it → Contains (front ++ parts) it
behind_others [] parts it there = there
behind_others (first ∷ front) parts it there = let more = behind_others front parts it there in (suc more.0, omega (arith, more.1), more.2)

pub later : (it : Stated) (text : List Stated) (call : Record) (value : ℕ) → RowSays (parts_of text) call value → RowSays (parts_of (it ∷ text)) call value
later it text call value says =
    record { part = says.part; there = behind_others (parts_at it.sentence it.line text) (parts_of text) says.part says.there; has = says.has; says = says.says }

-- the sentences behind some others
record IsBehind (text : List Stated) (rest : List Said) (call : Record) (value : ℕ) : Type 0 where
  left : List Stated
  are : saids left ≡ rest
  says : RowSays (parts_of left) call value → RowSays (parts_of text) call value

behind_them : (front rest : List Said) (text : List Stated) (call : Record) (value : ℕ) → saids text ≡ front ++ rest → IsBehind text rest call value
behind_them [] rest text call value is = record { left = text; are = is; says = λ h. h }
behind_them (first ∷ front) rest [] call value is = cc
behind_them (first ∷ front) rest (it ∷ text) call value is =
    let others : saids text ≡ front ++ rest = cc in
    let more = behind_them front rest text call value others in
    record { left = more.left; are = more.are; says = λ h. later it text call value (more.says h) }

pub part_says : (it : Stated) (text : List Stated) (range : Range) (verdict : Option ℕ) (call : Record) (value : ℕ) → said it.sentence ≡ Row (range ∷ []) verdict
    → range.first ≤ call.nr → call.nr ≤ range.last → SaysRow verdict (sentences_of text) call value → RowSays (parts_of (it ∷ text)) call value
part_says it text range verdict call value is low high says = by_sentence it.sentence is
  where
    by_sentence : (one : Sentence) → said one ≡ Row (range ∷ []) verdict → RowSays (parts_at one it.line text ++ parts_of text) call value
    by_sentence (sentence.Row ranges other) same =
        let ranges_are : ranges.items ≡ range ∷ [] = cc in
        let verdict_is : other ≡ verdict = cc in
        let rising = le-leb range.first range.last (omega (arith, low, high)) in
        let part : Part = record { first = range.first; last = range.last; line = it.line; verdict = verdict; behind = text } in
        let parts : parts_in ranges.items it.line other text ≡ part ∷ [] = ap (λ l. parts_in l it.line other text) ranges_are ∙ ap (λ v. parts_in (range ∷ []) it.line v text) verdict_is ∙ rw rising refl in
        rw parts (record {
          part = part;
          there = (zero, omega arith, refl);
          has = and_from (nat_le range.first call.nr) (nat_le call.nr range.last) (le-leb range.first call.nr low) (le-leb call.nr range.last high);
          says = says;
        })
    by_sentence (sentence.Arch by) same = cc
    by_sentence (sentence.Default other) same = cc
    by_sentence (sentence.Others other) same = cc
    by_sentence (sentence.Case other words) same = cc
    by_sentence (sentence.Else other) same = cc

-- what a row says of its calls is their verdict
row_verdict : (lines : List Line) (otherwise verdict : Option ℕ) (more rest : List Said) (text : List Stated) (call : Record) (told : Option ℕ) (answers : Option (List ℕ)) (value : ℕ) → IsWhole call
    → (lines ≡ [] → verdict ≡ otherwise) → ((it : Line) (others : List Line) → lines ≡ it ∷ others → (verdict ≡ None) × AreLines lines otherwise more)
    → saids text ≡ more ++ rest → or_else (told_by lines (as_native call)) otherwise ≡ told ∷ [] → IsSayableValue otherwise → IsVerdict answers value told
    → SaysRow verdict (sentences_of text) call value
row_verdict [] None verdict more rest text call told answers value whole alone lines is one named right = absurd named
row_verdict [] (Some other) verdict more rest text call told answers value whole alone lines is one named right =
    let same : told ≡ Some other = cc in
    let right_value : other ≡ value = subst (IsVerdict answers value) same right in
    subst (λ (v : Option ℕ). SaysRow v (sentences_of text) call value) (sym (alone refl)) (sym right_value)
row_verdict (it ∷ others) otherwise verdict more rest text call told answers value whole alone lines is one named right =
    let parts = lines it others refl in
    let said_it = lines_say (it ∷ others) otherwise more rest text call told whole parts.1 is one in
    let right_value : said_it.0 ≡ value = subst (IsVerdict answers value) said_it.1 right in
    subst (λ (v : Option ℕ). SaysRow v (sentences_of text) call value) (sym parts.0) (subst (λ (n : ℕ). SaysCases (sentences_of text) call n) right_value said_it.2)

row_says : (programs : List (List Insn)) (told : ConditionalRow) (all rest : List Said) (text : List Stated) (call : Record) → IsWhole call → IsTold programs told → IsSayableValue told.otherwise → AreRow told all
    → saids text ≡ all ++ rest → told.row.first ≤ call.nr → call.nr ≤ told.row.last → RowSays (parts_of text) call (verdict_of programs (as_native call))
row_says programs told all rest text call whole told_it named are is low high = by_text text (is ∙ ap (λ l. l ++ rest) head.are)
  where
    head : IsHeaded (range_of told) told.lines.items told.otherwise all
    head = headed (range_of told) told.lines.items told.otherwise all are

    by_text : (text : List Stated) → saids text ≡ (Row (range_of told ∷ []) head.verdict ∷ head.more) ++ rest → RowSays (parts_of text) call (verdict_of programs (as_native call))
    by_text [] same = cc
    by_text (it ∷ text) same =
        let first : said it.sentence ≡ Row (range_of told ∷ []) head.verdict = cc in
        let behind : saids text ≡ head.more ++ rest = cc in
        let one = told_it (as_native call) (refl, (low, high)) in
        part_says it text (range_of told) head.verdict call (verdict_of programs (as_native call)) first low high
        (row_verdict told.lines.items told.otherwise head.verdict head.more rest text call one.0 (answers_of told.row.answers) (verdict_of programs (as_native call)) whole head.alone head.lines_are behind one.1 named one.2)

rows_say : (programs : List (List Insn)) (from : ℕ) (rows : List ConditionalRow) (groups : List (List Said)) (text : List Stated) (call : Record) → IsWhole call
    → Tell programs from (2 ^ 32) (map row_told rows) → All (IsTold programs) rows → All IsSayableRow rows → AreRows rows groups → saids text ≡ together groups → from ≤ call.nr
    → RowSays (parts_of text) call (verdict_of programs (as_native call))
rows_say programs from [] groups text call whole tell told sayable are is low = absurd (let high = whole.is_call.number in omega (arith, tell, low, high))
rows_say programs from (it ∷ rows) [] text call whole tell told sayable are is low = absurd are
rows_say programs from (it ∷ rows) (all ∷ groups) text call whole tell told sayable are is low =
    let first : it.row.first ≤ call.nr = omega (arith, tell.0, low) in
    elim (cases_Bool (nat_le call.nr it.row.last)) [
      | inl inside ↦
          row_says programs it all (together groups) text call whole (All-head (IsTold programs) it rows told) (All-head IsSayableRow it rows sayable).otherwise are.0 is first (leb-true call.nr it.row.last inside)
      | inr above ↦
          let past = leb-false call.nr it.row.last above in
          let behind = behind_them all (together groups) text call (verdict_of programs (as_native call)) is in
          behind.says
          (rows_say programs (it.row.last + 1) rows groups behind.left call whole tell.4 (All-tail (IsTold programs) it rows told) (All-tail IsSayableRow it rows sayable) are.1 behind.are (omega (arith, past)))
    ]

pub texts_say_verdicts : TextsSayVerdicts
texts_say_verdicts naming programs is_spent rows text told sayable is call whole =
    let come = texts_come_back (names_of naming architecture.X86_64) rows sayable in
    let same = same_said [] (words_of_text (when_text (names_of naming architecture.X86_64) rows)) text (together come.said) refl is come.are (rows_rows rows come.said come.rows_are) in
    inl (rows_say programs 0 rows come.said text call whole told.rows told.told sayable come.rows_are same (omega arith))
