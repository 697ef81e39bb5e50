-- The least policy allows the calls that it is to allow, and no others.
use Rattle.std.proofs.Common.{◌≡◌, ◌≤◌, ◌<◌, ◌+◌, ◌*◌, ◌^◌, ◌==◌, ◌∙◌, ap, arith, sym, refl, subst, inl, inr, ℕ, zero, suc, List, [], ◌∷◌, ◌++◌, length, map, if◌then◌else◌, nat_le, nat_lt, true, false, Option, Some, None}
use Rattle.std.specs.List.{All}
use Rattle.std.proofs.lemmas.Bool.{and_from, cases_Bool, cases_lt, eqb-true, eqb-false, le-leb, true≢false}
use Rattle.std.proofs.lemmas.List.{length-map}
use Rattle.std.proofs.lemmas.List.Elements.{All-nil, All-cons, All-head, All-tail}
use Rattle.std.proofs.lemmas.List.Sums.{sum_by-cons}
use Rattle.sk_insn.specs.declared.record.Record.{Record}
use Rattle.sk_insn.specs.Actions.{action_of, allow}
use Rattle.sk_filter.specs.Meaning.{meaning_of}
use Rattle.sk_names.specs.declared.architecture.Architecture.{Architecture}
use Rattle.sk_names.specs.declared.architecture.Architecture.TheVariants as architecture
use Rattle.sk_names.specs.Architectures.{audit_of}
use Rattle.sk_profile.specs.Means.{Gives}
use Rattle.sk_replay.specs.declared.call.Call.{Call}
use Rattle.sk_replay.specs.Logged.{RiseFrom, is_among, numbers_in}
use Rattle.sk_replay.proofs.Logging.{numbers_are_made}
use Rattle.sk_terms.specs.declared.choices.Choice.{Choice}
use Rattle.sk_terms.specs.declared.lines.Line.{Line}
use Rattle.sk_when.specs.declared.row.ConditionalRow.{ConditionalRow}
use Rattle.sk_policy.specs.Policies.{IsWhole}
use Rattle.sk_policy_text.specs.declared.sentence.Range.{Range}
use Rattle.sk_policy_text.specs.declared.sentence.Sentence.{Sentence}
use Rattle.sk_policy_text.specs.declared.sentence.Sentence.TheVariants as sentence
use Rattle.sk_policy_text.specs.declared.stated.Above.{Above}
use Rattle.sk_policy_text.specs.declared.stated.Stated.{Stated}
use Rattle.sk_policy_text.specs.PolicyFaults.{AreRight, IsRight, above_of}
use Rattle.sk_policy_text.specs.PolicyMade.{IsText, expectation_in, first_expectation, if_expectation, reads_on}
use Rattle.sk_policy_text.specs.PolicyOf.{AreNamed, AreOnce}
use Rattle.sk_policy_text.specs.PolicyRows.{Part, arch_in, architecture_of, default_in, default_of, is_of_x32, once, or_else, others_in, others_of, parts_at, parts_in, parts_of, sentences_of, stated_others, times}
use Rattle.sk_policy_text.specs.PolicySays.{RowSays, Says, SaysCases, SaysRow, unnamed}
use Rattle.sk_policy_text.specs.PolicySizes.{gap_bound, part_bound, parts_bound, row_bound}
use Rattle.sk_policy_text.specs.Sentences.{Said, Arch, Default, Others, Row, Case, Else}
use Rattle.sk_policy_text.specs.Views.{said}
use Rattle.sk_policy_text.specs.Words.{Word}
use Rattle.sk_policy_text.proofs.Ranging.{once_above, once_below, once_inside, times_cons}
use Rattle.sk_policy_text.proofs.Singling.{say_one}
use Rattle.sk_policy_when.specs.Again.{as_native}
use Rattle.sk_policy_when.specs.Allowing.{AllowingFits, AllowingIsPolicy, AllowingIsRight, AllowingLogs, AllowingMakesFilters, AllowingSays, IsAllowing, allowed_verdict, logged_calls, logged_verdict, row_verdict, written_for}
use Rattle.sk_policy_when.specs.Narrowing.{AreAllowedRows, Condition, IsLineOf, IsRowFor, allowed_rows, conditions_for, refused, term_of, terms_in, terms_of}
use Rattle.sk_policy_when.specs.Texts.{AreCondition, AreEnds, AreLines, AreRow, AreRows, IsSayableLine, IsSayableRow, IsSayableValue, together}
use Rattle.sk_policy_when.specs.Written.{HasSayable, IsSayable}
use Rattle.sk_policy_when.proofs.AllowingSentences.{IsHeard, all_said, are_heard, of_named, of_native}
use Rattle.sk_policy_when.proofs.Finding.{saids}
use Rattle.sk_policy_when.proofs.Narrowed.{IsFit, all_fit, line_holds}
use Rattle.sk_policy_when.proofs.Verdicts.{case_says, else_says}

-- ---- what one sentence is, by what it says

abbrev default_said : Said → Option ℕ
default_said (Default value) = Some value
default_said what = None

abbrev others_said : Said → Option ℕ
others_said (Others value) = Some value
others_said what = None

abbrev arch_said : Said → Option Architecture
arch_said (Arch by) = Some by
arch_said what = None

abbrev verdict_said : Said → Option ℕ
verdict_said (Arch by) = None
verdict_said (Default value) = Some value
verdict_said (Others value) = Some value
verdict_said (Row ranges value) = value
verdict_said (Case value words) = Some value
verdict_said (Else value) = Some value

abbrev parts_said : Said → ℕ → List Stated → List Part
parts_said (Row ranges value) line behind = parts_in ranges line value behind
parts_said what line behind = []

default_same : (it : Sentence) → default_in it ≡ default_said (said it)
default_same (sentence.Arch by) = refl
default_same (sentence.Default value) = refl
default_same (sentence.Others value) = refl
default_same (sentence.Row ranges value) = refl
default_same (sentence.Case value words) = refl
default_same (sentence.Else value) = refl

others_same : (it : Sentence) → others_in it ≡ others_said (said it)
others_same (sentence.Arch by) = refl
others_same (sentence.Default value) = refl
others_same (sentence.Others value) = refl
others_same (sentence.Row ranges value) = refl
others_same (sentence.Case value words) = refl
others_same (sentence.Else value) = refl

arch_same : (it : Sentence) → arch_in it ≡ arch_said (said it)
arch_same (sentence.Arch by) = refl
arch_same (sentence.Default value) = refl
arch_same (sentence.Others value) = refl
arch_same (sentence.Row ranges value) = refl
arch_same (sentence.Case value words) = refl
arch_same (sentence.Else value) = refl

expectation_same : (it : Sentence) → expectation_in it ≡ if_expectation (verdict_said (said it))
expectation_same (sentence.Arch by) = refl
expectation_same (sentence.Default value) = refl
expectation_same (sentence.Others value) = refl
expectation_same (sentence.Row ranges value) = refl
expectation_same (sentence.Case value words) = refl
expectation_same (sentence.Else value) = refl

parts_same : (it : Sentence) (line : ℕ) (behind : List Stated) → parts_at it line behind ≡ parts_said (said it) line behind
parts_same (sentence.Arch by) line behind = refl
parts_same (sentence.Default value) line behind = refl
parts_same (sentence.Others value) line behind = refl
parts_same (sentence.Row ranges value) line behind = refl
parts_same (sentence.Case value words) line behind = refl
parts_same (sentence.Else value) line behind = refl

-- ---- sentences that stand where they may

abbrev range_at : ℕ → Range
range_at nr = record { first = nr; last = nr }

right_row : (above : Above) (it : Sentence) (behind : List Sentence) (nr : ℕ) → said it ≡ Row (range_at nr ∷ []) (Some allow) → IsRight above it behind
right_row above (sentence.Arch by) behind nr is = cc
right_row above (sentence.Default value) behind nr is = cc
right_row above (sentence.Others value) behind nr is = cc
right_row above (sentence.Row ranges None) behind nr is = cc
right_row above (sentence.Row ranges (Some value)) behind nr is = (refl, tt)
right_row above (sentence.Case value words) behind nr is = cc
right_row above (sentence.Else value) behind nr is = cc

right_default : (above : Above) (it : Sentence) (behind : List Sentence) → said it ≡ Default refused → above.default ≡ false → IsRight above it behind
right_default above (sentence.Arch by) behind is free = cc
right_default above (sentence.Default value) behind is free = rw free (refl, tt)
right_default above (sentence.Others value) behind is free = cc
right_default above (sentence.Row ranges value) behind is free = cc
right_default above (sentence.Case value words) behind is free = cc
right_default above (sentence.Else value) behind is free = cc

right_arch : (it : Sentence) (behind : List Sentence) (by : Architecture) → said it ≡ Arch by → IsRight (above_of []) it behind
right_arch (sentence.Arch other_one) behind by is = (refl, tt)
right_arch (sentence.Default value) behind by is = cc
right_arch (sentence.Others value) behind by is = cc
right_arch (sentence.Row ranges value) behind by is = cc
right_arch (sentence.Case value words) behind by is = cc
right_arch (sentence.Else value) behind by is = cc

no_default : (it : Sentence) (by : Architecture) → said it ≡ Arch by → default_in it ≡ None
no_default it by is = default_same it ∙ ap default_said is

gap_most : (nr : ℕ) → gap_bound nr ≤ 6
gap_most nr = elim (cases_Bool (nat_lt 0x40000000 nr)) [
  | inl t ↦ rw t (omega arith)
  | inr f ↦ rw f (omega arith)
]

-- ---- the sentences of one row

-- a row with its verdict, or with a case and what else is said
data Shape (nr : ℕ) (conditions : List Condition) (all : List Said) : Type 0 where
  plain : conditions ≡ [] → all ≡ Row (range_at nr ∷ []) (Some allow) ∷ [] → Shape nr conditions all
  cased : (words : List Word) (line : Line) → 0 < length conditions → all ≡ Row (range_at nr ∷ []) None ∷ Case allow words ∷ Else refused ∷ [] → AreCondition words line.choices.items
      → terms_in line.choices.items ≡ map terms_of conditions → Shape nr conditions all

ends_are : (range : Range) (value : ℕ) (what : List Said) → AreEnds range [] (Some value) what → what ≡ Row (range ∷ []) (Some value) ∷ []
ends_are range value [] are = absurd are
ends_are range value (Row ranges verdict ∷ []) are = let one = are.0 in let other = are.1 in λ i. Row (one i) (other i) ∷ []
ends_are range value (Row ranges verdict ∷ other ∷ all) are = absurd are
ends_are range value (Arch by ∷ all) are = absurd are
ends_are range value (Default other ∷ all) are = absurd are
ends_are range value (Others other ∷ all) are = absurd are
ends_are range value (Case other words ∷ all) are = absurd are
ends_are range value (Else other ∷ all) are = absurd are

else_alone : (what : List Said) → AreLines [] (Some refused) what → what ≡ Else refused ∷ []
else_alone [] are = absurd are
else_alone (Else value ∷ []) are = let same : value ≡ refused = cc in ap (λ v. Else v ∷ []) same
else_alone (Else value ∷ other ∷ all) are = absurd are
else_alone (Arch by ∷ all) are = absurd are
else_alone (Default value ∷ all) are = absurd are
else_alone (Others value ∷ all) are = absurd are
else_alone (Row ranges value ∷ all) are = absurd are
else_alone (Case value words ∷ all) are = absurd are

-- a case, and what else is said
record HasCase (line : Line) (what : List Said) : Type 0 where
  words : List Word
  are : what ≡ Case allow words ∷ Else refused ∷ []
  condition : AreCondition words line.choices.items

case_first : (line : Line) (what : List Said) → line.value ≡ Some allow → AreLines (line ∷ []) (Some refused) what → HasCase line what
case_first line [] is are = absurd are
case_first line (Case value words ∷ all) is are =
    let same : value ≡ allow = cc in
    let rest = else_alone all are.1 in
    record { words = words; are = (λ i. Case (same i) words ∷ rest i); condition = are.0.1 }
case_first line (Arch by ∷ all) is are = absurd are.0
case_first line (Default value ∷ all) is are = absurd are.0
case_first line (Others value ∷ all) is are = absurd are.0
case_first line (Row ranges value ∷ all) is are = absurd are.0
case_first line (Else value ∷ all) is are = absurd are.0

cased_ends : (nr : ℕ) (conditions : List Condition) (choices : List Choice) (lines : List Line) (all : List Said) → 0 < length conditions → terms_in choices ≡ map terms_of conditions
    → IsLineOf choices lines → AreEnds (range_at nr) lines (Some refused) all → Shape nr conditions all
cased_ends nr conditions choices [] all some terms is are = absurd is
cased_ends nr conditions choices (line ∷ other ∷ lines) all some terms is are = absurd is
cased_ends nr conditions choices (line ∷ []) [] some terms is are = absurd are
cased_ends nr conditions choices (line ∷ []) (Row ranges verdict ∷ all) some terms is are =
    let range : ranges ≡ range_at nr ∷ [] = are.0 in
    let none : verdict ≡ None = are.1 in
    let one = case_first line all is.0 are.2 in
    let rest = one.are in
    cased one.words line some (λ i. Row (range i) (none i) ∷ rest i) one.condition (ap terms_in is.1 ∙ terms)
cased_ends nr conditions choices (line ∷ []) (Arch by ∷ all) some terms is are = absurd are
cased_ends nr conditions choices (line ∷ []) (Default value ∷ all) some terms is are = absurd are
cased_ends nr conditions choices (line ∷ []) (Others value ∷ all) some terms is are = absurd are
cased_ends nr conditions choices (line ∷ []) (Case value words ∷ all) some terms is are = absurd are
cased_ends nr conditions choices (line ∷ []) (Else value ∷ all) some terms is are = absurd are

-- the same of other numbers and another verdict
ends_of : (told : ConditionalRow) (nr : ℕ) (otherwise : ℕ) (all : List Said) → told.row.first ≡ nr → told.row.last ≡ nr → told.otherwise ≡ Some otherwise → AreRow told all
    → AreEnds (range_at nr) told.lines.items (Some otherwise) all
ends_of told nr otherwise all first last verdict are =
    subst (λ (o : Option ℕ). AreEnds (range_at nr) told.lines.items o all) verdict
    (subst (λ (range : Range). AreEnds range told.lines.items told.otherwise all) (λ i. record { first = first i; last = last i }) are)

shape : (nr : ℕ) (conditions : List Condition) (told : ConditionalRow) (all : List Said) → IsRowFor nr conditions told → AreRow told all → Shape nr conditions all
shape nr [] told all is are =
    plain refl
    (ends_are (range_at nr) allow all (subst (λ (lines : List Line). AreEnds (range_at nr) lines (Some allow) all) is.lines (ends_of told nr allow all is.first is.last is.otherwise are)))
shape nr (first ∷ conditions) told all is are =
    let row = is.2 in
    cased_ends nr (first ∷ conditions) is.0 told.lines.items all (omega arith) is.1 row.lines (ends_of told nr refused all row.first row.last row.otherwise are)

-- ---- a row of a text

abbrev part_of : ℕ → Option ℕ → ℕ → List Stated → Part
part_of nr verdict line behind = record { first = nr; last = nr; line = line; verdict = verdict; behind = behind }

row_parts : (nr : ℕ) (verdict : Option ℕ) (line : ℕ) (behind : List Stated) → parts_said (Row (range_at nr ∷ []) verdict) line behind ≡ part_of nr verdict line behind ∷ []
row_parts nr verdict line behind = let t = le-leb nr nr (omega arith) in rw t refl

parts_here : (it : Stated) (text : List Stated) (nr : ℕ) (verdict : Option ℕ) → said it.sentence ≡ Row (range_at nr ∷ []) verdict → parts_of (it ∷ text) ≡ part_of nr verdict it.line text ∷ parts_of text
parts_here it text nr verdict is =
    ap (λ l. l ++ parts_of text) (parts_same it.sentence it.line text ∙ ap (λ what. parts_said what it.line text) is ∙ row_parts nr verdict it.line text)

no_parts_here : (it : Stated) (text : List Stated) (what : Said) → said it.sentence ≡ what → ((line : ℕ) (behind : List Stated) → parts_said what line behind ≡ []) → parts_of (it ∷ text) ≡ parts_of text
no_parts_here it text what is none = ap (λ l. l ++ parts_of text) (parts_same it.sentence it.line text ∙ ap (λ w. parts_said w it.line text) is ∙ none it.line text)

others_here : (it : Stated) (text : List Stated) (what : Said) → said it.sentence ≡ what → others_said what ≡ None → stated_others (sentences_of (it ∷ text)) ≡ stated_others (sentences_of text)
others_here it text what is none = ap (λ one. or_else one (stated_others (sentences_of text))) (others_same it.sentence ∙ ap others_said is ∙ none)

unexpected_here : (it : Stated) (text : List Stated) (what : Said) → said it.sentence ≡ what → if_expectation (verdict_said what) ≡ None → first_expectation text ≡ None → first_expectation (it ∷ text) ≡ None
unexpected_here it text what is none rest =
    let here : expectation_in it.sentence ≡ None = expectation_same it.sentence ∙ ap (λ w. if_expectation (verdict_said w)) is ∙ none in rw here rest

-- what stands first in a text is a row, and behind it this is left
record Taken (nr : ℕ) (conditions : List Condition) (text left : List Stated) : Type 0 where
  part : Part
  parts : parts_of text ≡ part ∷ parts_of left
  first : part.first ≡ nr
  last : part.last ≡ nr
  says : (call : Record) → IsWhole call → SaysRow part.verdict (sentences_of part.behind) call (row_verdict conditions call)
  others : stated_others (sentences_of text) ≡ stated_others (sentences_of left)
  unexpected : first_expectation left ≡ None → first_expectation text ≡ None
  alone : conditions ≡ [] → part.verdict ≡ Some allow
  right : conditions ≡ [] → (above : List Sentence) → ((more : List Sentence) → AreRight more left) → AreRight above text

case_verdict : (first second : Sentence) (behind : List Sentence) (words : List Word) (line : Line) (conditions : List Condition) (call : Record) → IsWhole call → said first ≡ Case allow words
    → said second ≡ Else refused → AreCondition words line.choices.items → terms_in line.choices.items ≡ map terms_of conditions → SaysCases (first ∷ second ∷ behind) call (row_verdict conditions call)
case_verdict first second behind words line conditions call whole is other condition terms =
    let met = line_holds line conditions (as_native call) terms in
    let found =
    case_says first (second ∷ behind) call allow words line (Some (row_verdict conditions call)) whole is condition
    (λ t. ap (λ b. Some (if b then allow else refused)) (sym met ∙ t))
    (λ f. (refused, ap (λ b. Some (if b then allow else refused)) (sym met ∙ f), else_says second behind call refused other)) in
    let same : found.0 ≡ row_verdict conditions call = cc (found.1) in
    subst (λ (n : ℕ). SaysCases (first ∷ second ∷ behind) call n) same found.2

taken_plain : (nr : ℕ) (conditions : List Condition) (it : Stated) (left : List Stated) → conditions ≡ [] → said it.sentence ≡ Row (range_at nr ∷ []) (Some allow) → Taken nr conditions (it ∷ left) left
taken_plain nr conditions it left none is = record {
  part = part_of nr (Some allow) it.line left;
  parts = parts_here it left nr (Some allow) is;
  first = refl;
  last = refl;
  says = λ call whole. ap (λ c. row_verdict c call) none;
  others = others_here it left (Row (range_at nr ∷ []) (Some allow)) is refl;
  unexpected = unexpected_here it left (Row (range_at nr ∷ []) (Some allow)) is refl;
  alone = λ h. refl;
  right = λ h above rest. (right_row (above_of above) it.sentence (sentences_of left) nr is, rest (it.sentence ∷ above));
}

taken_cased : (nr : ℕ) (conditions : List Condition) (one two three : Stated) (left : List Stated) (words : List Word) (line : Line) → 0 < length conditions
    → said one.sentence ≡ Row (range_at nr ∷ []) None → said two.sentence ≡ Case allow words → said three.sentence ≡ Else refused → AreCondition words line.choices.items
    → terms_in line.choices.items ≡ map terms_of conditions → Taken nr conditions (one ∷ two ∷ three ∷ left) left
taken_cased nr conditions one two three left words line some first second third condition terms = record {
  part = part_of nr None one.line (two ∷ three ∷ left);
  parts =
      parts_here one (two ∷ three ∷ left) nr None first
      ∙ ap (λ l. part_of nr None one.line (two ∷ three ∷ left) ∷ l)
      (no_parts_here two (three ∷ left) (Case allow words) second (λ at behind. refl) ∙ no_parts_here three left (Else refused) third (λ at behind. refl));
  first = refl;
  last = refl;
  says = λ call whole. case_verdict two.sentence three.sentence (sentences_of left) words line conditions call whole second third condition terms;
  others =
      others_here one (two ∷ three ∷ left) (Row (range_at nr ∷ []) None) first refl
      ∙ others_here two (three ∷ left) (Case allow words) second refl
      ∙ others_here three left (Else refused) third refl;
  unexpected = λ rest.
      unexpected_here one (two ∷ three ∷ left) (Row (range_at nr ∷ []) None) first refl
      (unexpected_here two (three ∷ left) (Case allow words) second refl (unexpected_here three left (Else refused) third refl rest));
  alone = λ none. let nothing = ap length none in absurd (omega (arith, some, nothing));
  right = λ none. let nothing = ap length none in absurd (omega (arith, some, nothing));
}

-- ---- all rows of a text

module _ (conditions : ℕ → List Condition) where
  abbrev AreTaken : List ℕ → List Stated → Type 0
  AreTaken [] text = text ≡ []
  AreTaken (nr ∷ numbers) text = (left : List Stated) × Taken nr (conditions nr) text left × AreTaken numbers left

  one_taken : (nr : ℕ) (numbers : List ℕ) (all rest : List Said) (text : List Stated) → Shape nr (conditions nr) all → saids text ≡ all ++ rest
      → ((left : List Stated) → saids left ≡ rest → AreTaken numbers left) → AreTaken (nr ∷ numbers) text
  one_taken nr numbers all rest text (plain none is) are others = by_text text (are ∙ ap (λ l. l ++ rest) is)
    where
      by_text : (text : List Stated) → saids text ≡ Row (range_at nr ∷ []) (Some allow) ∷ rest → AreTaken (nr ∷ numbers) text
      by_text [] same = cc
      by_text (it ∷ left) same =
          let first : said it.sentence ≡ Row (range_at nr ∷ []) (Some allow) = cc in
          let behind : saids left ≡ rest = cc in
          (left, taken_plain nr (conditions nr) it left none first, others left behind)
  one_taken nr numbers all rest text (cased words line some is condition terms) are others = by_text text (are ∙ ap (λ l. l ++ rest) is)
    where
      by_text : (text : List Stated) → saids text ≡ Row (range_at nr ∷ []) None ∷ Case allow words ∷ Else refused ∷ rest → AreTaken (nr ∷ numbers) text
      by_text [] same = cc
      by_text (one ∷ []) same = cc
      by_text (one ∷ two ∷ []) same = cc
      by_text (one ∷ two ∷ three ∷ left) same =
          let first : said one.sentence ≡ Row (range_at nr ∷ []) None = cc in
          let second : said two.sentence ≡ Case allow words = cc in
          let third : said three.sentence ≡ Else refused = cc in
          let behind : saids left ≡ rest = cc in
          (left, taken_cased nr (conditions nr) one two three left words line some first second third condition terms, others left behind)

  all_taken : (numbers : List ℕ) (rows : List ConditionalRow) (groups : List (List Said)) (text : List Stated) → AreAllowedRows (map (λ nr. record { nr = nr; conditions = conditions nr }) numbers) rows
      → AreRows rows groups → saids text ≡ together groups → AreTaken numbers text
  all_taken [] [] [] [] are rows_are is = refl
  all_taken [] [] [] (it ∷ text) are rows_are is = cc
  all_taken [] [] (all ∷ groups) text are rows_are is = absurd rows_are
  all_taken [] (told ∷ rows) groups text are rows_are is = absurd are
  all_taken (nr ∷ numbers) [] groups text are rows_are is = absurd are
  all_taken (nr ∷ numbers) (told ∷ rows) [] text are rows_are is = absurd rows_are
  all_taken (nr ∷ numbers) (told ∷ rows) (all ∷ groups) text are rows_are is =
      one_taken nr numbers all (together groups) text (shape nr (conditions nr) told all are.0 rows_are.0) is (λ left same. all_taken numbers rows groups left are.1 rows_are.1 same)

  times_taken : (nr at : ℕ) (text left : List Stated) (one : Taken nr (conditions nr) text left) → times (parts_of text) at ≡ once at one.part + times (parts_of left) at
  times_taken nr at text left one = ap (λ l. times l at) one.parts ∙ times_cons one.part (parts_of left) at

  none_before : (from at : ℕ) (numbers : List ℕ) (text : List Stated) → AreTaken numbers text → RiseFrom from numbers → at < from → times (parts_of text) at ≡ 0
  none_before from at [] text are rise low = ap (λ l. times (parts_of l) at) are
  none_before from at (nr ∷ numbers) text are rise low =
      let one = are.1 in
      let here = times_taken nr at text are.0 one in
      let none = once_below at one.part (omega (arith, low, rise.0, one.first)) in
      let others = none_before (nr + 1) at numbers are.0 are.2 rise.1 (omega (arith, low, rise.0)) in
      omega (arith, here, none, others)

  at_most_once : (from at : ℕ) (numbers : List ℕ) (text : List Stated) → AreTaken numbers text → RiseFrom from numbers → times (parts_of text) at ≤ 1
  at_most_once from at [] text are rise = let none = ap (λ l. times (parts_of l) at) are in omega (arith, none)
  at_most_once from at (nr ∷ numbers) text are rise =
      let one = are.1 in
      let here = times_taken nr at text are.0 one in
      elim (cases_lt nr at) [
        | inl above ↦
            let none = once_above at one.part (omega (arith, above, one.last)) in
            let others = at_most_once (nr + 1) at numbers are.0 are.2 rise.1 in
            omega (arith, here, none, others)
        | inr le ↦
            let others = none_before (nr + 1) at numbers are.0 are.2 rise.1 (omega (arith, le)) in
            elim (cases_lt at nr) [
              | inl below ↦ let none = once_below at one.part (omega (arith, below, one.first)) in omega (arith, here, none, others)
              | inr ge ↦ let once_here = once_inside at one.part (omega (arith, ge, one.first)) (omega (arith, le, one.last)) in omega (arith, here, once_here, others)
            ]
      ]

  none_there : (at : ℕ) (numbers : List ℕ) (text : List Stated) → AreTaken numbers text → is_among at numbers ≡ false → times (parts_of text) at ≡ 0
  none_there at [] text are none = ap (λ l. times (parts_of l) at) are
  none_there at (nr ∷ numbers) text are none = elim (cases_Bool (nr == at)) [
    | inl t ↦ let no_one = rw t at none in absurd (true≢false no_one)
    | inr f ↦
        let one = are.1 in
        let rest = rw f at none in
        let here = times_taken nr at text are.0 one in
        let others = none_there at numbers are.0 are.2 rest in
        elim (cases_lt at nr) [
          | inl below ↦ let no_one = once_below at one.part (omega (arith, below, one.first)) in omega (arith, here, no_one, others)
          | inr ge ↦
              let above : nr < at = greater nr at ge f in
              let no_one = once_above at one.part (omega (arith, above, one.last)) in omega (arith, here, no_one, others)
        ]
  ]
    where
      greater : (nr at : ℕ) → nr ≤ at → (nr == at) ≡ false → nr < at
      greater nr at ge f = elim (cases_lt nr at) [
        | inl less ↦ less
        | inr le ↦ absurd (eqb-false nr at f (omega (arith, ge, le)))
      ]

  row_says : (call : Record) (numbers : List ℕ) (text : List Stated) → IsWhole call → AreTaken numbers text → is_among call.nr numbers ≡ true → RowSays (parts_of text) call (row_verdict (conditions call.nr) call)
  row_says call [] text whole are there = absurd (true≢false (sym there))
  row_says call (nr ∷ numbers) text whole are there = elim (cases_Bool (nr == call.nr)) [
    | inl t ↦
        let one = are.1 in
        let same = eqb-true nr call.nr t in
        subst (λ (parts : List Part). RowSays parts call (row_verdict (conditions call.nr) call)) (sym one.parts)
        (record {
          part = one.part;
          there = (zero, omega arith, refl);
          has =
              and_from (nat_le one.part.first call.nr) (nat_le call.nr one.part.last) (le-leb one.part.first call.nr (omega (arith, same, one.first)))
              (le-leb call.nr one.part.last (omega (arith, same, one.last)));
          says = subst (λ (n : ℕ). SaysRow one.part.verdict (sentences_of one.part.behind) call (row_verdict (conditions n) call)) same (one.says call whole);
        })
    | inr f ↦
        let one = are.1 in
        let rest = rw f at there in
        let says = row_says call numbers are.0 whole are.2 rest in
        subst (λ (parts : List Part). RowSays parts call (row_verdict (conditions call.nr) call)) (sym one.parts)
        (record { part = says.part; there = (suc says.there.0, omega (arith, says.there.1), says.there.2); has = says.has; says = says.says })
  ]

  rows_no_others : (numbers : List ℕ) (text : List Stated) → AreTaken numbers text → stated_others (sentences_of text) ≡ None
  rows_no_others [] text are = ap (λ l. stated_others (sentences_of l)) are
  rows_no_others (nr ∷ numbers) text are = are.1.others ∙ rows_no_others numbers are.0 are.2

  rows_unexpected : (numbers : List ℕ) (text : List Stated) → AreTaken numbers text → first_expectation text ≡ None
  rows_unexpected [] text are = ap first_expectation are
  rows_unexpected (nr ∷ numbers) text are = are.1.unexpected (rows_unexpected numbers are.0 are.2)

  right_rows : ((nr : ℕ) → conditions nr ≡ []) → (above : List Sentence) (numbers : List ℕ) (text : List Stated) → AreTaken numbers text → AreRight above text
  right_rows none above [] text are = subst (AreRight above) (sym are) tt
  right_rows none above (nr ∷ numbers) text are = are.1.right (none nr) above (λ more. right_rows none more numbers are.0 are.2)

  rows_fit : ((nr : ℕ) → conditions nr ≡ []) → (numbers : List ℕ) (text : List Stated) → AreTaken numbers text → parts_bound (parts_of text) ≤ 12 * length numbers
  rows_fit none [] text are = let bound = ap (λ l. parts_bound (parts_of l)) are in omega (arith, bound)
  rows_fit none (nr ∷ numbers) text are =
      let one = are.1 in
      let here : parts_bound (parts_of text) ≡ part_bound one.part + parts_bound (parts_of are.0) = ap parts_bound one.parts ∙ sum_by-cons part_bound one.part (parts_of are.0) in
      let alone : row_bound one.part.verdict (sentences_of one.part.behind) ≡ 0 = ap (λ v. row_bound v (sentences_of one.part.behind)) (one.alone (none nr)) in
      let most = gap_most one.part.first in
      let others = rows_fit none numbers are.0 are.2 in
      omega (arith, here, alone, most, others)

  -- ---- the whole text

  -- the rows stand behind what is said of all calls
  record IsStated (by : Architecture) (numbers : List ℕ) (text : List Stated) : Type 0 where
    rows : List Stated
    taken : AreTaken numbers rows
    parts : parts_of text ≡ parts_of rows
    default : default_of (sentences_of text) ≡ Some refused
    others : stated_others (sentences_of text) ≡ None
    on : architecture_of (sentences_of text) ≡ by
    right : ((nr : ℕ) → conditions nr ≡ []) → AreRight [] text
    unexpected : first_expectation text ≡ None

  -- the line of all other calls, and the rows behind it
  record IsBehind (numbers : List ℕ) (above : List Sentence) (text : List Stated) : Type 0 where
    rows : List Stated
    taken : AreTaken numbers rows
    parts : parts_of text ≡ parts_of rows
    default : default_of (sentences_of text) ≡ Some refused
    others : stated_others (sentences_of text) ≡ None
    right : ((nr : ℕ) → conditions nr ≡ []) → AreRight above text
    unexpected : first_expectation text ≡ None
    plain : architecture_of (sentences_of text) ≡ architecture.X86_64

  behind : (numbers : List ℕ) (above : List Sentence) (groups : List (List Said)) (text : List Stated) → (above_of above).default ≡ false
      → ((left : List Stated) → saids left ≡ together groups → AreTaken numbers left) → saids text ≡ all_said groups → IsBehind numbers above text
  behind numbers above groups [] free rows is = cc
  behind numbers above groups (it ∷ text) free rows is =
      let first : said it.sentence ≡ Default refused = cc in
      let same : saids text ≡ together groups = cc in
      let are = rows text same in
      let none : expectation_in it.sentence ≡ None = expectation_same it.sentence ∙ ap (λ what. if_expectation (verdict_said what)) first in
      let no_arch : arch_in it.sentence ≡ None = arch_same it.sentence ∙ ap arch_said first in
      record {
        rows = text;
        taken = are;
        parts = ap (λ l. l ++ parts_of text) (parts_same it.sentence it.line text ∙ ap (λ what. parts_said what it.line text) first);
        default = ap (λ one. or_else one (default_of (sentences_of text))) (default_same it.sentence ∙ ap default_said first);
        others = ap (λ one. or_else one (stated_others (sentences_of text))) (others_same it.sentence ∙ ap others_said first) ∙ rows_no_others numbers text are;
        right = λ each. (right_default (above_of above) it.sentence (sentences_of text) first free, right_rows each (it.sentence ∷ above) numbers text are);
        unexpected = rw none (rows_unexpected numbers text are);
        plain = rw no_arch refl;
      }

  stated : (by : Architecture) (numbers : List ℕ) (groups : List (List Said)) (text : List Stated) → ((left : List Stated) → saids left ≡ together groups → AreTaken numbers left)
      → IsHeard by groups text → IsStated by numbers text
  stated by numbers groups text rows (of_native is_native is) =
      let all = behind numbers [] groups text refl rows is in
      record { rows = all.rows; taken = all.taken; parts = all.parts; default = all.default; others = all.others; on = all.plain ∙ sym is_native; right = all.right; unexpected = all.unexpected }
  stated by numbers groups [] rows (of_named is) = cc
  stated by numbers groups (it ∷ text) rows (of_named is) =
      let first : said it.sentence ≡ Arch by = cc in
      let rest : saids text ≡ all_said groups = cc in
      let no_one = no_default it.sentence by first in
      let free : (above_of (it.sentence ∷ [])).default ≡ false = rw no_one refl in
      let all = behind numbers (it.sentence ∷ []) groups text free rows rest in
      let none : expectation_in it.sentence ≡ None = expectation_same it.sentence ∙ ap (λ what. if_expectation (verdict_said what)) first in
      let some : arch_in it.sentence ≡ Some by = arch_same it.sentence ∙ ap arch_said first in
      record {
        rows = all.rows;
        taken = all.taken;
        parts = ap (λ l. l ++ parts_of text) (parts_same it.sentence it.line text ∙ ap (λ what. parts_said what it.line text) first) ∙ all.parts;
        default = ap (λ one. or_else one (default_of (sentences_of text))) no_one ∙ all.default;
        others = ap (λ one. or_else one (stated_others (sentences_of text))) (others_same it.sentence ∙ ap others_said first) ∙ all.others;
        on = rw some refl;
        right = λ each. (right_arch it.sentence (sentences_of text) by first, all.right each);
        unexpected = rw none all.unexpected;
      }

  -- ---- what it says

  -- the verdict on a call, by the conditions on those with its number
  abbrev verdict_by : Architecture → List ℕ → Record → ℕ
  verdict_by by numbers call = if is_among call.nr numbers then row_verdict (conditions call.nr) call else if is_of_x32 by call.nr then 0x80000000 else refused

  says_it : (by : Architecture) (numbers : List ℕ) (text : List Stated) (call : Record) → IsWhole call → IsStated by numbers text → Says text call (verdict_by by numbers call)
  says_it by numbers text call whole it = elim (cases_Bool (is_among call.nr numbers)) [
    | inl t ↦ rw t (inl (subst (λ (parts : List Part). RowSays parts call (row_verdict (conditions call.nr) call)) (sym it.parts) (row_says call numbers it.rows whole it.taken t)))
    | inr f ↦ rw f (inr (record { none = ap (λ parts. times parts call.nr) it.parts ∙ none_there call.nr numbers it.rows it.taken f; says = unnamed_is }))
  ]
    where
      unnamed_is : unnamed text call.nr ≡ Some (if is_of_x32 by call.nr then 0x80000000 else refused)
      unnamed_is = let on = it.on in let default = it.default in let others = it.others in elim (cases_Bool (is_of_x32 by call.nr)) [
        | inl t ↦ rw (on, t, others) refl
        | inr f ↦ rw (on, f, default) refl
      ]

  once_stated : (by : Architecture) (numbers : List ℕ) (text : List Stated) → RiseFrom 0 numbers → IsStated by numbers text → AreOnce text
  once_stated by numbers text rise it nr = subst (λ (parts : List Part). times parts nr ≤ 1) (sym it.parts) (at_most_once 0 nr numbers it.rows it.taken rise)

  named_stated : (by : Architecture) (numbers : List ℕ) (text : List Stated) → IsStated by numbers text → AreNamed text
  named_stated by numbers text it nr small none = let default = it.default in elim (cases_Bool (is_of_x32 (architecture_of (sentences_of text)) nr)) [
    | inl t ↦ rw t (λ h. cc)
    | inr f ↦ rw (f, default) (λ h. cc)
  ]

-- ---- the rows can be said

allowed_sayable : IsSayableValue (Some allow)
unfolding action_of
allowed_sayable = (λ h. cc, λ h. cc)

refused_sayable : IsSayableValue (Some refused)
unfolding action_of
refused_sayable = (λ h. cc, λ h. omega arith)

terms_sayable : (it : Condition) (numbers : List ℕ) → it.argument < 6 → it.mask < 2 ^ 64 → All (λ n. n < 2 ^ 64) numbers → All IsSayable (map (term_of it.argument it.mask) numbers)
terms_sayable it [] there mask small = All-nil IsSayable
terms_sayable it (n ∷ numbers) there mask small =
    let first = All-head (λ n. n < 2 ^ 64) n numbers small in
    All-cons IsSayable (term_of it.argument it.mask n) (map (term_of it.argument it.mask) numbers) (record { there = there; mask = mask; first = first; last = first })
    (terms_sayable it numbers there mask (All-tail (λ n. n < 2 ^ 64) n numbers small))

choices_sayable : (conditions : List Condition) (choices : List Choice) → All IsFit conditions → terms_in choices ≡ map terms_of conditions → All HasSayable choices
choices_sayable [] [] fit are = All-nil HasSayable
choices_sayable [] (choice ∷ choices) fit are = cc
choices_sayable (it ∷ conditions) [] fit are = cc
choices_sayable (it ∷ conditions) (choice ∷ choices) fit are =
    let terms : choice.terms.items ≡ terms_of it = cc in
    let rest : terms_in choices ≡ map terms_of conditions = cc in
    let first = All-head IsFit it conditions fit in
    let some = first.some in
    let length_is : length choice.terms.items ≡ length it.numbers = ap length terms ∙ length-map it.numbers (term_of it.argument it.mask) in
    All-cons HasSayable choice choices
    (record {
      some = omega (arith, some, length_is);
      terms = subst (All IsSayable) (sym terms) (terms_sayable it it.numbers first.argument first.mask first.numbers);
    })
    (choices_sayable conditions choices (All-tail IsFit it conditions fit) rest)

lines_sayable : (conditions : List Condition) (choices : List Choice) (lines : List Line) → All IsFit conditions → terms_in choices ≡ map terms_of conditions → IsLineOf choices lines → All IsSayableLine lines
lines_sayable conditions choices [] fit terms is = absurd is
lines_sayable conditions choices (line ∷ []) fit terms is =
    All-cons IsSayableLine line []
    (record {
      value = subst IsSayableValue (sym is.0) allowed_sayable;
      choices = choices_sayable conditions line.choices.items fit (ap terms_in is.1 ∙ terms);
    })
    (All-nil IsSayableLine)
lines_sayable conditions choices (line ∷ other ∷ lines) fit terms is = absurd is

row_sayable : (nr : ℕ) (conditions : List Condition) (told : ConditionalRow) → nr < 2 ^ 32 → All IsFit conditions → IsRowFor nr conditions told → IsSayableRow told
row_sayable nr [] told small fit is =
    let first = is.first in
    let last = is.last in
    record {
      rising = omega (arith, first, last);
      fits = omega (arith, last, small);
      lines = subst (All IsSayableLine) (sym is.lines) (All-nil IsSayableLine);
      otherwise = subst IsSayableValue (sym is.otherwise) allowed_sayable;
    }
row_sayable nr (it ∷ conditions) told small fit is =
    let row = is.2 in
    let first = row.first in
    let last = row.last in
    record {
      rising = omega (arith, first, last);
      fits = omega (arith, last, small);
      lines = lines_sayable (it ∷ conditions) is.0 told.lines.items fit is.1 row.lines;
      otherwise = subst IsSayableValue (sym row.otherwise) refused_sayable;
    }

rows_sayable : (narrowed : List ℕ) (calls : List Call) (numbers : List ℕ) (rows : List ConditionalRow) → All (λ nr. nr < 2 ^ 32) numbers → AreAllowedRows (allowed_rows numbers narrowed calls) rows
    → All IsSayableRow rows
rows_sayable narrowed calls [] [] small are = All-nil IsSayableRow
rows_sayable narrowed calls [] (told ∷ rows) small are = absurd are
rows_sayable narrowed calls (nr ∷ numbers) [] small are = absurd are
rows_sayable narrowed calls (nr ∷ numbers) (told ∷ rows) small are =
    All-cons IsSayableRow told rows
    (row_sayable nr (conditions_for narrowed calls nr) told (All-head (λ n. n < 2 ^ 32) nr numbers small) (all_fit narrowed calls nr) are.0)
    (rows_sayable narrowed calls numbers rows (All-tail (λ n. n < 2 ^ 32) nr numbers small) are.1)

-- ---- the laws

all_stated : (by : Architecture) (numbers narrowed : List ℕ) (calls : List Call) (bytes : List ℕ) (text : List Stated) → IsAllowing by numbers narrowed calls bytes → IsText bytes text
    → IsStated (conditions_for narrowed calls) (written_for by) numbers text
all_stated by numbers narrowed calls bytes text it is =
    let heard = are_heard it.naming by it.rows text (rows_sayable narrowed calls numbers it.rows it.rising.1 it.are) (subst (λ (l : List ℕ). IsText l text) it.is is) in
    stated (conditions_for narrowed calls) (written_for by) numbers heard.groups text
    (λ left same. all_taken (conditions_for narrowed calls) numbers it.rows heard.groups left it.are heard.rows_are same) heard.is

pub allowing_says : AllowingSays
allowing_says by numbers narrowed calls bytes text it is call whole =
    says_it (conditions_for narrowed calls) (written_for by) numbers text call whole (all_stated by numbers narrowed calls bytes text it is)

pub allowing_is_policy : AllowingIsPolicy
allowing_is_policy by numbers narrowed calls bytes text it is =
    let all = all_stated by numbers narrowed calls bytes text it is in
    record {
      once = once_stated (conditions_for narrowed calls) (written_for by) numbers text it.rising.0 all;
      named = named_stated (conditions_for narrowed calls) (written_for by) numbers text all;
      unexpected = all.unexpected;
    }

pub allowing_is_right : AllowingIsRight
allowing_is_right by numbers calls bytes text it is = (all_stated by numbers [] calls bytes text it is).right (λ nr. refl)

pub allowing_fits : AllowingFits
allowing_fits by numbers calls bytes text it is few =
    let all = all_stated by numbers [] calls bytes text it is in
    let rows = rows_fit (conditions_for [] calls) (λ nr. refl) numbers all.rows all.taken in
    let same : parts_bound (parts_of text) ≡ parts_bound (parts_of all.rows) = ap parts_bound all.parts in
    omega (arith, rows, same, few)

-- ---- the filter that is made of it

pub allowing_makes_filters : AllowingMakesFilters
allowing_makes_filters by numbers narrowed calls bytes image it made =
    let text = made.0 in
    let filter = made.3 in
    let all = all_stated by numbers narrowed calls bytes text it made.1 in
    let on : reads_on text ≡ written_for by = all.on in
    let end : others_of (sentences_of text) ≡ 0x80000000 = let others = all.others in rw others refl in
    record {
      insns = filter.insns;
      written = filter.written;
      valid = filter.valid;
      answers = λ call whole is.
          let gets = filter.means call whole (is ∙ sym (ap audit_of on)) in
          let one =
          say_one text call gets.value (allowed_verdict (written_for by) numbers narrowed calls call) whole filter.once gets.says
          (says_it (conditions_for narrowed calls) (written_for by) numbers text call whole all) in
          subst (λ (value : ℕ). Gives value (meaning_of filter.insns call)) one gets.gives;
      others = λ call small is. subst (λ (value : ℕ). Gives value (meaning_of filter.insns call)) end (filter.others call small (λ same. is (same ∙ ap audit_of on)));
    }

pub allowing_logs : AllowingLogs
allowing_logs by logs narrowed bytes image it made =
    let filter = allowing_makes_filters by (numbers_in by logs) narrowed (logged_calls by logs) bytes image it made in
    record {
      insns = filter.insns;
      written = filter.written;
      valid = filter.valid;
      answers = λ call whole is. subst (λ (value : ℕ). Gives value (meaning_of filter.insns call)) (same_verdict call) (filter.answers call whole is);
      others = filter.others;
    }
  where
    same_verdict : (call : Record) → allowed_verdict (written_for by) (numbers_in by logs) narrowed (logged_calls by logs) call ≡ logged_verdict by logs narrowed call
    same_verdict call =
        ap (λ b. if b then row_verdict (conditions_for narrowed (logged_calls by logs) call.nr) call else if is_of_x32 (written_for by) call.nr then 0x80000000 else refused)
        (numbers_are_made by logs call.nr)
