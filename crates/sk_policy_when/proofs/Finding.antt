-- Whoever reads the text of rows finds their sentences.
use Rattle.std.proofs.Common.{◌≡◌, ◌∙◌, ap, sym, refl, subst, ℕ, List, [], ◌∷◌, ◌++◌, map, Option, None, Ok}
use Rattle.std.specs.List.{All}
use Rattle.std.proofs.lemmas.List.Elements.{All-nil, All-cons, All-head, All-tail, All-append}
use Rattle.sk_names.specs.declared.architecture.Architecture.{Architecture}
use Rattle.sk_names.specs.declared.architecture.Architecture.TheVariants as architecture
use Rattle.sk_terms.specs.declared.lines.Line.{Line}
use Rattle.sk_when.specs.declared.row.ConditionalRow.{ConditionalRow}
use Rattle.sk_policy_text.specs.declared.sentence.Range.{Range}
use Rattle.sk_policy_text.specs.declared.sentence.Sentence.{Sentence}
use Rattle.sk_policy_text.specs.declared.sentence.Sentence.TheVariants as sentence
use Rattle.sk_policy_text.specs.declared.stated.Stated.{Stated}
use Rattle.sk_policy_text.specs.Words.{Word}
use Rattle.sk_policy_text.specs.Sentences.{Said, Arch, Default, Others, Row, Case, Else, item, line, row, said_by, sentence_in}
use Rattle.sk_policy_text.specs.Views.{said}
use Rattle.sk_policy_text.specs.PolicyRows.{arch_in}
use Rattle.sk_policy_text.specs.PolicyMade.{AreSaid, first_words, reads_on}
use Rattle.sk_policy_when.specs.Texts.{AreEnds, AreLines, AreRows, AreSentences, range_of, together}

-- ---- whoever reads the text finds these sentences

abbrev pub saids : List Stated → List Said
saids text = map (λ (it : Stated). said it.sentence) text

pub nothing_said : (by : Architecture) (it : Said) → sentence_in by [] ≡ Ok it → ⊥
unfolding said_by line row item
nothing_said by it h = cc

abbrev pub IsRow : Said → Type 0
IsRow (Arch by) = ⊥
IsRow (Default value) = ⊥
IsRow (Others value) = ⊥
IsRow other = Unit {0}

pub no_arch : (it : Sentence) (what : Said) → said it ≡ what → IsRow what → arch_in it ≡ None
no_arch (sentence.Arch by) what is row = absurd (subst IsRow (sym is) row)
no_arch (sentence.Default value) what is row = refl
no_arch (sentence.Others value) what is row = refl
no_arch (sentence.Row ranges value) what is row = refl
no_arch (sentence.Case value words) what is row = refl
no_arch (sentence.Else value) what is row = refl

reads_on_still : (above : List Stated) (it : Stated) → reads_on above ≡ architecture.X86_64 → arch_in it.sentence ≡ None → reads_on (above ++ it ∷ []) ≡ architecture.X86_64
reads_on_still [] it is none = rw none refl
reads_on_still (first ∷ above) it is none = is

pub same_said : (above : List Stated) (words : List Word) (text : List Stated) (all : List Said) → reads_on above ≡ architecture.X86_64 → AreSaid above words text [] → AreSentences architecture.X86_64 words all
    → All IsRow all → saids text ≡ all
same_said above words [] [] on are sentences rows = refl
same_said above words [] (it ∷ all) on are sentences rows = absurd (nothing_said architecture.X86_64 it (sym (ap (λ l. sentence_in architecture.X86_64 (first_words l)) are) ∙ sentences.0))
same_said above words (first ∷ behind) [] on are sentences rows =
    absurd (nothing_said (reads_on above) (said first.sentence) (sym (ap (λ l. sentence_in (reads_on above) (first_words l)) sentences) ∙ are.0.1))
same_said above words (first ∷ behind) (it ∷ all) on are sentences rows =
    let both : Ok (said first.sentence) ≡ Ok it = sym are.0.1 ∙ ap (λ by. sentence_in by (first_words words)) on ∙ sentences.0 in
    let is : said first.sentence ≡ it = cc in
    let none = no_arch first.sentence it is (All-head IsRow it all rows) in
    let others = same_said (above ++ first ∷ []) _ behind all (reads_on_still above first on none) are.1 sentences.1 (All-tail IsRow it all rows) in
    (λ i. is i ∷ others i)

-- ---- the sentences of rows

lines_rows : (lines : List Line) (otherwise : Option ℕ) (all : List Said) → AreLines lines otherwise all → All IsRow all
lines_rows [] otherwise [] are = absurd are
lines_rows [] otherwise (Else value ∷ []) are = All-cons IsRow (Else value) [] tt (All-nil IsRow)
lines_rows [] otherwise (Else value ∷ other ∷ all) are = absurd are
lines_rows [] otherwise (Arch by ∷ all) are = absurd are
lines_rows [] otherwise (Default value ∷ all) are = absurd are
lines_rows [] otherwise (Others value ∷ all) are = absurd are
lines_rows [] otherwise (Row ranges value ∷ all) are = absurd are
lines_rows [] otherwise (Case value words ∷ all) are = absurd are
lines_rows (it ∷ lines) otherwise [] are = absurd are
lines_rows (it ∷ lines) otherwise (Case value words ∷ all) are = All-cons IsRow (Case value words) all tt (lines_rows lines otherwise all are.1)
lines_rows (it ∷ lines) otherwise (Arch by ∷ all) are = absurd are.0
lines_rows (it ∷ lines) otherwise (Default value ∷ all) are = absurd are.0
lines_rows (it ∷ lines) otherwise (Others value ∷ all) are = absurd are.0
lines_rows (it ∷ lines) otherwise (Row ranges value ∷ all) are = absurd are.0
lines_rows (it ∷ lines) otherwise (Else value ∷ all) are = absurd are.0

-- a sentence below a row
abbrev pub IsBelow : Said → Type 0
IsBelow (Case value words) = Unit {0}
IsBelow (Else value) = Unit {0}
IsBelow other = ⊥

lines_below : (lines : List Line) (otherwise : Option ℕ) (all : List Said) → AreLines lines otherwise all → All IsBelow all
lines_below [] otherwise [] are = absurd are
lines_below [] otherwise (Else value ∷ []) are = All-cons IsBelow (Else value) [] tt (All-nil IsBelow)
lines_below [] otherwise (Else value ∷ other ∷ all) are = absurd are
lines_below [] otherwise (Arch by ∷ all) are = absurd are
lines_below [] otherwise (Default value ∷ all) are = absurd are
lines_below [] otherwise (Others value ∷ all) are = absurd are
lines_below [] otherwise (Row ranges value ∷ all) are = absurd are
lines_below [] otherwise (Case value words ∷ all) are = absurd are
lines_below (it ∷ lines) otherwise [] are = absurd are
lines_below (it ∷ lines) otherwise (Case value words ∷ all) are = All-cons IsBelow (Case value words) all tt (lines_below lines otherwise all are.1)
lines_below (it ∷ lines) otherwise (Arch by ∷ all) are = absurd are.0
lines_below (it ∷ lines) otherwise (Default value ∷ all) are = absurd are.0
lines_below (it ∷ lines) otherwise (Others value ∷ all) are = absurd are.0
lines_below (it ∷ lines) otherwise (Row ranges value ∷ all) are = absurd are.0
lines_below (it ∷ lines) otherwise (Else value ∷ all) are = absurd are.0

-- the first sentence of a row, and those behind it
pub record IsHeaded (range : Range) (lines : List Line) (otherwise : Option ℕ) (all : List Said) : Type 0 where
  pub verdict : Option ℕ
  pub more : List Said
  pub are : all ≡ Row (range ∷ []) verdict ∷ more
  pub alone : lines ≡ [] → verdict ≡ otherwise
  pub lines_are : (it : Line) (others : List Line) → lines ≡ it ∷ others → (verdict ≡ None) × AreLines lines otherwise more
  pub rows : All IsRow more
  pub below : All IsBelow more

pub headed : (range : Range) (lines : List Line) (otherwise : Option ℕ) (all : List Said) → AreEnds range lines otherwise all → IsHeaded range lines otherwise all
headed range [] otherwise [] are = absurd are
headed range [] otherwise (Row ranges verdict ∷ []) are = record {
  verdict = verdict;
  more = [];
  are = ap (λ l. Row l verdict ∷ []) are.0;
  alone = λ none. are.1;
  lines_are = λ it others is. cc;
  rows = All-nil IsRow;
  below = All-nil IsBelow;
}
headed range [] otherwise (Row ranges verdict ∷ other ∷ all) are = absurd are
headed range [] otherwise (Arch by ∷ all) are = absurd are
headed range [] otherwise (Default value ∷ all) are = absurd are
headed range [] otherwise (Others value ∷ all) are = absurd are
headed range [] otherwise (Case value words ∷ all) are = absurd are
headed range [] otherwise (Else value ∷ all) are = absurd are
headed range (it ∷ lines) otherwise [] are = absurd are
headed range (it ∷ lines) otherwise (Row ranges verdict ∷ all) are = record {
  verdict = verdict;
  more = all;
  are = ap (λ l. Row l verdict ∷ all) are.0;
  alone = λ none. cc;
  lines_are = λ first others is. (are.1, are.2);
  rows = lines_rows (it ∷ lines) otherwise all are.2;
  below = lines_below (it ∷ lines) otherwise all are.2;
}
headed range (it ∷ lines) otherwise (Arch by ∷ all) are = absurd are
headed range (it ∷ lines) otherwise (Default value ∷ all) are = absurd are
headed range (it ∷ lines) otherwise (Others value ∷ all) are = absurd are
headed range (it ∷ lines) otherwise (Case value words ∷ all) are = absurd are
headed range (it ∷ lines) otherwise (Else value ∷ all) are = absurd are

pub rows_rows : (rows : List ConditionalRow) (groups : List (List Said)) → AreRows rows groups → All IsRow (together groups)
rows_rows [] [] are = All-nil IsRow
rows_rows [] (all ∷ groups) are = absurd are
rows_rows (told ∷ rows) [] are = absurd are
rows_rows (told ∷ rows) (all ∷ groups) are =
    let it = headed (range_of told) told.lines.items told.otherwise all are.0 in
    All-append IsRow all (together groups) (subst (All IsRow) (sym it.are) (All-cons IsRow (Row (range_of told ∷ []) it.verdict) it.more tt it.rows)) (rows_rows rows groups are.1)
