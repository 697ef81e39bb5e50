-- Each number stands in just one row of the text of rows.
use Rattle.std.proofs.Common.{◌≡◌, ◌+◌, ◌<◌, ◌≤◌, ◌^◌, ◌∙◌, ap, arith, sym, refl, inl, inr, ℕ, List, [], ◌∷◌, ◌++◌, map, Option, subst}
use Rattle.std.specs.List.{All}
use Rattle.std.proofs.lemmas.Bool.{cases_lt, le-leb}
use Rattle.std.proofs.lemmas.List.Elements.{All-head, All-tail}
use Rattle.sk_insn.specs.declared.insn.Insn.{Insn}
use Rattle.sk_survey.specs.Surveys.{Tell}
use Rattle.sk_names.specs.declared.architecture.Architecture.TheVariants as architecture
use Rattle.sk_when.specs.declared.row.ConditionalRow.{ConditionalRow}
use Rattle.sk_when.specs.Naming.{names_of}
use Rattle.sk_when.specs.Telling.{row_told}
use Rattle.sk_when.specs.WhenText.{when_text}
use Rattle.sk_policy_text.specs.declared.sentence.Range.{Range}
use Rattle.sk_policy_text.specs.declared.sentence.Sentence.{Sentence}
use Rattle.sk_policy_text.specs.declared.sentence.Sentence.TheVariants as sentence
use Rattle.sk_policy_text.specs.declared.stated.Stated.{Stated}
use Rattle.sk_policy_text.specs.Words.{words_of_text}
use Rattle.sk_policy_text.specs.Sentences.{Said, Row}
use Rattle.sk_policy_text.specs.Views.{said}
use Rattle.sk_policy_text.specs.PolicyRows.{Part, once, parts_at, parts_in, parts_of, times}
use Rattle.sk_policy_text.proofs.Ranging.{once_above, once_below, once_inside, times_cons}
use Rattle.sk_policy_when.specs.Texts.{AreRows, TextsNameEachNumber, range_of, together}
use Rattle.sk_policy_when.proofs.Texting.{texts_come_back}
use Rattle.sk_policy_when.proofs.Finding.{IsBelow, IsHeaded, headed, rows_rows, saids, same_said}

-- ---- sentences below a row have no numbers

below_parts : (one : Sentence) (what : Said) (line : ℕ) (behind : List Stated) → said one ≡ what → IsBelow what → parts_at one line behind ≡ []
below_parts (sentence.Case value words) what line behind is below = refl
below_parts (sentence.Else value) what line behind is below = refl
below_parts (sentence.Arch by) what line behind is below = refl
below_parts (sentence.Default value) what line behind is below = refl
below_parts (sentence.Others value) what line behind is below = refl
below_parts (sentence.Row ranges value) what line behind is below = absurd (subst IsBelow (sym is) below)

record NoParts (text : List Stated) (rest : List Said) : Type 0 where
  left : List Stated
  are : saids left ≡ rest
  same : parts_of text ≡ parts_of left

no_parts : (more rest : List Said) (text : List Stated) → saids text ≡ more ++ rest → All IsBelow more → NoParts text rest
no_parts [] rest text is below = record { left = text; are = is; same = refl }
no_parts (first ∷ more) rest [] is below = cc
no_parts (first ∷ more) rest (it ∷ text) is below =
    let same : said it.sentence ≡ first = cc in
    let others : saids text ≡ more ++ rest = cc in
    let left = no_parts more rest text others (All-tail IsBelow first more below) in
    let none = below_parts it.sentence first it.line text same (All-head IsBelow first more below) in
    record { left = left.left; are = left.are; same = ap (λ l. l ++ parts_of text) none ∙ left.same }

-- ---- a row has its numbers

record HasPart (it : Stated) (text : List Stated) (range : Range) : Type 0 where
  part : Part
  first : part.first ≡ range.first
  last : part.last ≡ range.last
  same : parts_at it.sentence it.line text ≡ part ∷ []

row_part : (it : Stated) (text : List Stated) (range : Range) (verdict : Option ℕ) → said it.sentence ≡ Row (range ∷ []) verdict → range.first ≤ range.last → HasPart it text range
row_part it text range verdict is le = by_sentence it.sentence is
  where
    rising : parts_in (range ∷ []) it.line verdict text ≡ record { first = range.first; last = range.last; line = it.line; verdict = verdict; behind = text } ∷ []
    rising = let t = le-leb range.first range.last le in rw t refl

    by_part : (one : Sentence) → parts_at one it.line text ≡ record { first = range.first; last = range.last; line = it.line; verdict = verdict; behind = text } ∷ []
        → (part : Part) × (part.first ≡ range.first) × (part.last ≡ range.last) × (parts_at one it.line text ≡ part ∷ [])
    by_part one same = (record { first = range.first; last = range.last; line = it.line; verdict = verdict; behind = text }, refl, refl, same)

    of_parts : ((part : Part) × (part.first ≡ range.first) × (part.last ≡ range.last) × (parts_at it.sentence it.line text ≡ part ∷ [])) → HasPart it text range
    of_parts all = record { part = all.0; first = all.1; last = all.2; same = all.3 }

    parts_are : (one : Sentence) → said one ≡ Row (range ∷ []) verdict → parts_at one it.line text ≡ record { first = range.first; last = range.last; line = it.line; verdict = verdict; behind = text } ∷ []
    parts_are (sentence.Row ranges other) same =
        let ranges_are : ranges.items ≡ range ∷ [] = cc in
        let verdict_is : other ≡ verdict = cc in
        ap (λ l. parts_in l it.line other text) ranges_are ∙ ap (λ v. parts_in (range ∷ []) it.line v text) verdict_is ∙ rising
    parts_are (sentence.Arch by) same = cc
    parts_are (sentence.Default other) same = cc
    parts_are (sentence.Others other) same = cc
    parts_are (sentence.Case other words) same = cc
    parts_are (sentence.Else other) same = cc

    by_sentence : (one : Sentence) → said it.sentence ≡ Row (range ∷ []) verdict → HasPart it text range
    by_sentence one same = of_parts (by_part it.sentence (parts_are it.sentence same))

-- ---- all rows

record Counts (text : List Stated) (from nr : ℕ) : Type 0 where
  inside : from ≤ nr → times (parts_of text) nr ≡ 1
  before : nr < from → times (parts_of text) nr ≡ 0

counts : (programs : List (List Insn)) (from : ℕ) (rows : List ConditionalRow) (groups : List (List Said)) (text : List Stated) (nr : ℕ) → nr < 2 ^ 32
    → Tell programs from (2 ^ 32) (map row_told rows) → AreRows rows groups → saids text ≡ together groups → Counts text from nr
counts programs from [] [] [] nr small tell are is = record { inside = λ low. absurd (omega (arith, tell, low, small)); before = λ below. refl }
counts programs from [] [] (it ∷ text) nr small tell are is = cc
counts programs from [] (all ∷ groups) text nr small tell are is = absurd are
counts programs from (told ∷ rows) [] text nr small tell are is = absurd are
counts programs from (told ∷ rows) (all ∷ groups) text nr small tell are is = by_text text (is ∙ ap (λ l. l ++ together groups) head.are) (λ left same. counts programs (told.row.last + 1) rows groups left nr small tell.4 are.1 same)
  where
    head : IsHeaded (range_of told) told.lines.items told.otherwise all
    head = headed (range_of told) told.lines.items told.otherwise all are.0

    by_text : (text : List Stated) → saids text ≡ (Row (range_of told ∷ []) head.verdict ∷ head.more) ++ together groups
        → ((left : List Stated) → saids left ≡ together groups → Counts left (told.row.last + 1) nr) → Counts text from nr
    by_text [] same others = cc
    by_text (it ∷ text) same others =
        let first : said it.sentence ≡ Row (range_of told ∷ []) head.verdict = cc in
        let behind : saids text ≡ head.more ++ together groups = cc in
        let row = row_part it text (range_of told) head.verdict first (omega (arith, tell.1)) in
        let rest = no_parts head.more (together groups) text behind head.below in
        let more = others rest.left rest.are in
        let parts : parts_of (it ∷ text) ≡ row.part ∷ parts_of rest.left = ap (λ l. l ++ parts_of text) row.same ∙ ap (λ l. row.part ∷ l) rest.same in
        let sum : times (parts_of (it ∷ text)) nr ≡ once nr row.part + times (parts_of rest.left) nr = ap (λ l. times l nr) parts ∙ times_cons row.part (parts_of rest.left) nr in
        record {
          inside = λ low. elim (cases_lt told.row.last nr) [
            | inl above ↦ let none = once_above nr row.part (omega (arith, above, row.last)) in let one = more.inside (omega (arith, above)) in omega (arith, sum, none, one)
            | inr within ↦
                let one = once_inside nr row.part (omega (arith, low, row.first, tell.0)) (omega (arith, within, row.last)) in
                let none = more.before (omega (arith, within)) in
                omega (arith, sum, none, one)
          ];
          before = λ below.
              let none = once_below nr row.part (omega (arith, below, row.first, tell.0)) in
              let others_none = more.before (omega (arith, below, tell.0, tell.1)) in
              omega (arith, sum, none, others_none);
        }

pub texts_name_each_number : TextsNameEachNumber
texts_name_each_number naming programs is_spent rows text told sayable is nr small =
    let come = texts_come_back (names_of naming architecture.X86_64) rows sayable in
    let same = same_said [] (words_of_text (when_text (names_of naming architecture.X86_64) rows)) text (together come.said) refl is come.are (rows_rows rows come.said come.rows_are) in
    (counts programs 0 rows come.said text nr small told.rows come.rows_are same).inside (omega arith)
