-- The worked rows: what is told of each call, and the text.
use Rattle.std.proofs.Common.{◌≡◌, ℕ, ◌%◌, ◌==◌, ◌&&◌, ◌||◌, ◌^◌, Bool, true, false, not, if◌then◌else◌, nat_le, bit_and, List, [], ◌∷◌, ◌++◌, length, map, codes, Option, Some, None, sym, ap, subst, ◌∙◌, refl, arith, eqb-true}
use Rattle.std.specs.Fmt.{digits}
use Rattle.std.specs.List.{All}
use Rattle.std.specs.Option.{option_map_or}
use Rattle.std.proofs.lemmas.Bool.{leb-true, leb-false, eqb-false}
use Rattle.std.proofs.lemmas.List.Elements.{All-cons, All-head, All-nil, All-tail}
use Rattle.std.proofs.lemmas.Nat.{and_mask}
use Rattle.sk_insn.specs.declared.record.Record.{Record}
use Rattle.sk_insn.specs.Actions.{action_of}
use Rattle.sk_insn.specs.Operations.{operation_of}
use Rattle.sk_filter.specs.WorkedMeanings.{call_of}
use Rattle.sk_names.specs.X86_64.{name_of}
use Rattle.sk_names.specs.declared.architecture.Architecture.{Architecture}
use Rattle.sk_names.specs.declared.architecture.Architecture.TheVariants as architecture
use Rattle.sk_names.specs.Names.{name_at, name_in, name_on, runs_of}
use Rattle.sk_filter.specs.Verdict.{verdict_of}
use Rattle.sk_filter.specs.Errors.{error_named}
use Rattle.sk_filter.specs.VerdictText.{verdict_text}
use Rattle.sk_conditions.specs.Conditions.{Agrees, holds_on}
use Rattle.sk_conditions.specs.WorkedPaths as paths
use Rattle.sk_conditions.specs.WorkedPaths.{compares_again}
use Rattle.sk_conditions.proofs.WorkedPaths.{every_call, paths_work}
use Rattle.sk_survey.specs.Answers.{IsCallOf, answers_of}
use Rattle.sk_show.specs.Text.{numbers_text, name_text}
use Rattle.sk_terms.specs.declared.choices.Choice.{Choice}
use Rattle.sk_terms.specs.declared.lines.Line.{Line}
use Rattle.sk_terms.specs.declared.term.Register.TheVariants.{Argument}
use Rattle.sk_terms.specs.declared.term.Term.{Term}
use Rattle.sk_terms.specs.declared.known.Known.{Known}
use Rattle.sk_terms.specs.Known.{known_by}
use Rattle.sk_terms.specs.Lines.{meets_line, told_by}
use Rattle.sk_terms.specs.Numbers.{numbered, TellsNoWhole}
use Rattle.sk_terms.specs.Terms.{holds_term, register_of}
use Rattle.sk_terms.specs.Text.{choices_text, condition_text, terms_text}
use Rattle.sk_terms.specs.WorkedLines.{terms_of}
use Rattle.sk_terms.proofs.Halves.{argument_low}
use Rattle.sk_terms.proofs.WorkedLines.{line_met, met_terms, told_first}
use Rattle.sk_when.specs.declared.row.ConditionalRow.{ConditionalRow}
use Rattle.sk_arguments.specs.declared.naming.Naming.TheVariants.{Numbers}
use Rattle.sk_arguments.specs.Naming.{call_with_constants}
use Rattle.sk_when.specs.Naming.{constants_of, names_of}
use Rattle.sk_when.specs.Filling.{filled_behind}
use Rattle.sk_when.specs.Lines.{IsMet, IsTold, IsVerdict, or_else, told_of}
use Rattle.sk_when.specs.WhenText.{before_text, ends_text, line_text, row_text}
use Rattle.sk_when.specs.WorkedRows.{Read, read, IsRow, is_seven, where_another, where_both, where_seven, RowsWork}

-- the range from 7 to 7 is 7
of_seven : (n : ℕ) → (nat_le 7 n && nat_le n 7) ≡ (n == 7)
of_seven n = by_tests (n == 7) (nat_le 7 n) (nat_le n 7) refl refl refl where
  by_tests : (b x y : Bool) → (n == 7) ≡ b → nat_le 7 n ≡ x → nat_le n 7 ≡ y → (x && y) ≡ b
  by_tests true true true e g h = refl
  by_tests true true false e g h = let same = eqb-true n 7 e in let more = leb-false n 7 h in absurd (omega (arith, same, more))
  by_tests true false y e g h = let same = eqb-true n 7 e in let less = leb-false 7 n g in absurd (omega (arith, same, less))
  by_tests false true true e g h =
      let least = leb-true 7 n g in
      let most = leb-true n 7 h in
      absurd (eqb-false n 7 e (omega (arith, least, most)))
  by_tests false true false e g h = refl
  by_tests false false y e g h = refl

same_bits : (a : ℕ) → bit_and a 0xffffffff ≡ bit_and (a % 2 ^ 32) 0xffffffff
same_bits a = let one = and_mask a 32 in let other = and_mask (a % 2 ^ 32) 32 in omega (arith, one, other)

-- the term says what the test says
same_said : (call : Record) → holds_on paths.is_seven call ≡ holds_term is_seven call
same_said call =
    let a : ℕ = register_of (Argument 0) call in
    ap (λ w. option_map_or (λ n. bit_and n 0xffffffff == 7) w false) (argument_low call 0 16 refl (omega arith))
    ∙ ap (λ n. n == 7) (sym (same_bits a))
    ∙ sym (of_seven (bit_and a 0xffffffff))

abbrev allowed_if : Bool → ℕ
allowed_if b = if b then 0x7fff0000 else 0x00050001

verdict : (call : Record) → verdict_of (compares_again ∷ []) call ≡ allowed_if (holds_term is_seven call)
verdict call = every_call call ∙ ap allowed_if (same_said call)

-- the values of the lines, as they are read
abbrev read_by : List Read → Record → List (Option ℕ)
read_by [] call = []
read_by (it ∷ others) call = (if met_terms it.terms call then it.value ∷ [] else []) ++ read_by others call

told_read : (lines : List Line) (call : Record) → told_by lines call ≡ read_by (map read lines) call
told_read [] call = refl
told_read (line ∷ lines) call =
    told_first line lines call (met_terms (terms_of line) call) (line_met line call (terms_of line) refl)
    ∙ ap (λ r. (if met_terms (terms_of line) call then line.value ∷ [] else []) ++ r) (told_read lines call)

told_row : (told : ConditionalRow) (lines : List Read) → IsRow lines told → (call : Record) → told_of told call ≡ or_else (read_by lines call) (Some 0x00050001)
told_row told lines is call =
    ap (λ values. or_else values told.otherwise) (told_read told.lines.items call ∙ ap (λ r. read_by r call) is.lines)
    ∙ ap (λ o. or_else (read_by lines call) o) is.otherwise

one_or_else : (b : Bool) (value other : Option ℕ) → or_else ((if (b || false) && true then value ∷ [] else []) ++ []) other ≡ (if b then value else other) ∷ []
one_or_else true value other = refl
one_or_else false value other = refl

is_verdict : (answers : Option (List ℕ)) (b : Bool) (v : ℕ) → v ≡ allowed_if b → IsVerdict answers v (if b then Some 0x7fff0000 else Some 0x00050001)
is_verdict answers true v e = sym e
is_verdict answers false v e = sym e

one_line : (told : ConditionalRow) → IsRow (where_seven 0x7fff0000 ∷ []) told → IsTold (compares_again ∷ []) told
one_line told is call within =
    let b = holds_term is_seven call in (
      (if b then Some 0x7fff0000 else Some 0x00050001),
      told_row told (where_seven 0x7fff0000 ∷ []) is call ∙ one_or_else b (Some 0x7fff0000) (Some 0x00050001),
      is_verdict (answers_of told.row.answers) b (verdict_of (compares_again ∷ []) call) (verdict call),
    )

-- what is told alone is the verdict
told_verdict : (told : ConditionalRow) → IsTold (compares_again ∷ []) told → (call : Record) → IsCallOf told.row.first told.row.last call
    → (v : ℕ) → told_of told call ≡ Some v ∷ [] → v ≡ verdict_of (compares_again ∷ []) call
told_verdict told is call within v e =
    let it = is call within in
    let same : it.0 ≡ Some v = cc (it.1, e) in
    subst (IsVerdict (answers_of told.row.answers) (verdict_of (compares_again ∷ []) call)) same it.2

abbrev with_seven : Record
with_seven = call_of 39 0 7

of_the_row : (told : ConditionalRow) (lines : List Read) → IsRow lines told → IsCallOf told.row.first told.row.last with_seven
of_the_row told lines is = let first = is.first in let last = is.last in (refl, (omega (arith, first), omega (arith, last)))

wrong_value : (told : ConditionalRow) (lines : List Read) (v : ℕ) → IsRow lines told → or_else (read_by lines with_seven) (Some 0x00050001) ≡ Some v ∷ []
    → IsTold (compares_again ∷ []) told → v ≡ 0x7fff0000
wrong_value told lines v is e wrong =
    told_verdict told wrong with_seven (of_the_row told lines is) v (told_row told lines is with_seven ∙ e) ∙ verdict with_seven

twice : (told : ConditionalRow) → IsRow (where_seven 0x7fff0000 ∷ where_seven 0x7fff0000 ∷ []) told → IsTold (compares_again ∷ []) told → ⊥
twice told is wrong =
    let it = wrong with_seven (of_the_row told _ is) in
    let both : told_of told with_seven ≡ Some 0x7fff0000 ∷ Some 0x7fff0000 ∷ [] = told_row told _ is with_seven in
    let alone = it.1 in
    cc (both, alone)

-- ---- the calls that meet the lines

abbrev with_eight : Record
with_eight = call_of 39 0 8

eight_too : (told : ConditionalRow) (lines : List Read) → IsRow lines told → IsCallOf told.row.first told.row.last with_eight
eight_too told lines is = let first = is.first in let last = is.last in (refl, (omega (arith, first), omega (arith, last)))

abbrev IsMetIn : ConditionalRow → Line → Type 0
IsMetIn told line =
    (call : Record) × IsCallOf told.row.first told.row.last call × (meets_line line call ≡ true) × Agrees line.value (verdict_of (compares_again ∷ []) call)

line_of_seven : (told : ConditionalRow) (line : Line) → read line ≡ where_seven 0x7fff0000 → IsCallOf told.row.first told.row.last with_seven → IsMetIn told line
line_of_seven told line same within = (
  with_seven,
  within,
  line_met line with_seven (where_seven 0x7fff0000).terms (ap (λ r. r.terms) same),
  subst (λ v. Agrees v (verdict_of (compares_again ∷ []) with_seven)) (sym (ap (λ r. r.value) same)) (sym (verdict with_seven)),
)

lines_of_seven : (told : ConditionalRow) (lines : List Line) → map read lines ≡ where_seven 0x7fff0000 ∷ [] → IsCallOf told.row.first told.row.last with_seven
    → All (IsMetIn told) lines
lines_of_seven told [] e within = All-nil (IsMetIn told)
lines_of_seven told (line ∷ []) e within =
    let same : read line ≡ where_seven 0x7fff0000 = cc in
    All-cons (IsMetIn told) line [] (line_of_seven told line same within) (All-nil (IsMetIn told))
lines_of_seven told (line ∷ other ∷ lines) e within = cc

-- what a line says of an argument it says of a call with each number
no_number : (told : ConditionalRow) (lines : List Line) → map read lines ≡ where_seven 0x7fff0000 ∷ [] → told.row.first ≡ 39 → told.row.last ≡ 39
    → All (TellsNoWhole told.row.first told.row.last) lines
no_number told [] e first last = cc
no_number told (line ∷ []) e first last =
    let same : read line ≡ where_seven 0x7fff0000 = cc in
    let terms : terms_of line ≡ (where_seven 0x7fff0000).terms = ap (λ r. r.terms) same in
    let P = TellsNoWhole told.row.first told.row.last in
    All-cons P line []
    (λ call each nr.
    line_met line (numbered call nr) (where_seven 0x7fff0000).terms terms
    ∙ sym (line_met line (numbered call 39) (where_seven 0x7fff0000).terms terms)
    ∙ each 39 (omega (arith, first)) (omega (arith, last)))
    (All-nil P)
no_number told (line ∷ other ∷ lines) e first last = cc

met : (told : ConditionalRow) → IsRow (where_seven 0x7fff0000 ∷ []) told → IsMet (compares_again ∷ []) told
met told is = record {
  lines = lines_of_seven told told.lines.items is.lines (of_the_row told (where_seven 0x7fff0000 ∷ []) is);
  otherwise = (
    with_eight,
    eight_too told (where_seven 0x7fff0000 ∷ []) is,
    told_read told.lines.items with_eight ∙ ap (λ r. read_by r with_eight) is.lines,
    subst (λ v. Agrees v (verdict_of (compares_again ∷ []) with_eight)) (sym is.otherwise) (sym (verdict with_eight)),
  );
  numbers = no_number told told.lines.items is.lines is.first is.last;
}

both_never : (b : Bool) → ((b || false) && ((not b || false) && true)) ≡ true → ⊥
both_never true e = cc
both_never false e = cc

second_met : (told : ConditionalRow) (lines : List Line) → map read lines ≡ where_seven 0x7fff0000 ∷ where_both 0x00000000 ∷ [] → All (IsMetIn told) lines → ⊥
second_met told [] e all = cc
second_met told (line ∷ []) e all = cc
second_met told (line ∷ other ∷ []) e all =
    let same : read other ≡ where_both 0x00000000 = cc in
    let it = All-head (IsMetIn told) other [] (All-tail (IsMetIn told) line (other ∷ []) all) in
    both_never (holds_term is_seven it.0) (sym (line_met other it.0 (where_both 0x00000000).terms (ap (λ r. r.terms) same)) ∙ it.2)
second_met told (line ∷ other ∷ third ∷ lines) e all = cc

one_of_both : (b : Bool) (v w : Option ℕ)
    → (if (b || false) && true then v ∷ [] else []) ++ ((if (not b || false) && true then w ∷ [] else []) ++ []) ≡ [] → ⊥
one_of_both true v w e = cc
one_of_both false v w e = cc

never_else : (told : ConditionalRow) → IsRow (where_seven 0x7fff0000 ∷ where_another 0x00050001 ∷ []) told → IsMet (compares_again ∷ []) told → ⊥
never_else told is wrong =
    let call = wrong.otherwise.0 in
    one_of_both (holds_term is_seven call) (Some 0x7fff0000) (Some 0x00050001)
    (sym (told_read told.lines.items call ∙ ap (λ r. read_by r call) is.lines) ∙ wrong.otherwise.2)

-- ---- the text

one_choice : (known : Known) (choices : List Choice) (terms : List Term) → map (λ choice. choice.terms.items) choices ≡ terms ∷ []
    → choices_text known choices ≡ terms_text known terms
one_choice known [] terms e = cc
one_choice known (choice ∷ []) terms e = let same : choice.terms.items ≡ terms = cc in ap (terms_text known) same
one_choice known (choice ∷ other ∷ choices) terms e = cc

line_read : (line : Line) → read line ≡ where_seven 0x7fff0000 → (answers : Option (List ℕ))
    → line_text None answers line ≡ codes "  allow where (args[0] & 0xffffffff) == 0x7\n"
unfolding digits action_of operation_of verdict_text error_named line_text before_text filled_behind
line_read line e answers =
    let value : line.value ≡ Some 0x7fff0000 = ap (λ r. r.value) e in
    let condition : condition_text None line ≡ terms_text (known_by None line.choices.items) (is_seven ∷ []) =
    one_choice (known_by None line.choices.items) line.choices.items (is_seven ∷ []) (ap (λ r. r.terms) e) in
    ap (λ v. before_text answers v ++ (filled_behind (length (before_text answers v)) (condition_text None line) ++ codes "\n")) value
    ∙ ap (λ t. codes "  allow where " ++ (filled_behind 14 t ++ codes "\n")) condition

lines_read : (lines : List Line) → map read lines ≡ where_seven 0x7fff0000 ∷ [] → (answers : Option (List ℕ))
    → ends_text None answers (Some 0x00050001) lines ≡ codes "\n  allow where (args[0] & 0xffffffff) == 0x7\n  errno/1 EPERM else\n"
unfolding digits action_of operation_of verdict_text error_named
lines_read [] e answers = cc
lines_read (line ∷ []) e answers =
    let same : read line ≡ where_seven 0x7fff0000 = cc in
    ap (λ t. codes "\n" ++ ((t ++ []) ++ codes "  errno/1 EPERM else\n")) (line_read line same answers)
lines_read (line ∷ other ∷ lines) e answers = cc

abbrev head_of : Architecture → ℕ → ℕ → ConditionalRow → List ℕ
head_of a first last told =
    numbers_text first last ++ (codes " " ++ (name_text a first last ++ ends_text (constants_of (names_of Numbers a) first last) (answers_of told.row.answers) told.otherwise told.lines.items))

text_on : (a : Architecture) (told : ConditionalRow) → IsRow (where_seven 0x7fff0000 ∷ []) told
    → row_text (names_of Numbers a) told ≡ codes "39 " ++ (name_text a 39 39 ++ codes "\n  allow where (args[0] & 0xffffffff) == 0x7\n  errno/1 EPERM else\n")
unfolding digits row_text call_with_constants
text_on a told is =
    ap (λ first. head_of a first told.row.last told) is.first
    ∙ ap (λ last. head_of a 39 last told) is.last
    ∙ ap (λ o. codes "39 " ++ (name_text a 39 39 ++ ends_text None (answers_of told.row.answers) o told.lines.items)) is.otherwise
    ∙ ap (λ t. codes "39 " ++ (name_text a 39 39 ++ t)) (lines_read told.lines.items is.lines (answers_of told.row.answers))

text : (told : ConditionalRow) → IsRow (where_seven 0x7fff0000 ∷ []) told
    → row_text (names_of Numbers architecture.X86_64) told ≡ codes "39 getpid\n  allow where (args[0] & 0xffffffff) == 0x7\n  errno/1 EPERM else\n"
unfolding name_of name_on
text told is = text_on architecture.X86_64 told is

elsewhere : (told : ConditionalRow) → IsRow (where_seven 0x7fff0000 ∷ []) told
    → row_text (names_of Numbers architecture.I386) told ≡ codes "39 mkdir\n  allow where (args[0] & 0xffffffff) == 0x7\n  errno/1 EPERM else\n"
unfolding name_at name_in name_on runs_of
elsewhere told is = text_on architecture.I386 told is

pub rows_work : RowsWork
rows_work = record {
  one_line = one_line;
  text = text;
  elsewhere = elsewhere;
  twice = twice;
  no_line = λ told is wrong. let e = wrong_value told [] 0x00050001 is refl wrong in omega (arith, e);
  killed = λ told is wrong. let e = wrong_value told (where_seven 0x00000000 ∷ []) 0x00000000 is refl wrong in omega (arith, e);
  met = met;
  never_met = λ told is wrong. second_met told told.lines.items is.lines wrong.lines;
  never_else = never_else;
  none_killed = λ told is call within e. paths_work.killed call (sym (told_verdict told is call within 0x00000000 e));
}
