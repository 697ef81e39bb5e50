-- Each worked row is what the definition computes.
use Rattle.std.proofs.Common.{◌≡◌, ◌==◌, ◌∙◌, ap, sym, refl, ℕ, Bool, true, false, if◌then◌else◌, List, [], ◌∷◌, ◌++◌, length, map, codes, flat_map, Option, Some, None}
use Rattle.std.specs.Fmt.{digits}
use Rattle.sk_arguments.specs.Naming.{call_with_constants}
use Rattle.sk_arguments.specs.Reading.{argument_name, kind_by, kind_of}
use Rattle.sk_arguments.specs.declared.naming.Naming.TheVariants.{Numbers}
use Rattle.sk_engines.specs.Output.{line}
use Rattle.sk_insn.specs.Actions.{action_of, allow}
use Rattle.sk_filter.specs.Errors.{error_named}
use Rattle.sk_filter.specs.VerdictText.{verdict_text}
use Rattle.sk_names.specs.X86_64.{name_of, number_named}
use Rattle.sk_names.specs.Names.{name_at, name_in, name_on, number_at, number_in, number_on, runs_of}
use Rattle.sk_names.specs.declared.architecture.Architecture.{Architecture}
use Rattle.sk_names.specs.declared.architecture.Architecture.TheVariants as architecture
use Rattle.sk_replay.specs.Seen.{seen_numbers, shown_value}
use Rattle.sk_show.specs.Text.{name_text, numbers_text}
use Rattle.sk_survey.specs.Answers.{answers_of}
use Rattle.sk_terms.specs.declared.choices.Choice.{Choice}
use Rattle.sk_terms.specs.declared.known.Known.{Known}
use Rattle.sk_terms.specs.declared.lines.Line.{Line}
use Rattle.sk_terms.specs.declared.term.Term.{Term}
use Rattle.sk_terms.specs.Known.{known_by}
use Rattle.sk_terms.specs.Text.{choice_text, choices_text, condition_text}
use Rattle.sk_when.specs.declared.row.ConditionalRow.{ConditionalRow}
use Rattle.sk_when.specs.Filling.{filled_behind}
use Rattle.sk_when.specs.Naming.{constants_of, names_of}
use Rattle.sk_when.specs.WhenText.{before_text, ends_text, line_text, row_text}
use Rattle.sk_policy_when.specs.Allowing.{allow_text}
use Rattle.sk_policy_when.specs.Narrowing.{AreAllowedRows, Condition, IsAllowedRow, IsLineOf, IsNarrowedRow, IsPlainRow, allowed_rows, number_bits, refused, terms_in, terms_of, unshown_arguments}
use Rattle.sk_policy_when.specs.WorkedAllowing.{AllowingWorks, IsTextOf}
use Rattle.sk_policy_when.specs.WorkedNarrowing.{NarrowingWorks, of_openat}
use Rattle.sk_replay.specs.WorkedSeen.{opened}

-- ---- rows

abbrev plain_text : Architecture → ℕ → List ℕ
plain_text by nr = numbers_text nr nr ++ (codes " " ++ (name_text by nr nr ++ (codes " " ++ line (verdict_text allow))))

plain_row : (by : Architecture) (nr : ℕ) (told : ConditionalRow) → IsPlainRow nr told → row_text (names_of Numbers by) told ≡ plain_text by nr
unfolding row_text
plain_row by nr told is = λ i.
    numbers_text (is.first i) (is.last i)
    ++ (codes " " ++ (name_text by (is.first i) (is.last i)
    ++ ends_text (constants_of (names_of Numbers by) (is.first i) (is.last i)) (answers_of told.row.answers) (is.otherwise i) (is.lines i)))

one_row : (by : Architecture) (nr : ℕ) (rows : List ConditionalRow) → AreAllowedRows (allowed_rows (nr ∷ []) [] []) rows → flat_map (row_text (names_of Numbers by)) rows ≡ plain_text by nr ++ []
one_row by nr [] are = absurd are
one_row by nr (told ∷ []) are = ap (λ l. l ++ []) (plain_row by nr told are.0)
one_row by nr (told ∷ other ∷ rows) are = absurd are.1

two_rows : (by : Architecture) (one two : ℕ) (rows : List ConditionalRow) → AreAllowedRows (allowed_rows (one ∷ two ∷ []) [] []) rows
    → flat_map (row_text (names_of Numbers by)) rows ≡ plain_text by one ++ (plain_text by two ++ [])
two_rows by one two [] are = absurd are
two_rows by one two (told ∷ []) are = absurd are.1
two_rows by one two (told ∷ other ∷ []) are =
    let first = plain_row by one told are.0 in let second = plain_row by two other are.1.0 in λ i. first i ++ (second i ++ [])
two_rows by one two (told ∷ other ∷ third ∷ rows) are = absurd are.1.1

no_rows : (by : Architecture) (rows : List ConditionalRow) → AreAllowedRows [] rows → flat_map (row_text (names_of Numbers by)) rows ≡ []
no_rows by [] are = refl
no_rows by (told ∷ rows) are = absurd are

pub allowing_works : AllowingWorks
unfolding digits action_of error_named verdict_text name_of number_named name_at name_in name_on number_at number_in number_on runs_of allow_text
allowing_works = record {
  none = λ rows are. ap (λ l. codes "default errno/1 EPERM\n" ++ l) (no_rows architecture.X86_64 rows are);
  two = λ rows are. ap (λ l. codes "default errno/1 EPERM\n" ++ l) (two_rows architecture.X86_64 0 231 rows are);
  without_a_name = λ rows are. ap (λ l. codes "default errno/1 EPERM\n" ++ l) (one_row architecture.X86_64 1024 rows are);
  on_aarch64 = λ rows are. ap (λ l. codes "arch aarch64\ndefault errno/1 EPERM\n" ++ l) (one_row architecture.Aarch64 63 rows are);
  on_x32 = λ rows are. ap (λ l. codes "default errno/1 EPERM\n" ++ l) (one_row architecture.X86_64 1073741863 rows are);
  allowed = refl;
  not_allowed = refl;
  not_allowed_on_x32 = refl;
  allowed_on_x32 = refl;
}

-- ---- narrowed rows

others_text : (known : Known) (choices : List Choice) (terms : List (List Term)) → terms_in choices ≡ terms
    → flat_map (λ (choice : Choice). codes " && " ++ choice_text known choice.terms.items) choices ≡ flat_map (λ (its : List Term). codes " && " ++ choice_text known its) terms
others_text known [] [] are = refl
others_text known [] (its ∷ terms) are = cc
others_text known (choice ∷ choices) [] are = cc
others_text known (choice ∷ choices) (its ∷ terms) are =
    let first : choice.terms.items ≡ its = cc in
    let rest = others_text known choices terms cc in
    λ i. (codes " && " ++ choice_text known (first i)) ++ rest i

two_choices : (known : Known) (choices : List Choice) (one two : List Term) → terms_in choices ≡ one ∷ two ∷ []
    → choices_text known choices ≡ choice_text known one ++ ((codes " && " ++ choice_text known two) ++ [])
two_choices known [] one two are = cc
two_choices known (choice ∷ []) one two are = cc
two_choices known (choice ∷ other ∷ []) one two are =
    let first : choice.terms.items ≡ one = cc in
    let second : other.terms.items ≡ two = cc in
    λ i. choice_text known (first i) ++ ((codes " && " ++ choice_text known (second i)) ++ [])
two_choices known (choice ∷ other ∷ third ∷ choices) one two are = cc

-- the text of a row with these two choices
abbrev narrowed_text : ℕ → Known → List Term → List Term → List ℕ
narrowed_text nr known one two =
    numbers_text nr nr
    ++ (codes " " ++ (name_text architecture.X86_64 nr nr
    ++ (line [] ++ (((codes "  allow where " ++ line (filled_behind 14 (choice_text known one ++ ((codes " && " ++ choice_text known two) ++ [])))) ++ []) ++ codes "  errno/1 EPERM else\n"))))

lines_read : (answers : Option (List ℕ)) (choices : List Choice) (one two : List Term) (lines : List Line) → terms_in choices ≡ one ∷ two ∷ [] → IsLineOf choices lines
    → ends_text None answers (Some refused) lines
    ≡ line [] ++ (((codes "  allow where " ++ line (filled_behind 14 (choice_text (known_by None choices) one ++ ((codes " && " ++ choice_text (known_by None choices) two) ++ [])))) ++ []) ++ codes "  errno/1 EPERM else\n")
unfolding digits action_of verdict_text error_named line_text before_text
lines_read answers choices one two [] terms are = absurd are
lines_read answers choices one two (it ∷ []) terms are =
    ap (λ v. line [] ++ (((before_text answers v ++ line (filled_behind (length (before_text answers v)) (condition_text None it))) ++ []) ++ codes "  errno/1 EPERM else\n")) are.0
    ∙ ap (λ c. line [] ++ (((codes "  allow where " ++ line (filled_behind 14 (choices_text (known_by None c) c))) ++ []) ++ codes "  errno/1 EPERM else\n")) are.1
    ∙ ap (λ t. line [] ++ (((codes "  allow where " ++ line (filled_behind 14 t)) ++ []) ++ codes "  errno/1 EPERM else\n")) (two_choices (known_by None choices) choices one two terms)
lines_read answers choices one two (it ∷ other ∷ lines) terms are = absurd are

narrowed_row : (nr : ℕ) (choices : List Choice) (one two : List Term) (told : ConditionalRow) → terms_in choices ≡ one ∷ two ∷ [] → IsNarrowedRow nr choices told
    → row_text (names_of Numbers architecture.X86_64) told ≡ narrowed_text nr (known_by None choices) one two
unfolding row_text call_with_constants
narrowed_row nr choices one two told terms is =
    (λ i.
    numbers_text (is.first i) (is.last i)
    ++ (codes " " ++ (name_text architecture.X86_64 (is.first i) (is.last i)
    ++ ends_text (constants_of (names_of Numbers architecture.X86_64) (is.first i) (is.last i)) (answers_of told.row.answers) (is.otherwise i) told.lines.items)))
    ∙ ap (λ c. numbers_text nr nr ++ (codes " " ++ (name_text architecture.X86_64 nr nr ++ ends_text c (answers_of told.row.answers) (Some refused) told.lines.items))) (no_constants nr)
    ∙ ap (λ l. numbers_text nr nr ++ (codes " " ++ (name_text architecture.X86_64 nr nr ++ l))) (lines_read (answers_of told.row.answers) choices one two told.lines.items terms is.lines)
  where
    no_constants : (nr : ℕ) → constants_of (names_of Numbers architecture.X86_64) nr nr ≡ None
    no_constants nr = by_test (nr == nr)
      where
        no_call : Option ℕ
        no_call = None

        by_test : (b : Bool) → (if b then no_call else no_call) ≡ no_call
        by_test true = refl
        by_test false = refl

fcntl_row : (rows : List ConditionalRow) → AreAllowedRows (allowed_rows (22 ∷ 72 ∷ []) (72 ∷ []) opened) rows
    → flat_map (row_text (names_of Numbers architecture.X86_64)) rows
    ≡ codes "22 pipe allow\n72 fcntl\n  allow where (args[0] & 0xffffffff) == 0x3 && (args[1] & 0xffffffff) == 0x1\n  errno/1 EPERM else\n"
unfolding digits action_of error_named verdict_text name_of name_at name_in name_on runs_of kind_by kind_of argument_name number_bits seen_numbers shown_value filled_behind
fcntl_row [] are = absurd are
fcntl_row (told ∷ []) are = absurd are.1
fcntl_row (told ∷ other ∷ []) are =
    let first = plain_row architecture.X86_64 22 told are.0 in
    let second = narrowed_row 72 are.1.0.0 _ _ other are.1.0.1 are.1.0.2 in
    (λ i. first i ++ (second i ++ []))
fcntl_row (told ∷ other ∷ third ∷ rows) are = absurd are.1.1

openat_row : (rows : List ConditionalRow) → AreAllowedRows (allowed_rows (257 ∷ []) (257 ∷ []) opened) rows
    → flat_map (row_text (names_of Numbers architecture.X86_64)) rows
    ≡ codes "257 openat\n  allow where (args[0] & 0xffffffff) == 0xffffff9c\n      && ((args[2] & 0xffffffff) == 0 || (args[2] & 0xffffffff) == 0x80000)\n  errno/1 EPERM else\n"
unfolding digits action_of error_named verdict_text name_of name_at name_in name_on runs_of kind_by kind_of argument_name number_bits seen_numbers shown_value filled_behind
openat_row [] are = absurd are
openat_row (told ∷ []) are = let only = narrowed_row 257 are.0.0 _ _ told are.0.1 are.0.2 in (λ i. only i ++ [])
openat_row (told ∷ other ∷ rows) are = absurd are.1

pub narrowing_works : NarrowingWorks
unfolding digits action_of error_named verdict_text name_of name_at name_in name_on runs_of kind_by kind_of argument_name number_bits unshown_arguments seen_numbers shown_value allow_text
narrowing_works = record {
  flags = refl;
  of_another = refl;
  flags_hidden = refl;
  flags_left_out = refl;
  addresses = refl;
  address_of_64_bits = refl;
  mode = refl;
  whole = refl;
  not_narrowed = refl;
  in_no_log = refl;
  one_row_for_each = refl;
  mode_is_unshown = refl;
  none_is_unshown = refl;
  all_are_unshown = refl;
  one_is_narrowed = refl;
  nothing_shown = refl;
  nothing_to_show = refl;
  nothing_made = refl;
  other_half = refl;
  other_folder = refl;
  as_logged = refl;
  with_other_flags = refl;
  all_flags = refl;
  text = λ rows are. ap (λ l. codes "default errno/1 EPERM\n" ++ l) (fcntl_row rows are);
  in_two_lines = λ rows are. ap (λ l. codes "default errno/1 EPERM\n" ++ l) (openat_row rows are);
}
