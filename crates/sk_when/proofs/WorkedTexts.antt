-- Each of these is what the definitions compute.
use Rattle.std.proofs.Common.{ℕ, ◌≡◌, ◌++◌, ◌||◌, false, if◌then◌else◌, List, [], ◌∷◌, refl, ap, ◌∙◌}
use Rattle.std.specs.Prelude.{codes, flat_map}
use Rattle.std.specs.Fmt.{digits}
use Rattle.std.specs.List.{list_any}
use Rattle.hex.specs.Hex.{encode_with}
use Rattle.sk_insn.specs.Actions.{action_of}
use Rattle.sk_insn.specs.Operations.{operation_of}
use Rattle.sk_names.specs.X86_64.{name_of}
use Rattle.sk_names.specs.Names.{name_on}
use Rattle.sk_arguments.specs.Naming.{call_with_constants}
use Rattle.sk_terms.specs.Text.{argument_text}
use Rattle.sk_filter.specs.VerdictText.{verdict_text}
use Rattle.sk_filter.specs.Errors.{error_named}
use Rattle.sk_conditions.specs.declared.numbers.Numbers.{Numbers}
use Rattle.sk_conditions.specs.declared.standing.Relation.{Relation}
use Rattle.sk_conditions.specs.declared.standing.Relation.TheVariants.{Same, AsStrict, Expected}
use Rattle.sk_when.specs.declared.diff_engine.Finding.{Finding}
use Rattle.sk_when.specs.declared.diff_engine.Finding.TheVariants as finding
use Rattle.sk_when.specs.declared.piece.Part.{Part}
use Rattle.sk_when.specs.declared.piece.Piece.{Piece}
use Rattle.sk_when.specs.DiffText.{arguments_text, call_text, verdicts_text, head_text, has_kind, heading, kind_text, kinds, part_text, piece_text, section_text, differences_text, record_text}
use Rattle.sk_when.specs.Pieces.{shows_call, has_parts, finding_of}
use Rattle.sk_when.specs.WorkedTexts.{ColoursWork, OrderWorks, FindingsWork, HasParts, names, told, undecided, otherwise, stricter, looser, unexpected}

pub colours_work : ColoursWork
colours_work = record { runs = refl; kills = refl; others = refl }

abbrev clone_numbers : Numbers
clone_numbers = record { first = 56; last = 56 }

numbers_are : (parts : List Part) (piece : Piece) → HasParts parts piece → piece.numbers ≡ clone_numbers
numbers_are parts piece has = λ i. record { first = has.first i; last = has.last i }

-- the text of one piece with these parts, and of two
abbrev text_of_one : Relation → Numbers → List Part → List ℕ
text_of_one relation numbers parts =
    flat_map (λ kind.
    if list_any (has_kind relation kind) parts || false
    then heading relation kind ++ (flat_map (kind_text relation names kind numbers) parts ++ [])
    else []) kinds

abbrev text_of_two : Relation → Numbers → List Part → Numbers → List Part → List ℕ
text_of_two relation numbers parts others other_parts =
    flat_map (λ kind.
    if list_any (has_kind relation kind) parts || (list_any (has_kind relation kind) other_parts || false)
    then heading relation kind
    ++ (flat_map (kind_text relation names kind numbers) parts ++ (flat_map (kind_text relation names kind others) other_parts ++ []))
    else []) kinds

one_is : (relation : Relation) (piece : Piece)
    → differences_text relation names (piece ∷ []) ≡ text_of_one relation piece.numbers piece.parts.items
unfolding piece_text section_text
one_is relation piece = refl

two_are : (relation : Relation) (one other : Piece)
    → differences_text relation names (one ∷ other ∷ []) ≡ text_of_two relation one.numbers one.parts.items other.numbers other.parts.items
unfolding piece_text section_text
two_are relation one other = refl

one_has : (relation : Relation) (parts : List Part) (piece : Piece) → HasParts parts piece
    → differences_text relation names (piece ∷ []) ≡ text_of_one relation clone_numbers parts
one_has relation parts piece has =
    one_is relation piece
    ∙ ap (λ numbers. text_of_one relation numbers piece.parts.items) (numbers_are parts piece has)
    ∙ ap (text_of_one relation clone_numbers) has.items

two_have : (relation : Relation) (parts others : List Part) (one other : Piece) → HasParts parts one → HasParts others other
    → differences_text relation names (one ∷ other ∷ []) ≡ text_of_two relation clone_numbers parts clone_numbers others
two_have relation parts others one other has has' =
    two_are relation one other
    ∙ ap (λ numbers. text_of_two relation numbers one.parts.items other.numbers other.parts.items) (numbers_are parts one has)
    ∙ ap (λ numbers. text_of_two relation clone_numbers one.parts.items numbers other.parts.items) (numbers_are others other has')
    ∙ ap (λ ps. text_of_two relation clone_numbers ps clone_numbers other.parts.items) has.items
    ∙ ap (text_of_two relation clone_numbers parts clone_numbers) has'.items

all_written : text_of_two Same clone_numbers (undecided ∷ otherwise ∷ stricter ∷ []) clone_numbers (stricter ∷ looser ∷ [])
    ≡ told (codes "looser:\n56 clone: errno/1 EPERM -> allow\n")
    ++ (told (codes "stricter:\n56 clone: allow -> errno/1 EPERM\n") ++ (told (codes "56 clone: allow -> errno/1 EPERM\n")
    ++ (told (codes "other:\n56 clone: errno/38 ENOSYS -> errno/1 EPERM\n") ++ codes "undecided:\n56 clone: undecided\n")))
unfolding digits encode_with action_of operation_of verdict_text error_named verdicts_text head_text part_text kind_text record_text call_text arguments_text argument_text call_with_constants name_of name_on
all_written = refl

looser_written : text_of_one AsStrict clone_numbers (looser ∷ []) ≡ told (codes "looser:\n56 clone: errno/1 EPERM -> allow\n")
unfolding digits encode_with action_of operation_of verdict_text error_named verdicts_text head_text part_text kind_text record_text call_text arguments_text argument_text call_with_constants name_of name_on
looser_written = refl

expected_written : text_of_one Expected clone_numbers (undecided ∷ unexpected ∷ [])
    ≡ told (codes "56 clone: expected refused -> allow\n") ++ codes "56 clone: undecided\n"
unfolding digits encode_with action_of operation_of verdict_text error_named verdicts_text head_text part_text kind_text record_text call_text arguments_text argument_text call_with_constants name_of name_on
expected_written = refl

pub order_works : OrderWorks
order_works = record {
  all = λ one other has has'.
      two_have Same (undecided ∷ otherwise ∷ stricter ∷ []) (stricter ∷ looser ∷ []) one other has has' ∙ all_written;
  as_strict = λ piece has. one_has AsStrict (looser ∷ []) piece has ∙ looser_written;
  expected = λ piece has. one_has Expected (undecided ∷ unexpected ∷ []) piece has ∙ expected_written;
}

-- what is found of one piece with these parts, and of two
abbrev of_one : List Part → Finding
of_one parts =
    if list_any shows_call parts || false then finding.Fails else if has_parts parts || false then finding.Undecided else finding.Holds

abbrev of_two : List Part → List Part → Finding
of_two parts others =
    if list_any shows_call parts || (list_any shows_call others || false) then finding.Fails
    else if has_parts parts || (has_parts others || false) then finding.Undecided
    else finding.Holds

found : (parts others : List Part) (one other : Piece) → HasParts parts one → HasParts others other → finding_of (one ∷ other ∷ []) ≡ of_two parts others
found parts others one other has has' = ap (λ ps. of_two ps other.parts.items) has.items ∙ ap (of_two parts) has'.items

pub findings_work : FindingsWork
findings_work = record {
  behind = λ one other has has'. found (undecided ∷ []) (looser ∷ []) one other has has';
  before = λ one other has has'. found (looser ∷ []) (undecided ∷ []) one other has has';
  beside = λ piece has. ap of_one has.items;
  unseen = λ piece has. ap of_one has.items;
  left_open = λ one other has has'. found [] (undecided ∷ []) one other has has';
  none = λ one other has has'. found [] [] one other has has';
}
