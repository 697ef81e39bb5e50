-- Conditions as expressions of C, and arguments of calls.
use Rattle.std.specs.Prelude.{ℕ, ◌==◌, ◌++◌, if◌then◌else◌, List, [], ◌∷◌, Option, codes, flat_map, false, slice_index}
use Rattle.std.specs.Fmt.{decimal, digits}
use Rattle.std.specs.Option.{option_map_or}
use Rattle.sk_arguments.specs.Constants.{name_in}
use Rattle.sk_arguments.specs.declared.forms.Form.{Form}
use Rattle.sk_terms.specs.declared.choices.Choice.{Choice}
use Rattle.sk_terms.specs.declared.constants.Part.{Part}
use Rattle.sk_terms.specs.declared.constants.Part.TheVariants as piece
use Rattle.sk_terms.specs.declared.known.Known.{Known}
use Rattle.sk_terms.specs.declared.lines.Line.{Line}
use Rattle.sk_terms.specs.declared.term.Register.{Register}
use Rattle.sk_terms.specs.declared.term.Register.TheVariants.{Number, Pointer, Argument}
use Rattle.sk_terms.specs.declared.term.Term.{Term}
use Rattle.sk_terms.specs.declared.wording.Wording.{Wording}
use Rattle.sk_terms.specs.declared.wording.Wording.TheVariants.{Is, IsNot, AtMost, AtLeast, Within, Outside}
use Rattle.sk_terms.specs.Constants.{Mask, some_of, all_but, lower_but, mask_of, parts_of}
use Rattle.sk_terms.specs.Expressions.{all_bits, wording_of}
use Rattle.sk_terms.specs.Known.{all_known, form_on, known_by, nothing_known}

-- a number in hexadecimal, as C reads it; 0 is `0`
abbrev pub number_text : ℕ → List ℕ
number_text n = if n == 0 then codes "0" else codes "0x" ++ digits 16 false n

abbrev pub register_text : Register → List ℕ
register_text Number = codes "nr"
register_text Pointer = codes "ip"
register_text (Argument i) = codes "args[" ++ (decimal i ++ codes "]")

-- a constant, or a number: `AF_INET`, `0x10`
abbrev pub part_text : Part → List ℕ
part_text (piece.Constant set n) = option_map_or (λ name. name) (name_in set n) (number_text n)
part_text (piece.Number n) = number_text n

-- parts with `|` between each two
abbrev pub parts_text : List Part → List ℕ
parts_text [] = []
parts_text (part ∷ parts) = part_text part ++ flat_map (λ part. codes "|" ++ part_text part) parts

-- the same beside operators
abbrev pub group_text : List Part → List ℕ
group_text [] = []
group_text (part ∷ []) = part_text part
group_text (part ∷ other ∷ parts) = codes "(" ++ (parts_text (part ∷ other ∷ parts) ++ codes ")")

abbrev pub mask_text : Mask → List ℕ
mask_text (some_of parts) = group_text parts
mask_text (all_but parts) = codes "~" ++ group_text parts
mask_text (lower_but parts) = codes "0xffffffff & ~" ++ group_text parts

-- some bits of a register: `(args[0] & CLONE_NEWUSER)`, or the register where they are all of them
abbrev pub bits_text : Form → Register → ℕ → List ℕ
bits_text form register mask =
    if mask == all_bits register then register_text register
    else codes "(" ++ (register_text register ++ (codes " & " ++ (mask_text (mask_of form mask) ++ codes ")")))

-- the number that some bits are, or are not
abbrev pub value_text : Form → ℕ → ℕ → List ℕ
value_text form mask n = group_text (parts_of form mask n)

-- an expression on some bits; bounds are numbers
abbrev pub wording_text : Form → Register → ℕ → Wording → List ℕ
wording_text form register mask (Is k) = bits_text form register mask ++ (codes " == " ++ value_text form mask k)
wording_text form register mask (IsNot k) = bits_text form register mask ++ (codes " != " ++ value_text form mask k)
wording_text form register mask (AtMost k) = bits_text form register mask ++ (codes " <= " ++ number_text k)
wording_text form register mask (AtLeast k) = bits_text form register mask ++ (codes " >= " ++ number_text k)
wording_text form register mask (Within first last) =
    let bits = bits_text form register mask in
    number_text first ++ (codes " <= " ++ (bits ++ (codes " && " ++ (bits ++ (codes " <= " ++ number_text last)))))
wording_text form register mask (Outside first last) =
    let bits = bits_text form register mask in
    codes "(" ++ (bits ++ (codes " < " ++ (number_text first ++ (codes " || " ++ (number_text last ++ (codes " < " ++ (bits ++ codes ")")))))))

-- a term, where so much is known of the arguments
abbrev pub known_text : Known → Term → List ℕ
known_text known term = wording_text (form_on known term.register) term.register term.mask (wording_of term)

-- a term by itself, with the constants of a call where one is given
abbrev pub term_text : Option ℕ → Term → List ℕ
term_text call term = known_text (nothing_known call) term

-- a term that stands beside others: what has `&&` in it is in brackets
abbrev pub beside_text : Wording → List ℕ → List ℕ
beside_text (Within first last) text = codes "(" ++ (text ++ codes ")")
beside_text wording text = text

abbrev pub other_text : Known → Term → List ℕ
other_text known term = beside_text (wording_of term) (known_text known term)

-- one of the terms holds; of none at all none does
abbrev pub terms_text : Known → List Term → List ℕ
terms_text known [] = codes "0"
terms_text known (term ∷ []) = known_text known term
terms_text known (term ∷ other ∷ terms) = other_text known term ++ flat_map (λ term. codes " || " ++ other_text known term) (other ∷ terms)

-- the same beside other conditions
abbrev pub choice_text : Known → List Term → List ℕ
choice_text known [] = codes "0"
choice_text known (term ∷ []) = known_text known term
choice_text known (term ∷ other ∷ terms) = codes "(" ++ (terms_text known (term ∷ other ∷ terms) ++ codes ")")

-- of each choice one of the terms holds; where there is no choice, always
abbrev pub choices_text : Known → List Choice → List ℕ
choices_text known [] = codes "1"
choices_text known (choice ∷ []) = terms_text known choice.terms.items
choices_text known (choice ∷ other ∷ choices) =
    choice_text known choice.terms.items ++ flat_map (λ choice. codes " && " ++ choice_text known choice.terms.items) (other ∷ choices)

-- the condition of a line, with the constants of a call where one is given
abbrev pub condition_text : Option ℕ → Line → List ℕ
condition_text call line = choices_text (known_by call line.choices.items) line.choices.items

-- ---- arguments of a call

-- a number in hexadecimal, as C has it
abbrev pub hexadecimal : ℕ → List ℕ
hexadecimal n = codes "0x" ++ digits 16 false n

-- a part that stands alone
abbrev pub alone_text : Part → List ℕ
alone_text (piece.Constant set n) = part_text (piece.Constant set n)
alone_text (piece.Number n) = hexadecimal n

-- parts between commas
abbrev pub passed_text : List Part → List ℕ
passed_text [] = []
passed_text (part ∷ []) = alone_text part
passed_text (part ∷ other ∷ parts) = parts_text (part ∷ other ∷ parts)

-- an argument behind others, with the constants of a call where one is given
unfoldable pub argument_text : Option ℕ → List ℕ → ℕ → List ℕ
argument_text call args i =
    codes ", " ++ passed_text (parts_of (form_on (all_known call args) (Argument i)) 0xffffffffffffffff (slice_index args i))
