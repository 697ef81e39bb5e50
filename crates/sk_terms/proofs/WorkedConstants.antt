-- The worked examples of constants, by computation on the tables of constants.
use Rattle.std.proofs.Common.{◌≡◌, ℕ, ◌++◌, List, [], ◌∷◌, map, Option, None, Some, codes, ap, ◌∙◌, refl}
use Rattle.std.specs.Fmt.{digits}
use Rattle.std.specs.Int.Count.{ones_in}
use Rattle.std.specs.Option.{option_or}
use Rattle.sk_arguments.specs.Constants.{all_names, all_numbers, form_of, holds, name_in}
use Rattle.sk_terms.specs.declared.choices.Choice.{Choice}
use Rattle.sk_terms.specs.declared.known.Known.{Known}
use Rattle.sk_terms.specs.declared.term.Term.{Term}
use Rattle.sk_terms.specs.Known.{fixed_in, known_by, of_each}
use Rattle.sk_terms.specs.Text.{argument_text, choice_text, choices_text}
use Rattle.sk_terms.specs.WorkedConstants.{ConstantsWork}

-- two choices
abbrev known_two : Option ℕ → List Term → List Term → Known
known_two call one other = record { call = call; arguments = of_each (λ i. option_or (fixed_in i one) (option_or (fixed_in i other) None)) }

abbrev two_text : Option ℕ → List Term → List Term → List ℕ
two_text call one other = choice_text (known_two call one other) one ++ ((codes " && " ++ choice_text (known_two call one other) other) ++ [])

two_choices : (call : Option ℕ) (choices : List Choice) (one other : List Term) → map (λ choice. choice.terms.items) choices ≡ one ∷ other ∷ []
    → choices_text (known_by call choices) choices ≡ two_text call one other
two_choices call [] one other e = cc
two_choices call (choice ∷ []) one other e = cc
two_choices call (choice ∷ another ∷ []) one other e =
    let first : choice.terms.items ≡ one = cc in
    let second : another.terms.items ≡ other = cc in
    ap (λ terms. two_text call terms another.terms.items) first ∙ ap (two_text call one) second
two_choices call (choice ∷ another ∷ more ∷ choices) one other e = cc

pub constants_work : ConstantsWork
unfolding digits all_names all_numbers form_of holds name_in argument_text ones_in
constants_work = record {
  clone = refl;
  clone_of_no_call = refl;
  clone_of_another = refl;
  one_bit = refl;
  in_part = refl;
  mostly = refl;
  signal = refl;
  bit_31 = refl;
  socket_type = λ line e. two_choices (Some 41) line.choices.items _ _ e;
  in_half = refl;
  unsigned = refl;
  unsigned_in_half = refl;
  unspecified = refl;
  half = refl;
  few_bits = refl;
  bound = refl;
  netlink = λ line e. two_choices (Some 41) line.choices.items _ _ e;
  internet = λ line e. two_choices (Some 41) line.choices.items _ _ e;
  unknown = refl;
  terminal = refl;
  personality = refl;
  reading = refl;
  field_cut = refl;
  not_creating = refl;
  synchronous = refl;
  not_synchronous = refl;
  family = refl;
  kind = refl;
  protocol = refl;
  no_argument = refl;
  nothing = refl;
  family_alone = refl;
}
