-- No condition begins with a blank, and which words its first line has.
use Rattle.std.proofs.Common.{◌≡◌, ◌==◌, refl, inl, inr, ℕ, List, [], ◌∷◌, ◌++◌, true}
use Rattle.std.proofs.lemmas.Bool.{cases_Bool, false≢true}
use Rattle.sk_arguments.specs.declared.forms.Form.{Form}
use Rattle.sk_terms.specs.declared.choices.Choice.{Choice}
use Rattle.sk_terms.specs.declared.known.Known.{Known}
use Rattle.sk_terms.specs.declared.term.Register.{Register}
use Rattle.sk_terms.specs.declared.term.Register.TheVariants.{Number, Pointer, Argument}
use Rattle.sk_terms.specs.declared.term.Term.{Term}
use Rattle.sk_terms.specs.declared.wording.Wording.{Wording}
use Rattle.sk_terms.specs.declared.wording.Wording.TheVariants.{Is, IsNot, AtMost, AtLeast, Within, Outside}
use Rattle.sk_terms.specs.Expressions.{all_bits, wording_of}
use Rattle.sk_terms.specs.Known.{form_on}
use Rattle.sk_terms.specs.Text.{beside_text, bits_text, choice_text, choices_text, known_text, number_text, other_text, register_text, terms_text, wording_text}
use Rattle.sk_policy_text.specs.Words.{is_blank}
use Rattle.sk_policy_when.proofs.Broken.{is_solid}

before_others : (text rest : List ℕ) → is_solid text ≡ true → is_solid (text ++ rest) ≡ true
before_others [] rest h = absurd (false≢true h)
before_others (byte ∷ text) rest h = h

number_solid : (n : ℕ) → is_solid (number_text n) ≡ true
unfolding is_blank
number_solid n = elim (cases_Bool (n == 0)) [
  | inl t ↦ rw t refl
  | inr f ↦ rw f refl
]

register_solid : (register : Register) → is_solid (register_text register) ≡ true
unfolding is_blank
register_solid Number = refl
register_solid Pointer = refl
register_solid (Argument i) = refl

bits_solid : (it : Form) (register : Register) (mask : ℕ) → is_solid (bits_text it register mask) ≡ true
unfolding is_blank
bits_solid it register mask = elim (cases_Bool (mask == all_bits register)) [
  | inl t ↦ rw t (register_solid register)
  | inr f ↦ rw f refl
]

wording_solid : (it : Form) (register : Register) (mask : ℕ) (wording : Wording) → is_solid (wording_text it register mask wording) ≡ true
unfolding is_blank
wording_solid it register mask (Is k) = before_others (bits_text it register mask) _ (bits_solid it register mask)
wording_solid it register mask (IsNot k) = before_others (bits_text it register mask) _ (bits_solid it register mask)
wording_solid it register mask (AtMost k) = before_others (bits_text it register mask) _ (bits_solid it register mask)
wording_solid it register mask (AtLeast k) = before_others (bits_text it register mask) _ (bits_solid it register mask)
wording_solid it register mask (Within n m) = before_others (number_text n) _ (number_solid n)
wording_solid it register mask (Outside n m) = refl

known_solid : (known : Known) (term : Term) → is_solid (known_text known term) ≡ true
known_solid known term = wording_solid (form_on known term.register) term.register term.mask (wording_of term)

beside_solid : (wording : Wording) (text : List ℕ) → is_solid text ≡ true → is_solid (beside_text wording text) ≡ true
unfolding is_blank
beside_solid (Is k) text h = h
beside_solid (IsNot k) text h = h
beside_solid (AtMost k) text h = h
beside_solid (AtLeast k) text h = h
beside_solid (Within n m) text h = refl
beside_solid (Outside n m) text h = h

terms_solid : (known : Known) (terms : List Term) → is_solid (terms_text known terms) ≡ true
unfolding is_blank
terms_solid known [] = refl
terms_solid known (term ∷ []) = known_solid known term
terms_solid known (term ∷ other ∷ terms) = before_others (other_text known term) _ (beside_solid (wording_of term) (known_text known term) (known_solid known term))

choice_solid : (known : Known) (terms : List Term) → is_solid (choice_text known terms) ≡ true
unfolding is_blank
choice_solid known [] = refl
choice_solid known (term ∷ []) = known_solid known term
choice_solid known (term ∷ other ∷ terms) = refl

pub choices_solid : (known : Known) (choices : List Choice) → is_solid (choices_text known choices) ≡ true
unfolding is_blank
choices_solid known [] = refl
choices_solid known (choice ∷ []) = terms_solid known choice.terms.items
choices_solid known (choice ∷ other ∷ choices) = before_others (choice_text known choice.terms.items) _ (choice_solid known choice.terms.items)
