-- How the numbers of a register are named where a line, or a call itself, says so much of the arguments.
use Rattle.std.specs.Prelude.{ℕ, ◌==◌, ◌&&◌, Bool, false, if◌then◌else◌, List, [], ◌∷◌, Option, Some, None, slice_index}
use Rattle.std.specs.Option.{option_map_or, option_or}
use Rattle.sk_arguments.specs.Constants.{form_of}
use Rattle.sk_arguments.specs.declared.forms.Form.{Form}
use Rattle.sk_arguments.specs.declared.forms.Form.TheVariants as form
use Rattle.sk_terms.specs.declared.choices.Choice.{Choice}
use Rattle.sk_terms.specs.declared.known.Known.{Known}
use Rattle.sk_terms.specs.declared.term.Register.{Register}
use Rattle.sk_terms.specs.declared.term.Register.TheVariants.{Number, Pointer, Argument}
use Rattle.sk_terms.specs.declared.term.Term.{Term}
use Rattle.sk_terms.specs.Constants.{is_whole}
use Rattle.sk_terms.specs.Terms.{is_equality}

abbrev pub is_argument : ℕ → Register → Bool
is_argument i Number = false
is_argument i Pointer = false
is_argument i (Argument other) = i == other

-- a term that gives an argument one number
abbrev pub fixes : ℕ → Term → Bool
fixes i term = is_argument i term.register && is_equality term && is_whole term.mask

-- the number that a choice of one term gives an argument
abbrev pub fixed_in : ℕ → List Term → Option ℕ
fixed_in i [] = None
fixed_in i (term ∷ []) = if fixes i term then Some term.first else None
fixed_in i (term ∷ other ∷ terms) = None

-- the number that a line gives an argument
abbrev pub fixed_by : List Choice → ℕ → Option ℕ
fixed_by [] i = None
fixed_by (choice ∷ choices) i = option_or (fixed_in i choice.terms.items) (fixed_by choices i)

-- what is known of each argument
abbrev pub of_each : (ℕ → Option ℕ) → List (Option ℕ)
of_each f = f 0 ∷ f 1 ∷ f 2 ∷ f 3 ∷ f 4 ∷ f 5 ∷ []

-- of a call by its number on x86-64, or of none: nothing is known, what a line says, or all arguments
abbrev pub nothing_known : Option ℕ → Known
nothing_known call = record { call = call; arguments = of_each (λ i. None) }

abbrev pub known_by : Option ℕ → List Choice → Known
known_by call choices = record { call = call; arguments = of_each (λ i. fixed_by choices i) }

abbrev pub all_known : Option ℕ → List ℕ → Known
all_known call args = record { call = call; arguments = of_each (λ i. Some (slice_index args i)) }

-- how the numbers of a register are named: only those of an argument are, and only where a call is given
abbrev pub form_on : Known → Register → Form
form_on known Number = form.Plain
form_on known Pointer = form.Plain
form_on known (Argument i) = option_map_or (λ nr. form_of nr i known.arguments) known.call form.Plain
