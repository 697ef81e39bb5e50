-- The filter of a profile, as its bytes go out to C: the JSON of a container runtime, and where it is to hold; and what is said where
-- it has none.
use Rattle.std.specs.Prelude.{ℕ, ◌≡◌, ◌⊎◌, ◌/◌, ◌%◌, ◌==◌, false, if◌then◌else◌, List, [], ◌∷◌, Vec, Some, Result, Ok, Err}
use Rattle.std.specs.Global.{Global}
use Rattle.sk_profile_json.specs.declared.answer.Made.{Made}
use Rattle.sk_profile_json.specs.declared.answer.Refusal.{Refusal}
use Rattle.sk_profile_json.specs.declared.answer.Refusal.TheVariants.{NoMachine, NotText, NotJson, KeyTwice, NoProfile, Wrong, Clashes, TooLong}
use Rattle.sk_profile_json.specs.declared.context.Context.{Context}
use Rattle.sk_profile_json.specs.declared.machine.Machine.TheVariants.{X86_64}
use Rattle.sk_profile_json.specs.Capabilities.{all_names, names_of}
use Rattle.sk_profile_json.specs.Made.{IsMade}
use Rattle.sk_profile_json.specs.Texts.{refusal_text}
use Rattle.libskern.specs.declared.fault.Fault.{Fault}
use Rattle.libskern.specs.declared.profile.Setting.{Setting}
use Rattle.libskern.specs.Faults.{plain}
use Rattle.libskern.specs.Writing.{IsGiven, IsSaid}

-- those of some names whose bits are set, from the lowest on: linux/capability.h numbers the capabilities in this order
abbrev pub held_names : ℕ → List (List ℕ) → List (List ℕ)
held_names bits [] = []
held_names bits (name ∷ names) = if bits % 2 == 1 then name ∷ held_names (bits / 2) names else held_names (bits / 2) names

-- the library's context for a setting: on x86-64, with all architectures that are listed for it
pub record IsThere (setting : Setting) (context : Context) : Type 0 where
  pub held : names_of context.capabilities.now ≡ held_names setting.capabilities all_names
  pub major : context.kernel.major ≡ setting.kernel_major
  pub minor : context.kernel.minor ≡ setting.kernel_minor
  pub runc : context.runc ≡ setting.runc
  pub machine : context.machine ≡ Some X86_64
  pub native : context.native ≡ false

-- the bytes are the image that is made of the profile there
abbrev pub IsImageOf : Setting → List ℕ → List ℕ → Type 0
IsImageOf setting profile image =
    (context : Context) × IsThere setting context × ((made : Made) × IsMade context profile (Ok made) × (made.image.items ≡ image))

-- or it has none there, for this reason
abbrev pub HasNone : Setting → List ℕ → Refusal → Type 0
HasNone setting profile refusal = (context : Context) × IsThere setting context × IsMade context profile (Err refusal)

abbrev pub IsMadeThere : Setting → List ℕ → Result (Vec ℕ Global) Refusal → Type 0
IsMadeThere setting profile (Ok image) = IsImageOf setting profile image.items
IsMadeThere setting profile (Err refusal) = HasNone setting profile refusal

-- the numbers of the reasons. A setting has a machine, so that the last reason never comes
abbrev pub refusal_number : Refusal → ℕ
refusal_number TooLong = 2
refusal_number NotText = 17
refusal_number (NotJson slip) = 18
refusal_number KeyTwice = 19
refusal_number (NoProfile why) = 20
refusal_number (Wrong fault) = 20
refusal_number (Clashes it) = 21
refusal_number NoMachine = 20

-- what a caller gets: the filter, where there is room for it, or why there is none
abbrev pub AnswersProfile : Setting → List ℕ → List ℕ → Fault → ℕ → List ℕ → Type 0
AnswersProfile setting profile room fault size out =
    ((image : List ℕ) × IsImageOf setting profile image × IsGiven image room fault size out)
    ⊎ ((refusal : Refusal) × HasNone setting profile refusal
    × IsSaid (plain (refusal_number refusal)) (refusal_text refusal) room fault size out)
