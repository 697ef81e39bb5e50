-- Which verdict calls of other architectures share, worked out by hand.
use Rattle.std.specs.Prelude.{◌≡◌, true, false, [], ◌∷◌, Some, None}
use Rattle.sk_names.specs.declared.architecture.Architecture.{Architecture}
use Rattle.sk_names.specs.declared.architecture.Architecture.TheVariants.{X86_64, X32, I386, Aarch64}
use Rattle.sk_survey.specs.declared.answered.Answered.{Answered}
use Rattle.sk_survey.specs.declared.answers.Answers.TheVariants.{Any}
use Rattle.sk_survey.specs.declared.other.Other.TheVariants.{Verdict, Several, Unknown}
use Rattle.sk_policy_when.specs.Smaller.{gets, shared_by}

-- any value may come to its calls
abbrev pub any_of : Architecture → Answered
any_of by = record { architecture = by; row = record { first = 0; last = 0xffffffff; answers = Any } }

-- kill_process is 0x80000000, errno/1 is 0x00050001
pub record OthersWork : Type 0 where
  pub gets_it : gets 0x80000000 I386 (Some 0x80000000) ≡ true
  pub gets_another : gets 0x80000000 Aarch64 (Some 0x00050001) ≡ false
  pub gets_several : gets 0x80000000 I386 None ≡ false
  pub x86_64_is_left_out : gets 0x80000000 X86_64 (Some 0x00050001) ≡ true
  pub x32_is_left_out : gets 0x80000000 X32 None ≡ true
  pub shared : shared_by (any_of X86_64 ∷ any_of X32 ∷ []) (Verdict 0x00050001) ≡ Verdict 0x00050001
  pub not_shared : shared_by (any_of X86_64 ∷ any_of X32 ∷ any_of I386 ∷ []) (Verdict 0x00050001) ≡ Several
  pub several_stay : shared_by [] Several ≡ Several
  pub unknown_stay : shared_by [] Unknown ≡ Unknown
