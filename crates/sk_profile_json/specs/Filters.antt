-- The image of a profile's filter.
use Rattle.std.specs.Prelude.{ℕ, ◌≡◌, List, Ok}
use Rattle.sk_insn.specs.declared.insn.Insn.{Insn}
use Rattle.sk_insn.specs.declared.record.Record.{Record}
use Rattle.sk_insn.specs.Instructions.{image_instructions}
use Rattle.sk_filter.specs.Valid.{IsValid}
use Rattle.sk_filter.specs.Meaning.{meaning_of}
use Rattle.sk_profile.specs.Code.{Section, filter_code}
use Rattle.sk_profile.specs.Means.{IsCall, Gives}
use Rattle.sk_profile.specs.Profiles.{Profile, said_by}

-- who reads the bytes gets a valid program that answers to every call what the profile says of it
pub record IsFilterOf (profile : Profile) (image : List ℕ) : Type 0 where
  pub insns : List Insn
  pub read : image_instructions image ≡ Ok insns
  pub valid : IsValid insns
  pub means : (call : Record) → IsCall call → Gives (said_by profile call) (meaning_of insns call)
  pub guard : (sections : List Section) × (insns ≡ filter_code profile.bad sections)
