-- What is written of a filter is read as the same filter.
use Rattle.std.specs.Prelude.{◌≡◌, ◌⊎◌, ◌<◌, ◌≤◌, ◌-◌, ◌%◌, ◌^◌, All, true, List, length, slice_get, slice_index, Some, ℕ}
use Rattle.std.specs.Option.{is_some}
use Rattle.base64.specs.GeneralPurpose.{IsBytes}
use Rattle.sk_insn.specs.declared.insn.Insn.{Insn}
use Rattle.sk_insn.specs.Instructions.{image_of}
use Rattle.sk_insn.specs.Operations.{operation_of}
use Rattle.sk_forms.specs.Listings.{listing_of}
use Rattle.sk_forms.specs.Writing.{array_text, base64_text, decimals_text}

-- fields of 16, 8, 8 and 32 bits, as each value of the code's type has
pub record IsInRange (given : Insn) : Type 0 where
  pub code : given.code < 2 ^ 16
  pub jt : given.jt < 2 ^ 8
  pub jf : given.jf < 2 ^ 8
  pub k : given.k < 2 ^ 32

-- at least one instruction, as arrays have them
abbrev pub ArraysComeBack : Type 0
ArraysComeBack = (insns : List Insn) → All IsInRange insns → 0 < length insns → listing_of (array_text insns) ≡ Some (image_of insns)

-- no more than a number of 32 bits counts
abbrev pub DecimalsComeBack : Type 0
DecimalsComeBack =
    (insns : List Insn) → All IsInRange insns → 0 < length insns → length insns < 2 ^ 32 → listing_of (decimals_text insns) ≡ Some (image_of insns)

-- bytes of whole instructions, of which the code of the first is low enough for a text that begins with a letter, and the last one's, 6 or 22, has a letter
-- that is no hexadecimal digit. Three `ld #0` alone would be 32 letters `A`
pub record IsReturningImage (image : List ℕ) : Type 0 where
  pub bytes : IsBytes image
  pub some : 8 ≤ length image
  pub whole : length image % 8 ≡ 0
  pub first : slice_index image 0 < 208
  pub last_low : slice_index image (length image - 8) % 16 ≡ 6
  pub last_high : slice_index image (length image - 7) ≡ 0

abbrev pub Base64ComesBack : Type 0
Base64ComesBack = (image : List ℕ) → IsReturningImage image → listing_of (base64_text image) ≡ Some image

-- a valid filter's first code is one of seccomp(2), and its last instruction a return
abbrev pub FiltersComeBack : Type 0
FiltersComeBack =
    (insns : List Insn) (first last : Insn) → All IsInRange insns → slice_get insns 0 ≡ Some first → slice_get insns (length insns - 1) ≡ Some last
    → is_some (operation_of first.code) ≡ true → (last.code ≡ 6) ⊎ (last.code ≡ 22) → listing_of (base64_text (image_of insns)) ≡ Some (image_of insns)
