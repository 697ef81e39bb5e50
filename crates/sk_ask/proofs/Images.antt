-- The image of a profile's filter has a NUL byte, is valid, and has room in a chain.
use Rattle.std.proofs.Common.{◌≡◌, ℕ, zero, suc, ◌+◌, ◌/◌, ◌%◌, ◌≤◌, ◌==◌, nat_lt, Bool, true, false, inl, inr, List, [], ◌∷◌, length, None, Ok, refl, sym, ap, ◌∙◌, arith}
use Rattle.std.specs.List.{list_any}
use Rattle.std.proofs.lemmas.Bool.{cases_lt, le-ltb}
use Rattle.byteorder.specs.Endian.{little_number}
use Rattle.sk_insn.specs.declared.insn.Insn.{Insn}
use Rattle.sk_insn.specs.Instructions.{insn_of, instructions_in, image_instructions}
use Rattle.sk_filter.specs.declared.fault.CheckFault.TheVariants.{TooLong}
use Rattle.sk_filter.specs.FirstFault.{first_fault}
use Rattle.sk_filter.proofs.FirstFaults.{valid-first_fault}
use Rattle.sk_profile.specs.Profiles.{Profile}
use Rattle.sk_engines.specs.Filters.{chained}
use Rattle.sk_profile_json.specs.Filters.{IsFilterOf}
use Rattle.sk_ask.specs.declared.form.Form.TheVariants as form
use Rattle.sk_ask.specs.Filters.{no_filters, with_file, with_files, filters_in, chain_of}
use Rattle.sk_ask.specs.Forms.{form_of}
use Rattle.sk_ask.specs.Reading.{judged}
use Rattle.sk_ask.specs.Images.{alone}

-- the instructions that were read, by their number
read_in : (image : List ℕ) (insns : List Insn) → image_instructions image ≡ Ok insns → insns ≡ instructions_in (length image / 8) image
read_in image insns e = by (nat_lt 0 (length image % 8)) (length image == 0) (nat_lt 4096 (length image / 8)) refl refl refl where
  by : (ragged empty long : Bool) → nat_lt 0 (length image % 8) ≡ ragged → (length image == 0) ≡ empty → nat_lt 4096 (length image / 8) ≡ long → insns ≡ instructions_in (length image / 8) image
  by true empty long r m l = let no_image = rw r at e in cc
  by false true long r m l = let no_image = rw (r, m) at e in cc
  by false false true r m l = let no_image = rw (r, m, l) at e in cc
  by false false false r m l = let all = rw (r, m, l) at e in cc

-- the first of them
first_read : (n : ℕ) (image : List ℕ) (first : Insn) (more : List Insn) → first ∷ more ≡ instructions_in n image → insn_of image ≡ first
first_read zero image first more e = cc
first_read (suc n) image first more e = cc

some_read : (n : ℕ) (image : List ℕ) (first : Insn) (more : List Insn) → first ∷ more ≡ instructions_in n image → 1 ≤ n
some_read zero image first more e = cc
some_read (suc n) image first more e = omega arith

-- of which the code is 32, so that the second byte is NUL
has_nul : (image : List ℕ) → 2 ≤ length image → little_number 2 image ≡ 32 → list_any (λ byte. byte == 0) image ≡ true
has_nul [] long e = absurd (omega (arith, long))
has_nul (one ∷ []) long e = absurd (omega (arith, long))
has_nul (one ∷ other ∷ image) long e = let none : other ≡ 0 = omega (arith, e) in by (one == 0) refl none where
  by : (first : Bool) → (one == 0) ≡ first → other ≡ 0 → list_any (λ byte. byte == 0) (one ∷ other ∷ image) ≡ true
  by true f none = rw f refl
  by false f none = rw (f, none) refl

raw_form : (image : List ℕ) → list_any (λ byte. byte == 0) image ≡ true → form_of image ≡ form.Raw
unfolding form_of
raw_form image e = rw e refl

is_raw : (profile : Profile) (image : List ℕ) → IsFilterOf profile image → form_of image ≡ form.Raw
is_raw profile image filter =
    let begins = sym filter.guard.1 ∙ read_in image filter.insns filter.read in
    let some = some_read (length image / 8) image _ _ begins in
    raw_form image (has_nul image (omega (arith, some)) (ap (λ (insn : Insn). insn.code) (first_read (length image / 8) image _ _ begins)))

one_file : (image : List ℕ) → form_of image ≡ form.Raw → with_file 0 no_filters image ≡ Ok (alone image)
one_file image e = rw (e, with_file) refl

found_in : (image : List ℕ) → form_of image ≡ form.Raw → filters_in (image ∷ []) ≡ Ok (alone image)
found_in image e = rw (one_file image e, filters_in, with_files) refl

one_chain : (image : List ℕ) (insns : List Insn) → image_instructions image ≡ Ok insns → first_fault insns ≡ None → nat_lt 32768 (length insns + 0) ≡ false
    → chained 0 [] (image ∷ []) ≡ Ok (insns ∷ [])
one_chain image insns read valid room = rw (read, valid, room, chained) refl

chain_in : (image : List ℕ) (insns : List Insn) → chained 0 [] (image ∷ []) ≡ Ok (insns ∷ []) → chain_of (alone image) ≡ Ok (insns ∷ [])
chain_in image insns e = rw (e, chain_of) refl

pub image_is_its_filter : (profile : Profile) (image : List ℕ) (filter : IsFilterOf profile image) → judged (image ∷ []) ≡ Ok (alone image, filter.insns ∷ [])
image_is_its_filter profile image filter =
    let few : length filter.insns ≤ 4096 = elim (cases_lt 4096 (length filter.insns)) [ inl more ↦ absurd (filter.valid TooLong more) | inr few ↦ few ] in
    let room : nat_lt 32768 (length filter.insns + 0) ≡ false = le-ltb 32768 (length filter.insns + 0) (omega (arith, few)) in
    let chain = chain_in image filter.insns (one_chain image filter.insns filter.read (valid-first_fault filter.insns filter.valid) room) in
    rw (found_in image (is_raw profile image filter), chain, judged) refl
