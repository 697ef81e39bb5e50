-- Entries that part calls, and what is said of them, worked out by hand: profiles that refuse sockets of one family, and calls by which Linux makes one.
use Rattle.std.specs.Prelude.{ℕ, ◌≡◌, ◌^◌, ◌+◌, ◌++◌, List, [], ◌∷◌, codes, Option, Some}
use Rattle.std.specs.Option.{option_and_then, option_map}
use Rattle.std.specs.Result.{result_ok}
use Rattle.json.specs.Json.{document}
use Rattle.sk_insn.specs.declared.record.Record.{Record}
use Rattle.sk_insn.specs.Record.{native}
use Rattle.sk_profile.specs.declared.condition.Test.{Test}
use Rattle.sk_profile.specs.declared.condition.Test.TheVariants.{Is, IsNot, Below, Masked}
use Rattle.sk_profile_json.specs.declared.parting.Parting.{Parting}
use Rattle.sk_profile_json.specs.Partings.{partings_of}
use Rattle.sk_profile_json.specs.PartingTexts.{below_text, beyond_text, each_text, masked_text, parting_text}
use Rattle.sk_profile_json.specs.Texts.{entry_text}
use Rattle.sk_profile_json.specs.Wholes.{profile_in}
use Rattle.sk_profile_json.specs.WorkedFiles.{plain}

-- ---- calls

abbrev pub socket : ℕ → ℕ → Record
socket family protocol = native 41 0 (family ∷ 3 ∷ protocol ∷ 0 ∷ 0 ∷ 0 ∷ [])

abbrev pub x32_socket : ℕ → Record
x32_socket family = native 0x40000029 0 (family ∷ 3 ∷ 0 ∷ 0 ∷ 0 ∷ 0 ∷ [])

-- the number with a bit that Linux does not read of an int
abbrev pub wide : ℕ → ℕ
wide number = 2 ^ 32 + number

-- ---- profiles

abbrev pub partings : List ℕ → Record → Record → Option (List Parting)
partings text one other = option_map (λ profile. partings_of profile one other) (option_and_then (λ j. result_ok (profile_in plain j)) (document text))

-- all but AF_VSOCK, 40, as runc's examples have it
abbrev pub but_vsock : List ℕ
but_vsock = codes "{\"defaultAction\": \"SCMP_ACT_ERRNO\", \"architectures\": [\"SCMP_ARCH_X86_64\", \"SCMP_ARCH_X32\"], \"syscalls\": [{\"names\": [\"socket\", \"socket\"], \"action\": \"SCMP_ACT_ALLOW\", \"args\": [{\"index\": 0, \"value\": 40, \"op\": \"SCMP_CMP_NE\"}]}]}"

-- no AF_VSOCK, by the 32 bits that Linux reads
abbrev pub no_vsock : List ℕ
no_vsock = codes "{\"defaultAction\": \"SCMP_ACT_ALLOW\", \"syscalls\": [{\"names\": [\"socket\"], \"action\": \"SCMP_ACT_ERRNO\", \"args\": [{\"index\": 0, \"value\": 4294967295, \"valueTwo\": 40, \"op\": \"SCMP_CMP_MASKED_EQ\"}]}]}"

-- no AF_NETLINK, 16, with NETLINK_AUDIT, 9, as podman's has it
abbrev pub no_audit : List ℕ
no_audit = codes "{\"defaultAction\": \"SCMP_ACT_ERRNO\", \"syscalls\": [{\"names\": [\"socket\"], \"action\": \"SCMP_ACT_ERRNO\", \"errnoRet\": 22, \"args\": [{\"index\": 0, \"value\": 16, \"op\": \"SCMP_CMP_EQ\"}, {\"index\": 2, \"value\": 9, \"op\": \"SCMP_CMP_EQ\"}]}, {\"names\": [\"socket\"], \"action\": \"SCMP_ACT_ALLOW\", \"args\": [{\"index\": 2, \"value\": 9, \"op\": \"SCMP_CMP_NE\"}]}, {\"names\": [\"socket\"], \"action\": \"SCMP_ACT_ALLOW\", \"args\": [{\"index\": 0, \"value\": 16, \"op\": \"SCMP_CMP_NE\"}]}]}"

abbrev pub parted : ℕ → ℕ → Test → ℕ → Parting
parted entry index test value = record { entry = entry; condition = record { index = index; test = test; value = value } }

-- what is said of an entry, an operator and an argument, before how it is written
abbrev pub said : ℕ → List ℕ → ℕ → List ℕ → List ℕ
said entry operator index repair = entry_text entry ++ ((operator ++ beyond_text index) ++ repair)

pub record WorkedPartings : Type 0 where
  -- an entry that names the call twice is told once
  pub vsock : partings but_vsock (socket 40 0) (socket (wide 40) 0) ≡ Some (parted 0 0 IsNot 40 ∷ [])
  pub another_family : partings but_vsock (socket 41 0) (socket (wide 41) 0) ≡ Some []
  pub lower_halves_alone : partings but_vsock (x32_socket 40) (x32_socket (wide 40)) ≡ Some []
  pub by_mask : partings no_vsock (socket 40 0) (socket (wide 40) 0) ≡ Some []
  -- by the first argument the third entry does so, by the third argument the second, and the first entry by either
  pub audit_by_family : partings no_audit (socket 16 9) (socket (wide 16) 9) ≡ Some (parted 0 0 Is 16 ∷ parted 2 0 IsNot 16 ∷ [])
  pub audit_by_protocol : partings no_audit (socket 16 9) (socket 16 (wide 9)) ≡ Some (parted 0 2 Is 9 ∷ parted 1 2 IsNot 9 ∷ [])
  -- an entry of which neither call meets all is not told
  pub other_protocol : partings no_audit (socket 16 8) (socket (wide 16) 8) ≡ Some (parted 2 0 IsNot 16 ∷ [])
  -- what is said of them
  pub equal : parting_text (parted 2 0 Is 16) ≡ said 2 (codes "SCMP_CMP_EQ") 0 (masked_text 4294967295 16)
  pub minus_one : parting_text (parted 0 0 Is 0xffffffffffffffff) ≡ said 0 (codes "SCMP_CMP_EQ") 0 (masked_text 4294967295 4294967295)
  pub masked : parting_text (parted 0 1 (Masked 0xffffffff00000010) 16) ≡ said 0 (codes "SCMP_CMP_MASKED_EQ") 1 (masked_text 16 16)
  pub upper_half : parting_text (parted 0 1 (Masked 0xffffffff00000000) 0) ≡ said 0 (codes "SCMP_CMP_MASKED_EQ") 1 (codes "leave the comparison out")
  pub unequal : parting_text (parted 1 2 IsNot 9) ≡ said 1 (codes "SCMP_CMP_NE") 2 (each_text ++ below_text 9)
  pub less : parting_text (parted 0 0 Below 40) ≡ said 0 (codes "SCMP_CMP_LT") 0 each_text
