-- Worked examples of filters that are followed: codes of linux/bpf_common.h, as libseccomp's export of a rule with a mask has
-- them, and each of those that no filter of libseccomp has.
use Rattle.std.specs.Prelude.{ℕ, ◌≡◌, false, List, [], ◌∷◌, map}
use Rattle.sk_insn.specs.declared.insn.Insn.{Insn}
use Rattle.sk_insn.specs.Operations.{operation_of}
use Rattle.sk_conditions.specs.Followed.{AreFollowed, is_followed}

abbrev pub coded : ℕ → ℕ → ℕ → ℕ → Insn
coded code jt jf k = record { code = code; jt = jt; jf = jf; k = k }

-- BPF_LD | BPF_W | BPF_ABS, jumps with a constant, BPF_ALU | BPF_AND | BPF_K, BPF_JMP | BPF_JA, BPF_LD | BPF_IMM, and
-- BPF_RET | BPF_K: clone(2) with a flag of 0x7e020000 has error 1, and so has a call of a number above 462
abbrev pub masks_flags : List Insn
masks_flags =
    coded 0x20 0 0 0 ∷
    coded 0x25 6 0 462 ∷
    coded 0x15 0 4 56 ∷
    coded 0x20 0 0 16 ∷
    coded 0x54 0 0 0x7e020000 ∷
    coded 0x15 1 0 0 ∷
    coded 0x05 0 0 1 ∷
    coded 0x06 0 0 0x7fff0000 ∷
    coded 0x00 0 0 1 ∷
    coded 0x35 1 0 1 ∷
    coded 0x45 0 0 1 ∷
    coded 0x06 0 0 0x00050001 ∷
    []

-- BPF_ALU | BPF_OR | BPF_K, BPF_ALU | BPF_AND | BPF_X, BPF_JMP | BPF_JEQ | BPF_X, BPF_LDX | BPF_IMM, BPF_LD | BPF_MEM, BPF_ST,
-- BPF_MISC | BPF_TAX, and BPF_RET | BPF_A
abbrev pub others : List ℕ
others = 0x44 ∷ 0x5c ∷ 0x1d ∷ 0x01 ∷ 0x60 ∷ 0x02 ∷ 0x07 ∷ 0x16 ∷ []

pub record FollowedWork : Type 0 where
  pub followed : AreFollowed masks_flags
  pub not_followed : map (λ code. is_followed (operation_of code)) others
      ≡ false ∷ false ∷ false ∷ false ∷ false ∷ false ∷ false ∷ false ∷ []
