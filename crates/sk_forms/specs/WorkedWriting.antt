-- Texts that tools wrote of filters.
use Rattle.std.specs.Prelude.{◌≡◌, [], ◌∷◌, ◌++◌, codes}
use Rattle.sk_insn.specs.Instructions.{image_of}
use Rattle.sk_forms.specs.Rows.{insn}
use Rattle.sk_forms.specs.WorkedArrays.{lines, refuses}
use Rattle.sk_forms.specs.Writing.{array_text, base64_text, decimals_text}

pub record WorkedWriting : Type 0 where
  -- `tcpdump -dd -y EN10MB icmp`, of libpcap 1.10
  pub tcpdump :
      array_text (insn 40 0 0 12 ∷ insn 21 0 3 2048 ∷ insn 48 0 0 23 ∷ insn 21 0 1 1 ∷ insn 6 0 0 262144 ∷ insn 6 0 0 0 ∷ [])
      ≡ lines (codes "{ 0x28, 0, 0, 0x0000000c }," ∷ codes "{ 0x15, 0, 3, 0x00000800 }," ∷ codes "{ 0x30, 0, 0, 0x00000017 },"
      ∷ codes "{ 0x15, 0, 1, 0x00000001 }," ∷ codes "{ 0x6, 0, 0, 0x00040000 }," ∷ codes "{ 0x6, 0, 0, 0x00000000 }," ∷ [])
  -- bpf_asm, of Documentation/networking/filter.rst
  pub bpf_asm :
      decimals_text (insn 40 0 0 12 ∷ insn 21 0 1 2054 ∷ insn 6 0 0 4294967295 ∷ insn 6 0 0 0 ∷ [])
      ≡ codes "4,40 0 0 12,21 0 1 2054,6 0 0 4294967295,6 0 0 0," ++ 10 ∷ []
  -- `base64` of coreutils 9.1, of three instructions of a filter of docker's, of `ret #0` alone, and of three `ld #0`
  pub base64 :
      base64_text (image_of (insn 32 0 0 4 ∷ insn 21 1 0 3221225534 ∷ insn 6 0 0 2147418112 ∷ []))
      ≡ codes "IAAAAAQAAAAVAAEAPgAAwAYAAAAAAP9/" ++ 10 ∷ []
  pub padding : base64_text (image_of refuses) ≡ codes "BgAAAAAAAAA=" ++ 10 ∷ []
  pub loads : base64_text (image_of (insn 0 0 0 0 ∷ insn 0 0 0 0 ∷ insn 0 0 0 0 ∷ [])) ≡ codes "AAAAAAAAAAAAAAAAAAAAAAAAAAAAAAAA" ++ 10 ∷ []
