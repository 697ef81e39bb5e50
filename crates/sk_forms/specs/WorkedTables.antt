-- Tables that are read by hand, and texts that are none.
use Rattle.std.specs.Prelude.{[], ◌∷◌, codes}
use Rattle.sk_forms.specs.Rows.{insn}
use Rattle.sk_forms.specs.WorkedArrays.{lines, lists, lists_none, refuses}

pub record WorkedTables : Type 0 where
  -- README.md of seccomp-tools, of its dump: three rows, numbered anew
  pub seccomp_tools :
      lists (lines (codes " line  CODE  JT   JF      K" ∷ codes "=================================" ∷ codes " 0000: 0x20 0x00 0x00 0x00000004  A = arch"
      ∷ codes " 0001: 0x15 0x01 0x00 0xc000003e  if (A == ARCH_X86_64) goto 0003" ∷ codes " 0002: 0x06 0x00 0x00 0x00000000  return KILL" ∷ []))
      (insn 32 0 0 4 ∷ insn 21 1 0 3221225534 ∷ insn 6 0 0 0 ∷ [])
  -- scmp_bpf_disasm of libseccomp (tools/scmp_bpf_disasm.c)
  pub scmp_bpf_disasm :
      lists (lines (codes " line  OP   JT   JF   K" ∷ codes "=================================" ∷ codes " 0000: 0x20 0x00 0x00 0x00000004   ld  $data[4]"
      ∷ codes " 0001: 0x15 0x00 0x01 0xc000003e   jeq 3221225534 true:0002 false:0003" ∷ codes " 0002: 0x06 0x00 0x00 0x7fff0000   ret ALLOW" ∷ codes " 0003: 0x06 0x00 0x00 0x00000000   ret KILL" ∷ []))
      (insn 32 0 0 4 ∷ insn 21 0 1 3221225534 ∷ insn 6 0 0 2147418112 ∷ insn 6 0 0 0 ∷ [])
  pub no_head : lists (codes "0000: 0x06 0x00 0x00 0x00000000") refuses
  pub blank_lines : lists (lines (codes "0000: 6 0 0 0" ∷ [] ∷ codes "0001: 6 0 0 1" ∷ [] ∷ [])) (insn 6 0 0 0 ∷ insn 6 0 0 1 ∷ [])
  pub head_alone : lists_none (lines (codes " line  CODE  JT   JF      K" ∷ codes "=================================" ∷ []))
  pub no_rule : lists_none (lines (codes " line  CODE  JT   JF      K" ∷ codes "0000: 6 0 0 0" ∷ []))
  pub no_names : lists_none (lines (codes "=================================" ∷ codes "0000: 6 0 0 0" ∷ []))
  pub from_one : lists_none (codes "0001: 6 0 0 0")
  pub left_out : lists_none (lines (codes "0000: 6 0 0 0" ∷ codes "0002: 6 0 0 0" ∷ []))
  pub three : lists_none (codes "0000: 6 0 0")
  pub three_and_text : lists_none (codes "0000: 6 0 0 return KILL")
  pub no_colon : lists_none (codes "0000 6 0 0 0")
  pub code : lists_none (codes "0000: 0x10000 0 0 0")
  pub far_true : lists_none (codes "0000: 6 0x100 0 0")
  pub far_false : lists_none (codes "0000: 6 0 256 0")
  pub operand : lists_none (codes "0000: 6 0 0 0x100000000")
  pub more : lists_none (lines (codes "0000: 6 0 0 0" ∷ codes "and so on" ∷ []))
