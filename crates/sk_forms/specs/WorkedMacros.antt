-- Macros of linux/filter.h that are read by hand, and texts that are none.
use Rattle.std.specs.Prelude.{[], ◌∷◌, codes}
use Rattle.sk_forms.specs.Rows.{insn}
use Rattle.sk_forms.specs.WorkedArrays.{lines, lists, lists_none, refuses}

pub record WorkedMacros : Type 0 where
  -- the first instructions of vsftpd's filter, as strace 6.1 writes them
  pub strace :
      lists (codes "{len=3, filter=[BPF_STMT(BPF_LD|BPF_W|BPF_ABS, 0x4), BPF_JUMP(BPF_JMP|BPF_K|BPF_JEQ, 0xc000003e, 0x1, 0), BPF_STMT(BPF_RET|BPF_K, SECCOMP_RET_KILL_THREAD)]}")
      (insn 32 0 0 4 ∷ insn 21 1 0 3221225534 ∷ insn 6 0 0 0 ∷ [])
  pub strace_data : lists (codes "filter=[BPF_STMT(BPF_RET|BPF_K, SECCOMP_RET_ERRNO|0x26)]") (insn 6 0 0 327718 ∷ [])
  -- KILL_one of tools/testing/selftests/seccomp/seccomp_bpf.c of Linux, with a number in place of __NR_getpid
  pub selftest :
      lists (lines (codes "struct sock_filter filter[] = {" ∷ codes " BPF_STMT(BPF_LD|BPF_W|BPF_ABS," ∷ codes "  offsetof(struct seccomp_data, nr)),"
      ∷ codes " BPF_JUMP(BPF_JMP|BPF_JEQ|BPF_K, 39, 0, 1)," ∷ codes " BPF_STMT(BPF_RET|BPF_K, SECCOMP_RET_KILL)," ∷ codes " BPF_STMT(BPF_RET|BPF_K, SECCOMP_RET_ALLOW)," ∷ codes "};" ∷ []))
      (insn 32 0 0 0 ∷ insn 21 0 1 39 ∷ insn 6 0 0 0 ∷ insn 6 0 0 2147418112 ∷ [])
  pub architecture : lists (codes "BPF_JUMP(BPF_JMP+BPF_JEQ+BPF_K, AUDIT_ARCH_X86_64, 1, 0),") (insn 21 1 0 3221225534 ∷ [])
  pub element : lists (codes "BPF_STMT(BPF_LD | BPF_W | BPF_ABS, offsetof(struct seccomp_data, args[1]) + 4)") (insn 32 0 0 28 ∷ [])
  pub first_element : lists (codes "BPF_STMT(32, offsetof(struct seccomp_data, args))") (insn 32 0 0 16 ∷ [])
  pub pointer : lists (codes "BPF_STMT(0x20, offsetof(struct seccomp_data, instruction_pointer))") (insn 32 0 0 8 ∷ [])
  -- the first and the sixth instruction of the example of seccomp(2), with a number in place of its variable
  pub brackets : lists (codes "BPF_STMT(BPF_LD | BPF_W | BPF_ABS, (offsetof(struct seccomp_data, arch))),") (insn 32 0 0 4 ∷ [])
  pub mask : lists (codes "BPF_STMT(BPF_RET | BPF_K, SECCOMP_RET_ERRNO | (0x10001 & SECCOMP_RET_DATA)),") (insn 6 0 0 327681 ∷ [])
  pub in_braces : lists (codes "{ BPF_RET | BPF_A, 0, 0, 0 }") (insn 22 0 0 0 ∷ [])
  pub mixed : lists (codes "{6,0,0,0},BPF_STMT(6,1)") (insn 6 0 0 0 ∷ insn 6 0 0 1 ∷ [])
  -- `+` binds before `|`
  pub sum_first : lists (codes "BPF_STMT(6, 1 | 1 + 1)") (insn 6 0 0 3 ∷ [])
  pub sum_last : lists (codes "BPF_STMT(6, 1 + 1 | 1)") (insn 6 0 0 3 ∷ [])
  pub named_as_a_field : lists (codes "struct sock_filter arch[] = {{6,0,0,0}};") refuses
  pub longer : lists_none (codes "{len=2, filter=[BPF_STMT(6, 0)]}")
  pub cut_short : lists_none (codes "{len=2, filter=[BPF_STMT(6, 0), ...]}")
  pub unclosed : lists_none (codes "{len=1, filter=[BPF_STMT(6, 0)]")
  pub no_list : lists_none (codes "filter=BPF_STMT(6, 0)")
  pub another : lists_none (codes "filter=[BPF_STMT(6, 0)], 0")
  pub unknown : lists_none (codes "BPF_STMT(BPF_RET|BPF_Q, 0)")
  pub lower_case : lists_none (codes "BPF_STMT(bpf_ret, 0)")
  pub no_action : lists_none (codes "BPF_STMT(6, SECCOMP_RET_NOTHING)")
  pub no_field : lists_none (codes "BPF_STMT(32, offsetof(struct seccomp_data, nrs))")
  pub other_struct : lists_none (codes "BPF_STMT(32, offsetof(struct sock_filter, nr))")
  pub sixth : lists_none (codes "BPF_STMT(32, offsetof(struct seccomp_data, args[6]))")
  pub indexed : lists_none (codes "BPF_STMT(32, offsetof(struct seccomp_data, nr[0]))")
  pub open_bits : lists_none (codes "BPF_STMT(6|, 0)")
  pub too_large : lists_none (codes "BPF_STMT(6, 4294967295 + 1)")
  pub code : lists_none (codes "BPF_STMT(65535 + 1, 0)")
  pub far : lists_none (codes "BPF_JUMP(21, 0, 256, 0)")
  pub open_bracket : lists_none (codes "BPF_STMT(6, (1)")
  pub mask_alone : lists_none (codes "BPF_STMT(6, 1 & 1)")
  pub three : lists_none (codes "BPF_STMT(6, 0, 0)")
  pub one : lists_none (codes "BPF_STMT(6)")
  pub two : lists_none (codes "BPF_JUMP(21, 0)")
  pub statement_in_braces : lists_none (codes "{ BPF_STMT(6, 0) } }")
  pub taken_by_value : lists_none (codes "BPF_STMT 6, 0")
