-- Dumps and arrays of bytes that are read by hand, and texts that are none.
use Rattle.std.specs.Prelude.{[], ◌∷◌, ◌++◌, codes}
use Rattle.sk_forms.specs.Rows.{insn}
use Rattle.sk_forms.specs.WorkedArrays.{lines, lists, lists_none, refuses}

pub record WorkedDumps : Type 0 where
  -- xxd of three instructions of a filter of docker's, xxd 2022-01-14
  pub xxd :
      lists (lines (codes "00000000: 2000 0000 0400 0000 1500 0100 3e00 00c0   ...........>..." ∷ codes "00000010: 0600 0000 0000 ff7f                      ........" ∷ []))
      (insn 32 0 0 4 ∷ insn 21 1 0 3221225534 ∷ insn 6 0 0 2147418112 ∷ [])
  -- `hexdump -C` of the same, of util-linux 2.38
  pub hexdump :
      lists (lines (codes "00000000  20 00 00 00 04 00 00 00  15 00 01 00 3e 00 00 c0  | ...........>...|" ∷ codes "00000010  06 00 00 00 00 00 ff 7f                           |........|" ∷ codes "00000018" ∷ []))
      (insn 32 0 0 4 ∷ insn 21 1 0 3221225534 ∷ insn 6 0 0 2147418112 ∷ [])
  -- what stands for bytes in ASCII is not read
  pub letters : lists (codes "00000000: 0600 0000 6162 6364                      ....abcd") (insn 6 0 0 1684234849 ∷ [])
  -- `xxd -i` of a file
  pub xxd_i :
      lists (lines (codes "unsigned char one_bpf[] = {" ∷ codes "  0x06, 0x00, 0x00, 0x00, 0x00, 0x00, 0x00, 0x00" ∷ codes "};" ∷ codes "unsigned int one_bpf_len = 8;" ∷ [])) refuses
  -- `xxd -i` of standard input
  pub xxd_i_alone : lists (codes "  0x06, 0x00, 0x00, 0x00, 0x00, 0x00, 0x00, 0x00" ++ 10 ∷ []) refuses
  -- `seccomp-tools asm -f c_array`, of its README.md in form
  pub c_array : lists (codes "unsigned char bpf[] = {6,0,0,0,0,0,255,127};") (insn 6 0 0 2147418112 ∷ [])
  pub last_comma : lists (codes "{6,0,0,0,0,0,0,0,}") refuses
  pub four_bytes : lists_none (codes "00000000: 0600 0000                                ....")
  pub odd : lists_none (codes "00000000: 0600 0000 0000 000                       .......")
  pub later : lists_none (codes "00000010: 0600 0000 0000 0000                      ........")
  pub left_out : lists_none (lines (codes "00000000: 0600 0000 0000 0000                      ........" ∷ codes "00000010: 0600 0000 0000 0000                      ........" ∷ []))
  pub other_length : lists_none (lines (codes "00000000  06 00 00 00 00 00 00 00                           |........|" ∷ codes "00000010" ∷ []))
  pub squeezed : lists_none (lines (codes "00000000  06 00 00 00 00 00 00 00  06 00 00 00 00 00 00 00  |................|" ∷ codes "*" ∷ codes "00000020" ∷ []))
  pub no_place : lists_none (codes "0600 0000 0000 0000")
  pub no_bytes : lists_none (codes "00000000")
  -- these are digits, and of another image
  pub plain_digits : lists_none (codes "00000000 0600000000000000")
  pub byte : lists_none (codes "{6,0,0,0,0,0,0,256}")
  pub no_comma : lists_none (codes "{6 0,0,0,0,0,0,0}")
  pub no_commas : lists_none (codes "6 0 0 0 0 0 0 0")
  pub seven : lists_none (codes "{6,0,0,0,0,0,0}")
  pub wrong_length : lists_none (codes "unsigned char f[] = {6,0,0,0,0,0,0,0}; unsigned int f_len = 9;")
  pub more : lists_none (codes "unsigned char f[] = {6,0,0,0,0,0,0,0}; unsigned int f_len = 8; x")
  pub unclosed : lists_none (codes "unsigned char f[] = {6,0,0,0,0,0,0,0")
