-- Arrays of C that are read by hand, and texts that are none.
use Rattle.std.specs.Prelude.{ℕ, ◌≡◌, List, [], ◌∷◌, ◌++◌, codes, Some, None}
use Rattle.sk_insn.specs.declared.insn.Insn.{Insn}
use Rattle.sk_insn.specs.Instructions.{image_of}
use Rattle.sk_forms.specs.Rows.{insn}
use Rattle.sk_forms.specs.Listings.{listing_of}

-- lines, each ended by a line feed (10)
abbrev pub lines : List (List ℕ) → List ℕ
lines [] = []
lines (line ∷ others) = line ++ (10 ∷ lines others)

-- what a text lists: these instructions
abbrev pub lists : List ℕ → List Insn → Type 0
lists text insns = listing_of text ≡ Some (image_of insns)

abbrev pub lists_none : List ℕ → Type 0
lists_none text = listing_of text ≡ None

-- `ret #0` alone
abbrev pub refuses : List Insn
refuses = insn 6 0 0 0 ∷ []

pub record WorkedArrays : Type 0 where
  -- the bytes of an image, lowest first: code 0x28, jt 1, jf 2, k 0x01020304
  pub bytes : listing_of (codes "{ 0x28, 1, 2, 0x01020304 }") ≡ Some (0x28 ∷ 0 ∷ 1 ∷ 2 ∷ 4 ∷ 3 ∷ 2 ∷ 1 ∷ [])
  -- `tcpdump -dd -y EN10MB icmp`, of libpcap 1.10
  pub tcpdump :
      lists (lines (codes "{ 0x28, 0, 0, 0x0000000c }," ∷ codes "{ 0x15, 0, 3, 0x00000800 }," ∷ codes "{ 0x30, 0, 0, 0x00000017 },"
      ∷ codes "{ 0x15, 0, 1, 0x00000001 }," ∷ codes "{ 0x6, 0, 0, 0x00040000 }," ∷ codes "{ 0x6, 0, 0, 0x00000000 }," ∷ []))
      (insn 40 0 0 12 ∷ insn 21 0 3 2048 ∷ insn 48 0 0 23 ∷ insn 21 0 1 1 ∷ insn 6 0 0 262144 ∷ insn 6 0 0 0 ∷ [])
  -- `bpf_asm -c`, of Documentation/networking/filter.rst, which writes 0 in ten digits
  pub bpf_asm :
      lists (lines (codes "{ 0x28,  0,  0, 0x0000000c }," ∷ codes "{ 0x15,  0,  1, 0x00000806 }," ∷ codes "{ 0x06,  0,  0, 0xffffffff },"
      ∷ codes "{ 0x06,  0,  0, 0000000000 }," ∷ []))
      (insn 40 0 0 12 ∷ insn 21 0 1 2054 ∷ insn 6 0 0 4294967295 ∷ insn 6 0 0 0 ∷ [])
  -- as programs declare it
  pub head :
      lists (lines (codes "static const struct sock_filter filter[2] = {" ∷ codes "  { 0x20, 0, 0, 0x00000004 }, /* the */ // arch"
      ∷ codes "  {6,0,0,0x7fff0000U} };" ∷ []))
      (insn 32 0 0 4 ∷ insn 6 0 0 2147418112 ∷ [])
  pub braces : lists (codes "{{ 6, 0, 0, 0 },}") refuses
  pub one_line : lists (codes "{6,0,0,0},{6,0,0,1}") (insn 6 0 0 0 ∷ insn 6 0 0 1 ∷ [])
  pub suffixes : lists (codes "{ 6u, 0L, 0UL, 16llU }") (insn 6 0 0 16 ∷ [])
  pub greatest : lists (codes "{ 65535, 255, 0xff, 4294967295 }") (insn 65535 255 255 4294967295 ∷ [])
  pub blanks : lists (9 ∷ codes "{6,0,0,0}" ++ 13 ∷ 10 ∷ 10 ∷ []) refuses
  -- a comment parts words
  pub parted : lists_none (codes "{ 6, 0, 0, 1/**/2 }")
  pub no_row : lists_none (codes "{ }")
  pub nothing : lists_none []
  pub remark : lists_none (codes "/* { 6, 0, 0, 0 } */")
  pub three : lists_none (codes "{ 6, 0, 0 }")
  pub five : lists_none (codes "{ 6, 0, 0, 0, 0 }")
  pub code : lists_none (codes "{ 65536, 0, 0, 0 }")
  pub far_true : lists_none (codes "{ 6, 256, 0, 0 }")
  pub far_false : lists_none (codes "{ 6, 0, 0x100, 0 }")
  pub operand : lists_none (codes "{ 6, 0, 0, 4294967296 }")
  pub octal : lists_none (codes "{ 6, 0, 0, 010 }")
  pub hexadecimal : lists_none (codes "{ 6, 0, 0, 0x }")
  pub letters : lists_none (codes "{ 6, 0, 0, 0ULLL }")
  pub negative : lists_none (codes "{ 6, 0, 0, -1 }")
  pub more : lists_none (codes "{ 6, 0, 0, 0 } x")
  pub more_braces : lists_none (codes "{{ 6, 0, 0, 0 }}; }")
  pub no_comma : lists_none (codes "{ 6, 0, 0, 0 } { 6, 0, 0, 0 }")
  pub two_commas : lists_none (codes "{ 6, 0, 0, 0 },,")
  pub unfinished : lists_none (codes "{ 6, 0, 0, 0")
  pub open_head : lists_none (codes "struct sock_filter f[] = { { 6, 0, 0, 0 },")
  pub open_remark : lists_none (codes "{ 6, 0, 0, 0 } /* ")
  pub half_remark : lists_none (codes "{ 6, 0, 0, 0 } /*/")
  pub no_declaration : lists_none (codes "f(x) = { { 6, 0, 0, 0 } };")
