-- Code that is worked out by hand, from the codes of linux/bpf_common.h, the places in struct seccomp_data, and what
-- docker's profile says of personality(2).
use Rattle.std.specs.Prelude.{ℕ, ◌≡◌, ◌+◌, ◌^◌, true, false, List, [], ◌∷◌}
use Rattle.sk_insn.specs.declared.insn.Insn.{Insn}
use Rattle.sk_insn.specs.declared.record.Record.{Record}
use Rattle.sk_insn.specs.Record.{native}
use Rattle.sk_filter.specs.Meaning.{Returned, meaning_of}
use Rattle.sk_profile.specs.declared.condition.Test.TheVariants.{Is, Below}
use Rattle.sk_profile.specs.Sayings.{Piece, Single, Joined, Tree, Leaf, Away, Fork}
use Rattle.sk_profile.specs.Code.{test_code, saying_code, head_code, tree_code, Section, filter_code}

abbrev pub insn : ℕ → ℕ → ℕ → ℕ → Insn
insn code jt jf k = record { code = code; jt = jt; jf = jf; k = k }

-- personality(2) with this argument
abbrev pub asking : ℕ → Record
asking persona = native 135 0 (persona ∷ 0 ∷ 0 ∷ 0 ∷ 0 ∷ 0 ∷ [])

-- 0, 8, 0x20000, 0x20008 and 0xffffffff are allowed
abbrev pub personas : List Piece
personas = Joined (record { index = 0; value = 0x7fff0000; first = 0; others = 8 ∷ 0x20000 ∷ 0x20008 ∷ 0xffffffff ∷ [] }) ∷ []

abbrev pub allowed_personas : List Insn
allowed_personas =
    insn 0x20 0 0 20 ∷
    insn 0x15 0 7 0 ∷
    insn 0x20 0 0 16 ∷
    insn 0x15 4 0 0 ∷
    insn 0x15 3 0 8 ∷
    insn 0x15 2 0 0x20000 ∷
    insn 0x15 1 0 0x20008 ∷
    insn 0x15 0 1 0xffffffff ∷
    insn 0x06 0 0 0x7fff0000 ∷
    insn 0x06 0 0 0x00050001 ∷
    []

-- numbers below 0x500000000 of the second argument are logged
abbrev pub low_numbers : List Piece
low_numbers =
    Single (record { conditions = record { index = 1; test = Below; value = 0x500000000 } ∷ []; value = 0x7ffc0000 })
    ∷ []

-- the same of 32 bits
abbrev pub narrow_personas : List Insn
narrow_personas =
    insn 0x20 0 0 16 ∷
    insn 0x15 4 0 0 ∷
    insn 0x15 3 0 8 ∷
    insn 0x15 2 0 0x20000 ∷
    insn 0x15 1 0 0x20008 ∷
    insn 0x15 0 1 0xffffffff ∷
    insn 0x06 0 0 0x7fff0000 ∷
    insn 0x06 0 0 0x00050001 ∷
    []

-- one number is allowed, and every other is refused
abbrev pub allows : ℕ → Tree
allows nr = Fork nr (Away 0x00050001) (Fork (nr + 1) (Leaf false [] 0x7fff0000) (Away 0x00050001))

-- getpid(2) of x86-64 and of i386, asm/unistd_64.h and asm/unistd_32.h
abbrev pub getpid : List Section
getpid =
    record { audit = 0xc000003e; values = 0x00050001 ∷ []; tree = allows 39 } ∷
    record { audit = 0x40000003; values = 0x00050001 ∷ []; tree = allows 20 } ∷
    []

abbrev pub allowed_getpid : List Insn
allowed_getpid =
    insn 0x20 0 0 4 ∷
    insn 0x15 0 5 0xc000003e ∷
    insn 0x20 0 0 0 ∷
    insn 0x35 0 2 39 ∷
    insn 0x35 1 0 40 ∷
    insn 0x06 0 0 0x7fff0000 ∷
    insn 0x06 0 0 0x00050001 ∷
    insn 0x15 0 5 0x40000003 ∷
    insn 0x20 0 0 0 ∷
    insn 0x35 0 2 20 ∷
    insn 0x35 1 0 21 ∷
    insn 0x06 0 0 0x7fff0000 ∷
    insn 0x06 0 0 0x00050001 ∷
    insn 0x06 0 0 0 ∷
    []

-- a call without arguments
abbrev pub called : ℕ → ℕ → Record
called arch nr = record { nr = nr; arch = arch; ip = 0; args = 0 ∷ 0 ∷ 0 ∷ 0 ∷ 0 ∷ 0 ∷ [] }

pub record WorkedCode : Type 0 where
  pub joined : saying_code false personas 0x00050001 ≡ allowed_personas
  pub joined_narrow : saying_code true personas 0x00050001 ≡ narrow_personas
  pub finds_the_second : meaning_of allowed_personas (asking 8) ≡ Returned 0x7fff0000 6
  pub finds_the_last : meaning_of allowed_personas (asking 0xffffffff) ≡ Returned 0x7fff0000 9
  pub misses : meaning_of allowed_personas (asking 4) ≡ Returned 0x00050001 9
  pub misses_by_the_upper_half : meaning_of allowed_personas (asking 0x100000008) ≡ Returned 0x00050001 3
  pub single :
      saying_code false low_numbers 0 ≡
      insn 0x20 0 0 28 ∷
      insn 0x25 4 0 5 ∷
      insn 0x15 0 2 5 ∷
      insn 0x20 0 0 24 ∷
      insn 0x35 1 0 0 ∷
      insn 0x06 0 0 0x7ffc0000 ∷
      insn 0x06 0 0 0 ∷
      []
  -- a number that 32 bits can't be is compared with an upper half of 0
  pub too_great :
      test_code true Is 0 (2 ^ 32 + 5) 3 ≡
      insn 0x00 0 0 0 ∷
      insn 0x15 0 5 1 ∷
      insn 0x20 0 0 16 ∷
      insn 0x15 0 3 5 ∷
      []
  pub heads : head_code 135 255 1 ≡ insn 0x35 255 1 135 ∷ []
  pub long_head : head_code 135 256 0 ≡ insn 0x35 0 1 135 ∷ insn 0x05 0 0 256 ∷ []
  pub longest_head : head_code 135 300 400 ≡ insn 0x35 0 1 135 ∷ insn 0x05 0 0 301 ∷ insn 0x05 0 0 400 ∷ []
  -- the second of two values, which stand three instructions behind
  pub forks : tree_code (3 ∷ 2 ∷ []) (Fork 135 (Leaf false [] 1) (Away 2)) 3 ≡ insn 0x35 5 0 135 ∷ insn 0x06 0 0 1 ∷ []
  pub filter : filter_code 0 getpid ≡ allowed_getpid
  pub first_section : meaning_of allowed_getpid (called 0xc000003e 39) ≡ Returned 0x7fff0000 6
  pub second_section : meaning_of allowed_getpid (called 0x40000003 20) ≡ Returned 0x7fff0000 7
  pub below_it : meaning_of allowed_getpid (called 0x40000003 19) ≡ Returned 0x00050001 6
  pub no_section : meaning_of allowed_getpid (called 0x40000028 20) ≡ Returned 0 4
