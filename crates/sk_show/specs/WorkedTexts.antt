-- Texts that are worked out by hand.
use Rattle.std.specs.Prelude.{◌≡◌, true, false, ◌++◌, List, [], ◌∷◌, codes}
use Rattle.sk_insn.specs.declared.insn.Insn.{Insn}
use Rattle.sk_asm.specs.Grammar.{insn}
use Rattle.sk_names.specs.declared.architecture.Architecture.TheVariants as architecture
use Rattle.sk_show.specs.Notes.{architecture_text, field_text}
use Rattle.sk_show.specs.Showing.{show_text, side_word}

-- the architecture, then the number, then an argument: clone(2) with no bit of the first argument, and any call but execve(2)
abbrev pub filter : List Insn
filter =
    insn 0x20 0 0 4 ∷
    insn 0x15 1 0 0xc000003e ∷
    insn 0x06 0 0 0x80000000 ∷
    insn 0x20 0 0 0 ∷
    insn 0x15 3 0 59 ∷
    insn 0x15 0 1 56 ∷
    insn 0x05 0 0 2 ∷
    insn 0x06 0 0 0x7fff0000 ∷
    insn 0x06 0 0 0x00050001 ∷
    insn 0x20 0 0 20 ∷
    insn 0x15 2 1 59 ∷
    insn 0x45 0 0 1 ∷
    insn 0x06 0 0 0x00030005 ∷
    insn 0x16 0 0 0 ∷
    []

-- A holds the number on both ways to 3, on one of the two to 5, and on no way to 6
abbrev pub ways : List Insn
ways =
    insn 0x20 0 0 0 ∷
    insn 0x35 1 0 100 ∷
    insn 0x1d 0 0 0 ∷
    insn 0x25 1 0 39 ∷
    insn 0x20 0 0 8 ∷
    insn 0x15 0 0 39 ∷
    insn 0x05 0 0 4294967295 ∷
    insn 0x1d 0 1 1 ∷
    insn 0x15 0 9 0 ∷
    []

-- the calls of aarch64 come to 5, those of x86-64 to 7, and both to 8
abbrev pub of_two : List Insn
of_two =
    insn 0x20 0 0 4 ∷
    insn 0x15 2 0 0xc00000b7 ∷
    insn 0x15 3 0 0xc000003e ∷
    insn 0x06 0 0 0x80000000 ∷
    insn 0x20 0 0 0 ∷
    insn 0x15 2 2 221 ∷
    insn 0x20 0 0 0 ∷
    insn 0x15 0 0 59 ∷
    insn 0x15 0 0 63 ∷
    insn 0x06 0 0 0x7fff0000 ∷
    []

-- those of all but x86-64 come to 3, and all to 5
abbrev pub of_others : List Insn
of_others = insn 0x20 0 0 4 ∷ insn 0x15 2 0 0xc000003e ∷ insn 0x20 0 0 0 ∷ insn 0x15 0 0 39 ∷ insn 0x20 0 0 0 ∷ insn 0x15 0 0 39 ∷ []

-- only the number of loongarch64 is so large
abbrev pub of_one : List Insn
of_one = insn 0x20 0 0 4 ∷ insn 0x35 1 0 0xc0000100 ∷ insn 0x06 0 0 0x7fff0000 ∷ insn 0x20 0 0 0 ∷ insn 0x15 0 0 57 ∷ []

pub record WorkedTexts : Type 0 where
  pub no_instruction : show_text architecture.X86_64 [] ≡ []
  pub filter :
      show_text architecture.X86_64 filter
      ≡ codes "; 0 arch\n    ldabs 4\n"
      ++ (codes "; 1 x86-64\n    jeq 3221225534 at3 +0\n"
      ++ (codes "; 2 kill_process\n    ret 0x80000000\n"
      ++ (codes "at3:\n; 3 nr\n    ldabs 0\n"
      ++ (codes "; 4 execve\n    jeq 59 at8 +0\n"
      ++ (codes "; 5 clone\n    jeq 56 +0 at7\n"
      ++ (codes "; 6\n    ja at9\n"
      ++ (codes "at7:\n; 7 allow\n    ret 0x7fff0000\n"
      ++ (codes "at8:\n; 8 errno/1 EPERM\n    ret 0x00050001\n"
      ++ (codes "at9:\n; 9 args[0] high\n    ldabs 20\n"
      ++ (codes "; 10\n    jeq 59 at13 at12\n"
      ++ (codes "; 11\n    jset 1 +0 +0\n"
      ++ (codes "at12:\n; 12 trap/5\n    ret 0x00030005\n"
      ++ codes "at13:\n; 13\n    reta\n"))))))))))))
  pub ways :
      show_text architecture.X86_64 ways
      ≡ codes "; 0 nr\n    ldabs 0\n"
      ++ (codes "; 1 times\n    jge 100 at3 +0\n"
      ++ (codes "; 2\n    jeqx +0 +0\n"
      ++ (codes "at3:\n; 3 getpid\n    jgt 39 at5 +0\n"
      ++ (codes "; 4 ip low\n    ldabs 8\n"
      ++ (codes "at5:\n; 5\n    jeq 39 +0 +0\n"
      ++ (codes "; 6\n    ja +4294967295\n"
      ++ (codes "; 7\n    .insn 0x001d 0 1 0x00000001\n"
      ++ codes "; 8\n    jeq 0 +0 +9\n")))))))
  pub kept :
      show_text architecture.X86_64
      (insn 0x20 0 0 0 ∷ insn 0x07 0 0 0 ∷ insn 0x02 0 0 3 ∷ insn 0x01 0 0 7 ∷ insn 0x15 0 0 39 ∷ insn 0x54 0 0 1 ∷ insn 0x15 0 0 39 ∷ insn 0x06 0 0 0 ∷ [])
      ≡ codes "; 0 nr\n    ldabs 0\n; 1\n    tax\n; 2\n    st 3\n; 3\n    ldximm 7\n; 4 getpid\n    jeq 39 +0 +0\n"
      ++ codes "; 5\n    and 1\n; 6\n    jeq 39 +0 +0\n; 7 kill_thread\n    ret 0x00000000\n"
  pub not_named :
      show_text architecture.X86_64 (insn 0x20 0 0 0 ∷ insn 0x45 0 0 39 ∷ insn 0x15 0 0 1000 ∷ insn 0x1d 0 0 0 ∷ insn 0x20 0 0 4 ∷ insn 0x15 1 0 0xc0000032 ∷ insn 0x00 0 0 0 ∷ [])
      ≡ codes "; 0 nr\n    ldabs 0\n; 1\n    jset 39 +0 +0\n; 2\n    jeq 1000 +0 +0\n; 3\n    jeqx +0 +0\n; 4 arch\n    ldabs 4\n"
      ++ codes "; 5\n    jeq 3221225522 +1 +0\n; 6\n    ldimm 0\n"
  pub on_aarch64 :
      show_text architecture.Aarch64 (insn 0x20 0 0 4 ∷ insn 0x15 0 1 0xc00000b7 ∷ insn 0x15 0 0 0x40000003 ∷ insn 0x20 0 0 0 ∷ insn 0x15 0 0 59 ∷ insn 0x15 0 0 221 ∷ insn 0x06 0 0 0 ∷ [])
      ≡ codes "; 0 arch\n    ldabs 4\n; 1 aarch64\n    jeq 3221225655 +0 at3\n; 2 i386\n    jeq 1073741827 +0 +0\nat3:\n; 3 nr\n    ldabs 0\n"
      ++ codes "; 4 pipe2\n    jeq 59 +0 +0\n; 5 execve\n    jeq 221 +0 +0\n; 6 kill_thread\n    ret 0x00000000\n"
  pub on_x32 :
      show_text architecture.X32 (insn 0x20 0 0 4 ∷ insn 0x15 0 0 0xc000003e ∷ insn 0x20 0 0 0 ∷ insn 0x15 0 0 0 ∷ insn 0x15 0 0 0x40000000 ∷ [])
      ≡ codes "; 0 arch\n    ldabs 4\n; 1 x86-64\n    jeq 3221225534 +0 +0\n; 2 nr\n    ldabs 0\n; 3\n    jeq 0 +0 +0\n; 4 read\n    jeq 1073741824 +0 +0\n"
  pub of_two :
      show_text architecture.X86_64 of_two
      ≡ codes "; 0 arch\n    ldabs 4\n; 1 aarch64\n    jeq 3221225655 at4 +0\n; 2 x86-64\n    jeq 3221225534 at6 +0\n; 3 kill_process\n    ret 0x80000000\n"
      ++ (codes "at4:\n; 4 nr\n    ldabs 0\n; 5 execve\n    jeq 221 at8 at8\nat6:\n; 6 nr\n    ldabs 0\n; 7 execve\n    jeq 59 +0 +0\n"
      ++ codes "at8:\n; 8\n    jeq 63 +0 +0\n; 9 allow\n    ret 0x7fff0000\n")
  pub of_others :
      show_text architecture.X86_64 of_others
      ≡ codes "; 0 arch\n    ldabs 4\n; 1 x86-64\n    jeq 3221225534 at4 +0\n; 2 nr\n    ldabs 0\n; 3\n    jeq 39 +0 +0\n"
      ++ codes "at4:\n; 4 nr\n    ldabs 0\n; 5 getpid\n    jeq 39 +0 +0\n"
  pub of_one :
      show_text architecture.X86_64 of_one
      ≡ codes "; 0 arch\n    ldabs 4\n; 1\n    jge 3221225728 at3 +0\n; 2 allow\n    ret 0x7fff0000\nat3:\n; 3 nr\n    ldabs 0\n; 4 close\n    jeq 57 +0 +0\n"
  pub small :
      show_text architecture.X86_64 (insn 0x20 0 0 0 ∷ insn 0x15 1 0 59 ∷ insn 0x06 0 0 0x7fff0000 ∷ insn 0x06 0 0 0x00050001 ∷ [])
      ≡ codes "; 0 nr\n    ldabs 0\n; 1 execve\n    jeq 59 at3 +0\n; 2 allow\n    ret 0x7fff0000\nat3:\n; 3 errno/1 EPERM\n    ret 0x00050001\n"
  pub next : side_word 9 3 0 ≡ codes "+0"
  pub last : side_word 9 3 5 ≡ codes "+5"
  pub label : side_word 9 3 4 ≡ codes "at8"
  pub number_field : field_text false 0 ≡ codes " nr"
  pub pointer : field_text false 12 ≡ codes " ip high"
  pub first_argument : field_text false 16 ≡ codes " args[0] low"
  pub last_argument : field_text false 60 ≡ codes " args[5] high"
  pub turned_pointer : field_text true 12 ≡ codes " ip low"
  pub turned_argument : field_text true 16 ≡ codes " args[0] high"
  pub turned_last : field_text true 60 ≡ codes " args[5] low"
  pub on_s390x : show_text architecture.S390x (insn 0x20 0 0 24 ∷ insn 0x06 0 0 0 ∷ []) ≡ codes "; 0 args[1] high\n    ldabs 24\n; 1 kill_thread\n    ret 0x00000000\n"
  pub no_field : field_text false 64 ≡ []
  pub no_word : field_text false 18 ≡ []
  pub big_endian : architecture_text 0x80000016 ≡ codes " s390x"
  pub no_architecture : architecture_text 62 ≡ []
