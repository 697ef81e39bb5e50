-- Words that are worked out by hand.
use Rattle.std.specs.Prelude.{ℕ, ◌≡◌, ◌^◌, List, [], ◌∷◌, codes, Ok, Err, Some}
use Rattle.sk_insn.specs.declared.record.Record.{Record}
use Rattle.sk_insn.specs.Record.{native}
use Rattle.sk_names.specs.declared.architecture.Architecture.TheVariants as architecture
use Rattle.sk_replay.specs.WordCalls.{nr_of}
use Rattle.sk_replay.specs.CallWords.{argument_of, call_meant, call_of}
use Rattle.sk_replay.specs.Faults.{fault_text, no_call, unclosed, unquoted, wrong, too_many}

-- the call of x86-64 with this number and these six arguments
abbrev pub calls : ℕ → List ℕ → Record
calls nr args = native nr 0 args

abbrev pub no_arguments : List ℕ
no_arguments = 0 ∷ 0 ∷ 0 ∷ 0 ∷ 0 ∷ 0 ∷ []

pub record WorkedWords : Type 0 where
  pub arguments : call_of architecture.X86_64 (codes "openat(-100, 0x7f00, 0)") ≡ Ok (calls 257 (18446744073709551516 ∷ 32512 ∷ 0 ∷ 0 ∷ 0 ∷ 0 ∷ []))
  pub name : call_of architecture.X86_64 (codes "clone3") ≡ Ok (calls 435 no_arguments)
  pub no_argument : call_of architecture.X86_64 (codes "clone3()") ≡ Ok (calls 435 no_arguments)
  pub number : call_of architecture.X86_64 (codes "59(1)") ≡ Ok (calls 59 (1 ∷ 0 ∷ 0 ∷ 0 ∷ 0 ∷ 0 ∷ []))
  pub largest_number : call_of architecture.X86_64 (codes "0xfFffffff") ≡ Ok (calls 4294967295 no_arguments)
  pub six_in_order : call_of architecture.X86_64 (codes "9(1,2,3,4,5,6)") ≡ Ok (calls 9 (1 ∷ 2 ∷ 3 ∷ 4 ∷ 5 ∷ 6 ∷ []))
  pub spaces : call_of architecture.X86_64 (codes " read ( 3 , 4 ) ") ≡ Ok (calls 0 (3 ∷ 4 ∷ 0 ∷ 0 ∷ 0 ∷ 0 ∷ []))
  pub spaces_alone : call_of architecture.X86_64 (codes "read( )") ≡ Ok (calls 0 no_arguments)
  pub octal_call : call_of architecture.X86_64 (codes "010") ≡ Err no_call
  pub too_large_a_call : call_of architecture.X86_64 (codes "4294967296") ≡ Err no_call
  pub call_below_zero : call_of architecture.X86_64 (codes "-1") ≡ Err no_call
  pub unknown_name : call_of architecture.X86_64 (codes "mseal2(1)") ≡ Err no_call
  pub no_name : call_of architecture.X86_64 (codes "(1)") ≡ Err no_call
  pub nothing : call_of architecture.X86_64 [] ≡ Err no_call
  pub two_names : call_of architecture.X86_64 (codes "read write") ≡ Err no_call
  pub left_open : call_of architecture.X86_64 (codes "read(1") ≡ Err unclosed
  pub behind : call_of architecture.X86_64 (codes "read(1) = 3") ≡ Err unclosed
  pub closed_twice : call_of architecture.X86_64 (codes "read(1))") ≡ Err unclosed
  pub opened_twice : call_of architecture.X86_64 (codes "read((1)") ≡ Err (wrong 1 (codes "(1"))
  pub octal : call_of architecture.X86_64 (codes "chmod(1, 0755)") ≡ Ok (calls 90 (1 ∷ 493 ∷ 0 ∷ 0 ∷ 0 ∷ 0 ∷ []))
  pub no_octal : call_of architecture.X86_64 (codes "getpid(08)") ≡ Err (wrong 1 (codes "08"))
  pub null : call_of architecture.X86_64 (codes "brk(NULL)") ≡ Ok (calls 12 no_arguments)
  pub empty_last : call_of architecture.X86_64 (codes "getpid(1,)") ≡ Err (wrong 2 [])
  pub empty_between : call_of architecture.X86_64 (codes "getpid(1,,x)") ≡ Err (wrong 2 [])
  pub empty_both : call_of architecture.X86_64 (codes "getpid(,)") ≡ Err (wrong 1 [])
  pub two_words : call_of architecture.X86_64 (codes "getpid(1 2)") ≡ Err (wrong 1 (codes "1 2"))
  pub sixth : call_of architecture.X86_64 (codes "getpid(1,2,3,4,5,x)") ≡ Err (wrong 6 (codes "x"))
  pub seven : call_of architecture.X86_64 (codes "getpid(1,2,3,4,5,6,7)") ≡ Err too_many
  pub seven_wrong : call_of architecture.X86_64 (codes "getpid(x,2,3,4,5,6,)") ≡ Err too_many
  pub name_first : call_of architecture.X86_64 (codes "getpid2(x") ≡ Err no_call
  pub parentheses_second : call_of architecture.X86_64 (codes "getpid(x,2,3,4,5,6,7") ≡ Err unclosed
  pub largest : argument_of (codes "18446744073709551615") ≡ Ok 18446744073709551615
  pub past_the_largest : argument_of (codes "18446744073709551616") ≡ Err (codes "18446744073709551616")
  pub largest_digits : argument_of (codes "0xffffffffffffffff") ≡ Ok 18446744073709551615
  pub least : argument_of (codes "-9223372036854775808") ≡ Ok 9223372036854775808
  pub below_the_least : argument_of (codes "-9223372036854775809") ≡ Err (codes "-9223372036854775809")
  pub minus_one : argument_of (codes "-1") ≡ Ok 18446744073709551615
  pub minus_digits : argument_of (codes "-0x64") ≡ Ok 18446744073709551516
  pub minus_zero : argument_of (codes "-0") ≡ Ok 0
  pub minus_octal : argument_of (codes "-010") ≡ Err (codes "-010")
  pub minus_twice : argument_of (codes "--1") ≡ Err (codes "--1")
  pub minus_alone : argument_of (codes "-") ≡ Err (codes "-")
  pub plus : argument_of (codes "+1") ≡ Err (codes "+1")
  pub zero : argument_of (codes "0") ≡ Ok 0
  pub zeros : argument_of (codes "00") ≡ Ok 0
  pub largest_octal : argument_of (codes "01777777777777777777777") ≡ Ok 18446744073709551615
  pub past_the_largest_octal : argument_of (codes "02000000000000000000000") ≡ Err (codes "02000000000000000000000")
  pub kind_and_mode : argument_of (codes "S_IFREG|0644") ≡ Ok 33188
  pub name_of_zero : nr_of architecture.X86_64 (codes "read") ≡ Some 0
  pub number_without_a_name : nr_of architecture.X86_64 (codes "1000") ≡ Some 1000
  pub on_i386 : call_of architecture.I386 (codes "socketcall(1)") ≡ Ok (record { nr = 102; arch = 1073741827; ip = 0; args = 1 ∷ 0 ∷ 0 ∷ 0 ∷ 0 ∷ 0 ∷ [] })
  pub not_on_x86_64 : call_of architecture.X86_64 (codes "socketcall(1)") ≡ Err no_call
  pub not_on_aarch64 : call_of architecture.Aarch64 (codes "open") ≡ Err no_call
  pub on_aarch64 : nr_of architecture.Aarch64 (codes "execve") ≡ Some 221
  pub number_on_arm : call_of architecture.Arm (codes "59") ≡ Ok (record { nr = 59; arch = 1073741864; ip = 0; args = no_arguments })
  pub on_x32 : call_of architecture.X32 (codes "read") ≡ Ok (calls (2 ^ 30) no_arguments)
  pub number_on_x32 : call_of architecture.X32 (codes "0") ≡ Ok (calls 0 no_arguments)
  pub constants : call_meant architecture.X86_64 (codes "socket(AF_NETLINK, SOCK_RAW | SOCK_CLOEXEC|0x10, 0)") ≡ Ok (calls 41 (16 ∷ 524307 ∷ 0 ∷ 0 ∷ 0 ∷ 0 ∷ []))
  pub text : call_meant architecture.X86_64 (codes "openat(3, \"a, b|c)\", O_WRONLY)") ≡ Ok (calls 257 (3 ∷ 140737488347136 ∷ 1 ∷ 0 ∷ 0 ∷ 0 ∷ []))
  pub empty_text : call_meant architecture.X86_64 (codes "unlink(\"\")") ≡ Ok (calls 87 (140737488347136 ∷ 0 ∷ 0 ∷ 0 ∷ 0 ∷ 0 ∷ []))
  pub left_quoted : call_meant architecture.X86_64 (codes "unlink(\"/tmp)") ≡ Err unquoted
  pub quoted_name : call_meant architecture.X86_64 (codes "\"unlink\"(0)") ≡ Err no_call
  pub text_and_number : call_meant architecture.X86_64 (codes "unlink(\"a\"1)") ≡ Err (wrong 1 (codes " 0x7fffffffe000 1"))
  pub no_constant : call_meant architecture.X86_64 (codes "socket(AF_NETLINK, SOCK_RAW|SOCK_ROW, 0)") ≡ Err (wrong 2 (codes "SOCK_ROW"))
  pub at_fdcwd : argument_of (codes "AT_FDCWD") ≡ Ok 4294967196
  pub small_letters : argument_of (codes "af_netlink") ≡ Err (codes "af_netlink")
  pub nothing_behind : argument_of (codes "1|") ≡ Err []
  pub two_constants : argument_of (codes "SOCK_RAW SOCK_RAW|3") ≡ Err (codes "SOCK_RAW SOCK_RAW")
  pub both_bits : argument_of (codes "3|5") ≡ Ok 7
  pub minus_and_bits : argument_of (codes "-1|2") ≡ Err (codes "-1")
  pub told : fault_text (wrong 2 (codes "SOCK_ROW")) ≡ codes "argument 2 of CALL(ARG, ..) is no number of 64 bits and no constant: "
