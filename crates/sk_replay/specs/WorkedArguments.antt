-- Arguments of calls that are worked out by hand, as strace(1) writes them: with no flag, with `-y`, and with `-e raw=all`.
use Rattle.std.specs.Prelude.{ℕ, ◌≡◌, ◌-◌, ◌^◌, List, [], ◌∷◌, codes, Some, None}
use Rattle.sk_replay.specs.declared.value.Value.TheVariants.{Told, Unknown}
use Rattle.sk_replay.specs.declared.written.Written.TheVariants.{ByRegister, Otherwise}
use Rattle.sk_replay.specs.Lines.{values_in}
use Rattle.sk_replay.specs.Values.{value_of}

-- `)`, and a result
abbrev pub returned : List ℕ
returned = codes ") = 0"

pub record WorkedArguments : Type 0 where
  pub two : values_in ByRegister 6 (codes "0x3, 0) = 0") ≡ Some (Told 3 ∷ Told 0 ∷ [], returned)
  pub none : values_in ByRegister 6 (codes ") = 0") ≡ Some ([], returned)
  pub greatest : values_in ByRegister 6 (codes "0xffffffffffffffff) = 0") ≡ Some (Told (2 ^ 64 - 1) ∷ [], returned)
  pub too_great : values_in ByRegister 6 (codes "0x10000000000000000) = 0") ≡ Some (Unknown ∷ [], returned)
  pub six : values_in ByRegister 6 (codes "1, 2, 3, 4, 5, 6) = 0") ≡ Some (Told 1 ∷ Told 2 ∷ Told 3 ∷ Told 4 ∷ Told 5 ∷ Told 6 ∷ [], returned)
  pub seven : values_in ByRegister 6 (codes "1, 2, 3, 4, 5, 6, 7) = 0") ≡ None
  pub cut_off : values_in ByRegister 6 (codes "3, 4") ≡ Some (Told 3 ∷ Told 4 ∷ [], [])
  pub more_to_come : values_in ByRegister 6 (codes "3, ") ≡ Some (Told 3 ∷ [], [])
  pub text :
      values_in ByRegister 6 (codes "AT_FDCWD, \"a), b\\\"c\"..., O_RDONLY|O_CLOEXEC) = 0")
      ≡ Some (Told 4294967196 ∷ Unknown ∷ Told 524288 ∷ [], returned)
  pub structure : values_in ByRegister 6 (codes "{a=[1, 2], b=(3)}, 88) = 0") ≡ Some (Unknown ∷ Told 88 ∷ [], returned)
  pub paths :
      values_in ByRegister 6 (codes "11</dev/null>, 0</a (b, \\\"c>(deleted)) = 0") ≡ Some (Told 11 ∷ Told 0 ∷ [], returned)
  pub connection : values_in ByRegister 6 (codes "5<TCP:[127.0.0.1:1->127.0.0.1:2]>, 16) = 0") ≡ Some (Told 5 ∷ Told 16 ∷ [], returned)
  pub device : values_in ByRegister 6 (codes "1</dev/pts/0<char 136:0>>, TCGETS) = 0") ≡ Some (Told 1 ∷ Told 21505 ∷ [], returned)
  pub capabilities :
      values_in ByRegister 6 (codes "{effective=1<<CAP_CHOWN|1<<CAP_KILL, inheritable=0}, 5) = 0") ≡ Some (Unknown ∷ Told 5 ∷ [], returned)
  pub comment : value_of ByRegister (codes " 0x7fff63173020 /* 35 vars */") ≡ Told 0x7fff63173020
  pub comment_before_more : value_of ByRegister (codes " 0x10 /* CLONE_??? */|0x2") ≡ Unknown
  pub null : value_of ByRegister (codes "NULL") ≡ Told 0
  pub below_zero : value_of ByRegister (codes " -1") ≡ Unknown
  pub octal : value_of ByRegister (codes " 0644") ≡ Told 420
  pub kind_and_mode : value_of ByRegister (codes " S_IFREG|0644") ≡ Told 33188
  pub name_and_bits : value_of ByRegister (codes " PROT_READ|0x8") ≡ Told 9
  pub unknown_name : value_of ByRegister (codes " PROT_READ|PROT_NONESUCH") ≡ Unknown
  pub no_name : value_of ByRegister (codes " makedev(0x1, 0x3)") ≡ Unknown
  pub shift : value_of ByRegister (codes " MAP_HUGETLB|21<<MAP_HUGE_SHIFT") ≡ Unknown
  pub written_back : value_of ByRegister (codes " [128 => 16]") ≡ Unknown
  pub set : value_of ByRegister (codes " ~[RTMIN RT_1]") ≡ Unknown
  pub nothing : value_of ByRegister (codes " ") ≡ Unknown
  pub flags : value_of ByRegister (codes " flags=CLONE_CHILD_CLEARTID|CLONE_CHILD_SETTID|SIGCHLD") ≡ Told 18874385
  pub raw : value_of Otherwise (codes " 0xff") ≡ Told 255
  pub raw_zero : value_of Otherwise (codes " 0") ≡ Told 0
  pub not_raw : value_of Otherwise (codes " 784") ≡ Unknown
