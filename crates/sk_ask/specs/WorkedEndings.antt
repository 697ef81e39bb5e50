-- Endings of `ask filter --smaller` and of `ask expect` that were written by hand.
use Rattle.std.specs.Prelude.{◌≡◌, true, false, [], ◌∷◌, codes, Some, None}
use Rattle.sk_insn.specs.declared.insn.Insn.{Insn}
use Rattle.sk_names.specs.declared.architecture.Architecture.TheVariants.{Aarch64, I386}
use Rattle.sk_policy_when.specs.declared.smaller.OneFilterFault.TheVariants.{Untold, Memory}
use Rattle.sk_ask.specs.declared.demands.Demands.{Demands}
use Rattle.sk_ask.specs.declared.word.Word.TheVariants.{Expect, Filter}
use Rattle.sk_ask.specs.declared.target.Target.TheVariants.{Lines, Raw, Hex, C, Json}
use Rattle.sk_ask.specs.Asking.{nothing_asked, with_own_flag, with_target}
use Rattle.sk_ask.specs.Endings.{answered, refused, no_memory}
use Rattle.sk_ask.specs.Expects.{asked_by, others_note}
use Rattle.sk_ask.specs.FilterText.{filter_line}
use Rattle.sk_ask.specs.Nearest.{nearest, of_unknown}
use Rattle.sk_ask.specs.Smaller.{ending_with, ending_without, size_of}

-- SECCOMP_RET_ALLOW of linux/seccomp.h for each call
abbrev pub allowing : Insn
allowing = record { code = 6; jt = 0; jf = 0; k = 0x7fff0000 }

-- SECCOMP_RET_ERRNO of it with EPERM for each call
abbrev pub refusing : Insn
refusing = record { code = 6; jt = 0; jf = 0; k = 0x50001 }

-- an answer is as it was told where it is smaller, in the form that is asked for; else a single filter is answered, which
-- may be another one, and several are refused
pub record SmallerWorks : Type 0 where
  pub size : size_of ((allowing ∷ allowing ∷ []) ∷ (allowing ∷ []) ∷ []) ≡ 3
  pub saved : ending_with Lines (allowing ∷ []) ((allowing ∷ allowing ∷ []) ∷ (allowing ∷ []) ∷ []) (codes "noted\n")
      ≡ answered (codes "noted\nask: filter: 1 instruction in place of 3\n") (filter_line (6 ∷ 0 ∷ 0 ∷ 0 ∷ 0 ∷ 0 ∷ 255 ∷ 127 ∷ [])) false
  pub raw : ending_with Raw (allowing ∷ allowing ∷ []) ((refusing ∷ refusing ∷ refusing ∷ []) ∷ []) []
      ≡ answered (codes "ask: filter: 2 instructions in place of 3\n") (6 ∷ 0 ∷ 0 ∷ 0 ∷ 0 ∷ 0 ∷ 255 ∷ 127 ∷ 6 ∷ 0 ∷ 0 ∷ 0 ∷ 0 ∷ 0 ∷ 255 ∷ 127 ∷ []) false
  pub single : ending_with Json (allowing ∷ allowing ∷ []) ((refusing ∷ []) ∷ []) []
      ≡ answered (codes "ask: filter: no smaller one was found: 1 instruction\n") (codes "[{\"code\":6,\"jt\":0,\"jf\":0,\"k\":327681}]\n") false
  pub several : ending_with Hex (allowing ∷ allowing ∷ []) ((refusing ∷ []) ∷ (refusing ∷ []) ∷ []) []
      ≡ refused (codes "ask: filter: no smaller one was found: 2 instructions in place of 2\n")
  pub untold : ending_without Untold ≡ refused (codes "ask: filter: the filters could not be followed\n")
  pub memory : ending_without Memory ≡ no_memory
  pub flags : with_own_flag (Filter Raw false) (codes "--smaller") ≡ Some (Filter Raw true)
  pub forms : with_target C (Filter Raw true) ≡ Filter C true

-- the first of the nearest names, with letters swapped, and none where too much is wrong
pub record NearestWorks : Type 0 where
  pub swapped : nearest (codes "opneat") (codes "open" ∷ codes "openat" ∷ codes "openat2" ∷ []) ≡ Some (codes "openat")
  pub first : nearest (codes "getuit") (codes "getgid" ∷ codes "getuid" ∷ codes "getpid" ∷ []) ≡ Some (codes "getuid")
  pub far : nearest (codes "foo") (codes "read" ∷ codes "fork" ∷ []) ≡ None
  pub said :
      of_unknown (codes "no word is named ") (codes "dif") (codes "dif") (codes "diff" ∷ []) (codes "; see ask --help")
      ≡ codes "ask: no word is named dif: did you mean diff?\n"
  pub said_elsewhere :
      of_unknown (codes "no word is named ") (codes "help") (codes "help") (codes "diff" ∷ []) (codes "; see ask --help")
      ≡ codes "ask: no word is named help; see ask --help\n"

-- a policy that tells of aarch64's calls, and says what those of others get
abbrev pub of_aarch64 : Demands
of_aarch64 = record { architecture = Aarch64; says_others = true; chain = [] }

-- the word is about what the policy tells of, unless an architecture is named, and says what it leaves out
pub record ExpectsWork : Type 0 where
  pub by_policy : (asked_by (nothing_asked Expect) of_aarch64).arch ≡ Some Aarch64
  pub by_word : (asked_by (record (nothing_asked Expect) { arch = Some I386 }) of_aarch64).arch ≡ Some I386
  pub note : others_note (codes "a\tb") None true ≡ codes "ask: a?b: others: calls of other architectures were not compared: expected --arch\n"
  pub said : others_note (codes "a") (Some I386) true ≡ []
  pub none : others_note (codes "a") None false ≡ []
