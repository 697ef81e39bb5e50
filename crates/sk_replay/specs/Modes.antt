-- What strace(1) writes where a process calls Linux by another architecture than before: `[ Process PID=9 runs in 32 bit mode. ]`,
-- by update_personality of its src/syscall.c.
use Rattle.std.specs.Prelude.{ℕ, ◌&&◌, not, Bool, false, List, ◌∷◌, codes}
use Rattle.std.specs.Cmp.Lexicographic.{pointwise}
use Rattle.std.specs.Str.{bytes_eq}
use Rattle.sk_text.specs.Lines.{words_of}
use Rattle.sk_names.specs.declared.architecture.Architecture.{Architecture}
use Rattle.sk_names.specs.declared.architecture.Architecture.TheVariants.{X86_64, X32, I386, Aarch64, Arm, Riscv64, Ppc64le, S390x, Loongarch64}

-- behind `Process PID=N runs`, where the calls that follow are of this architecture
abbrev pub mode_text : Architecture → List ℕ
mode_text X86_64 = codes "in 64 bit mode. ]"
mode_text X32 = codes "in x32 mode. ]"
mode_text I386 = codes "in 32 bit mode. ]"
mode_text Aarch64 = codes "in 64 bit mode. ]"
mode_text Arm = codes "in 32 bit mode. ]"
mode_text Riscv64 = codes "in 64 bit mode. ]"
mode_text Ppc64le = codes "in 64 bit mode. ]"
mode_text S390x = codes "in 64 bit mode. ]"
mode_text Loongarch64 = codes "in 64 bit mode. ]"

abbrev pub is_mode_of : Architecture → List (List ℕ) → Bool
is_mode_of by words = pointwise bytes_eq words (words_of (mode_text by))

-- words behind `Process`: the process runs, but in no mode that is this architecture's
abbrev pub runs_otherwise : Architecture → List (List ℕ) → Bool
runs_otherwise by (pid ∷ (runs ∷ words)) = bytes_eq runs (codes "runs") && not (is_mode_of by words)
runs_otherwise by words = false

-- a first word and those behind it: the calls that follow are not of this architecture
unfoldable pub is_other_mode : Architecture → List ℕ → List (List ℕ) → Bool
is_other_mode by word words = bytes_eq word (codes "Process") && runs_otherwise by words
