-- The names that others have for architectures, calls and kernels: uname(2) and Debian, which has them in dpkg-architecture(1), GOARCH of Go, and SCMP_ARCH_*
-- of seccomp_arch_add(3).
use Rattle.std.specs.Prelude.{ℕ, ◌+◌, ◌==◌, ◌&&◌, nat_le, Bool, if◌then◌else◌, List, [], ◌∷◌, length, take, drop, codes, find, Option, Some, None}
use Rattle.std.specs.List.{list_any, position_or_len}
use Rattle.std.specs.Option.{option_or, unwrap_or}
use Rattle.std.specs.Str.{bytes_eq}
use Rattle.sk_names.specs.declared.architecture.Architecture.{Architecture}
use Rattle.sk_names.specs.declared.architecture.Architecture.TheVariants as architecture
use Rattle.sk_names.specs.Architectures.{architecture_named, architectures}
use Rattle.sk_profile_json.specs.declared.context.Kernel.{Kernel}
use Rattle.sk_profile_json.specs.Contexts.{kernel_of}
use Rattle.sk_profile_json.specs.Machines.{scmp_name}

-- the table; where it has none, the others call an architecture as it is called here
abbrev pub other_names : Architecture → List (List ℕ)
other_names architecture.X86_64 = codes "x86_64" ∷ codes "amd64" ∷ []
other_names architecture.X32 = []
other_names architecture.I386 = codes "x86" ∷ codes "i686" ∷ []
other_names architecture.Aarch64 = codes "arm64" ∷ []
other_names architecture.Arm = []
other_names architecture.Riscv64 = []
other_names architecture.Ppc64le = codes "ppc64el" ∷ codes "powerpc64le" ∷ []
other_names architecture.S390x = []
other_names architecture.Loongarch64 = codes "loong64" ∷ []

-- whether others call it so
abbrev pub is_called : List ℕ → Architecture → Bool
is_called name by = list_any (bytes_eq name) (scmp_name by ∷ other_names by)

abbrev pub or_called : List ℕ → Option Architecture → Option Architecture
or_called name (Some by) = Some by
or_called name None = find (is_called name) architectures

-- the architecture that a name means; its own names come first
abbrev pub architecture_meant : List ℕ → Option Architecture
architecture_meant name = or_called name (architecture_named name)

-- ---- calls

-- what stands behind the beginning of a word, where it begins so
abbrev pub behind : List ℕ → List ℕ → Option (List ℕ)
behind start word =
    if nat_le (length start) (length word) && bytes_eq (take (length start) word) start then Some (drop (length start) word) else None

-- the name of a call, where a word is that of its number in C: SYS_ of sys/syscall.h and __NR_ of linux/unistd.h stand before it
abbrev pub bare_name : List ℕ → List ℕ
bare_name word = unwrap_or (option_or (behind (codes "SYS_") word) (behind (codes "__NR_") word)) word

-- ---- kernels

-- one of these bytes
abbrev pub is_among : List ℕ → ℕ → Bool
is_among bytes byte = list_any (λ it. it == byte) bytes

-- how long the first two numbers of a release are, with their point. What is behind the second begins with a point, `-` or `+`: uname(1)
-- with -r, and VERSION, PATCHLEVEL, EXTRAVERSION and LOCALVERSION of Linux's Makefile
abbrev pub second_number : List ℕ → ℕ
second_number text = position_or_len (is_among (codes ".")) text + 1

abbrev pub version_length : List ℕ → ℕ
version_length text = second_number text + position_or_len (is_among (codes ".-+")) (drop (second_number text) text)

-- the version of a release
abbrev pub kernel_meant : List ℕ → Option Kernel
kernel_meant text = kernel_of (take (version_length text) text)
