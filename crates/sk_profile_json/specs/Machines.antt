-- The machines that filters of profiles are made for, and the names that profiles have for architectures: SCMP_ARCH_* of
-- seccomp_arch_add(3), and in `arches` of docker's and podman's profiles those of Go, GOARCH.
use Rattle.std.specs.Prelude.{ℕ, Bool, true, false, List, [], ◌∷◌, codes, find, Option, Some, None}
use Rattle.std.specs.Str.{bytes_eq}
use Rattle.sk_names.specs.declared.architecture.Architecture.{Architecture}
use Rattle.sk_names.specs.declared.architecture.Architecture.TheVariants as architecture
use Rattle.sk_names.specs.Architectures.{text_of}
use Rattle.sk_profile_json.specs.declared.machine.Machine.{Machine}
use Rattle.sk_profile_json.specs.declared.machine.Machine.TheVariants as machine

-- what is said of a machine: its own architecture, those that its kernel runs too, and its name in `arches`
pub record Row : Type 0 where
  pub own : Architecture
  pub relatives : List Architecture
  pub arch : List ℕ

-- the table
abbrev pub row : Machine → Row
row machine.X86_64 = record { own = architecture.X86_64; relatives = architecture.X32 ∷ architecture.I386 ∷ []; arch = codes "amd64" }
row machine.Aarch64 = record { own = architecture.Aarch64; relatives = architecture.Arm ∷ []; arch = codes "arm64" }
row machine.Riscv64 = record { own = architecture.Riscv64; relatives = []; arch = codes "riscv64" }
row machine.Ppc64le = record { own = architecture.Ppc64le; relatives = []; arch = codes "ppc64le" }
row machine.Loongarch64 = record { own = architecture.Loongarch64; relatives = []; arch = codes "loong64" }

-- its rows, in order
abbrev pub machines : List Machine
machines = machine.X86_64 ∷ machine.Aarch64 ∷ machine.Riscv64 ∷ machine.Ppc64le ∷ machine.Loongarch64 ∷ []

abbrev pub own_of : Machine → Architecture
own_of machine = (row machine).own

-- the machine whose own architecture has a name
abbrev pub machine_named : List ℕ → Option Machine
machine_named name = find (λ machine. bytes_eq (text_of (own_of machine)) name) machines

-- the machine that runs programs of an architecture; on s390x arguments have their highest byte first, and no filter asks for them
abbrev pub machine_of : Architecture → Option Machine
machine_of architecture.X86_64 = Some machine.X86_64
machine_of architecture.X32 = Some machine.X86_64
machine_of architecture.I386 = Some machine.X86_64
machine_of architecture.Aarch64 = Some machine.Aarch64
machine_of architecture.Arm = Some machine.Aarch64
machine_of architecture.Riscv64 = Some machine.Riscv64
machine_of architecture.Ppc64le = Some machine.Ppc64le
machine_of architecture.S390x = None
machine_of architecture.Loongarch64 = Some machine.Loongarch64

abbrev pub scmp_name : Architecture → List ℕ
scmp_name architecture.X86_64 = codes "SCMP_ARCH_X86_64"
scmp_name architecture.X32 = codes "SCMP_ARCH_X32"
scmp_name architecture.I386 = codes "SCMP_ARCH_X86"
scmp_name architecture.Aarch64 = codes "SCMP_ARCH_AARCH64"
scmp_name architecture.Arm = codes "SCMP_ARCH_ARM"
scmp_name architecture.Riscv64 = codes "SCMP_ARCH_RISCV64"
scmp_name architecture.Ppc64le = codes "SCMP_ARCH_PPC64LE"
scmp_name architecture.S390x = codes "SCMP_ARCH_S390X"
scmp_name architecture.Loongarch64 = codes "SCMP_ARCH_LOONGARCH64"

-- whether registers have 32 bits
abbrev pub is_narrow : Architecture → Bool
is_narrow architecture.I386 = true
is_narrow architecture.Arm = true
is_narrow other = false
