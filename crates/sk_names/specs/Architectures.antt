-- The architectures by which programs call Linux: seccomp(2), linux/audit.h and linux/elf-em.h.
use Rattle.std.specs.Prelude.{ℕ, ◌+◌, ◌^◌, Bool, true, false, if◌then◌else◌, List, [], ◌∷◌, codes, Option, find}
use Rattle.std.specs.Str.{bytes_eq}
use Rattle.sk_names.specs.declared.architecture.Architecture.{Architecture}
use Rattle.sk_names.specs.declared.architecture.Architecture.TheVariants as architecture

-- what is said of an architecture: its name, the machine of its ELF files, whether these are of 64 bits, and whether a
-- number's highest byte comes first
pub record Row : Type 0 where
  pub name : List ℕ
  pub machine : ℕ
  pub wide : Bool
  pub big : Bool

-- the table; x32 has the machine of x86-64, and is of 64 bits to a filter
abbrev pub row : Architecture → Row
row architecture.X86_64 = record { name = codes "x86-64"; machine = 62; wide = true; big = false }
row architecture.X32 = record { name = codes "x32"; machine = 62; wide = true; big = false }
row architecture.I386 = record { name = codes "i386"; machine = 3; wide = false; big = false }
row architecture.Aarch64 = record { name = codes "aarch64"; machine = 183; wide = true; big = false }
row architecture.Arm = record { name = codes "arm"; machine = 40; wide = false; big = false }
row architecture.Riscv64 = record { name = codes "riscv64"; machine = 243; wide = true; big = false }
row architecture.Ppc64le = record { name = codes "ppc64le"; machine = 21; wide = true; big = false }
row architecture.S390x = record { name = codes "s390x"; machine = 22; wide = true; big = true }
row architecture.Loongarch64 = record { name = codes "loongarch64"; machine = 258; wide = true; big = false }

-- its rows, in order
abbrev pub architectures : List Architecture
architectures =
    architecture.X86_64 ∷
    architecture.X32 ∷
    architecture.I386 ∷
    architecture.Aarch64 ∷
    architecture.Arm ∷
    architecture.Riscv64 ∷
    architecture.Ppc64le ∷
    architecture.S390x ∷
    architecture.Loongarch64 ∷
    []

abbrev pub text_of : Architecture → List ℕ
text_of architecture = (row architecture).name

-- the architecture with a name
abbrev pub architecture_named : List ℕ → Option Architecture
architecture_named name = find (λ architecture. bytes_eq (text_of architecture) name) architectures

abbrev pub is_big_endian_of : Architecture → Bool
is_big_endian_of architecture = (row architecture).big

-- AUDIT_ARCH_*: the machine, __AUDIT_ARCH_64BIT and __AUDIT_ARCH_LE
abbrev pub audit_of : Architecture → ℕ
audit_of architecture =
    (row architecture).machine
    + (if (row architecture).wide then 2 ^ 31 else 0)
    + (if (row architecture).big then 0 else 2 ^ 30)
