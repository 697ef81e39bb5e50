-- Rows of the tables, as linux/audit.h and asm/unistd.h of each architecture have them.
use Rattle.std.specs.Prelude.{◌≡◌, ◌+◌, ◌^◌, codes, Some, None}
use Rattle.sk_names.specs.declared.architecture.Architecture.TheVariants as architecture
use Rattle.sk_names.specs.Architectures.{audit_of}
use Rattle.sk_names.specs.Names.{name_on, number_on}

-- AUDIT_ARCH_X86_64, AUDIT_ARCH_I386 and AUDIT_ARCH_S390X
abbrev pub WorkedAudits : Type 0
WorkedAudits =
    (audit_of architecture.X86_64 ≡ 3221225534)
    × (audit_of architecture.X32 ≡ 3221225534)
    × (audit_of architecture.I386 ≡ 1073741827)
    × (audit_of architecture.S390x ≡ 2147483670)

-- i386 has no call 223, and socket(2) came late there
abbrev pub WorkedX86 : Type 0
WorkedX86 =
    (name_on architecture.X86_64 59 ≡ Some (codes "execve"))
    × (name_on architecture.I386 11 ≡ Some (codes "execve"))
    × (name_on architecture.I386 12 ≡ Some (codes "chdir"))
    × (name_on architecture.I386 17 ≡ Some (codes "break"))
    × (name_on architecture.I386 223 ≡ None)
    × (number_on architecture.I386 (codes "socket") ≡ Some 359)
    × (number_on architecture.I386 (codes "clone3") ≡ Some 435)

-- read(2) has its number with bit 30 and none without; execve(2) has one of its own
abbrev pub WorkedX32 : Type 0
WorkedX32 =
    (name_on architecture.X32 (2 ^ 30) ≡ Some (codes "read"))
    × (name_on architecture.X32 0 ≡ None)
    × (name_on architecture.X32 (2 ^ 30 + 59) ≡ None)
    × (number_on architecture.X32 (codes "execve") ≡ Some (2 ^ 30 + 520))
    × (number_on architecture.X32 (codes "clone3") ≡ Some (2 ^ 30 + 435))

-- its own calls have numbers far from those of the others
abbrev pub WorkedArm : Type 0
WorkedArm =
    (number_on architecture.Arm (codes "execve") ≡ Some 11)
    × (name_on architecture.Arm 983042 ≡ Some (codes "cacheflush"))
    × (name_on architecture.Arm 447 ≡ None)

-- these three have the generic numbers, with what only some of them have
abbrev pub WorkedGeneric : Type 0
WorkedGeneric =
    (number_on architecture.Aarch64 (codes "execve") ≡ Some 221)
    × (number_on architecture.Riscv64 (codes "execve") ≡ Some 221)
    × (number_on architecture.Loongarch64 (codes "execve") ≡ Some 221)
    × (number_on architecture.Aarch64 (codes "flock") ≡ Some 32)
    × (name_on architecture.Aarch64 38 ≡ Some (codes "renameat"))
    × (name_on architecture.Riscv64 38 ≡ None)
    × (name_on architecture.Riscv64 259 ≡ Some (codes "riscv_flush_icache"))
    × (name_on architecture.Loongarch64 163 ≡ None)
    × (name_on architecture.Loongarch64 435 ≡ Some (codes "clone3"))

abbrev pub WorkedOthers : Type 0
WorkedOthers =
    (number_on architecture.Ppc64le (codes "execve") ≡ Some 11)
    × (name_on architecture.Ppc64le 7 ≡ Some (codes "waitpid"))
    × (name_on architecture.Ppc64le 448 ≡ Some (codes "process_mrelease"))
    × (number_on architecture.Ppc64le (codes "seccomp") ≡ Some 358)
    × (number_on architecture.S390x (codes "execve") ≡ Some 11)
    × (number_on architecture.S390x (codes "seccomp") ≡ Some 348)
