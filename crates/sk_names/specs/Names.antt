-- The names and numbers of the calls of Linux on each architecture, by its table of runs.
use Rattle.std.specs.Prelude.{ℕ, ◌+◌, ◌-◌, ◌^◌, ◌==◌, nat_lt, if◌then◌else◌, List, [], ◌∷◌, map, position, Option, None, slice_get}
use Rattle.std.specs.List.{slice_split, zip}
use Rattle.std.specs.Option.{option_map, option_or}
use Rattle.std.specs.Str.{bytes_eq}
use Rattle.sk_names.specs.X86_64.{name_of, number_named}
use Rattle.sk_names.specs.declared.architecture.Architecture.{Architecture}
use Rattle.sk_names.specs.declared.architecture.Architecture.TheVariants as architecture
use Rattle.sk_names.specs.declared.tables.aarch64.TheConstants.{AARCH64_FIRSTS, AARCH64_NAMES}
use Rattle.sk_names.specs.declared.tables.arm.TheConstants.{ARM_FIRSTS, ARM_NAMES}
use Rattle.sk_names.specs.declared.tables.i386.TheConstants.{I386_FIRSTS, I386_NAMES}
use Rattle.sk_names.specs.declared.tables.loongarch64.TheConstants.{LOONGARCH64_FIRSTS, LOONGARCH64_NAMES}
use Rattle.sk_names.specs.declared.tables.ppc64le.TheConstants.{PPC64LE_FIRSTS, PPC64LE_NAMES}
use Rattle.sk_names.specs.declared.tables.riscv64.TheConstants.{RISCV64_FIRSTS, RISCV64_NAMES}
use Rattle.sk_names.specs.declared.tables.s390x.TheConstants.{S390X_FIRSTS, S390X_NAMES}
use Rattle.sk_names.specs.declared.tables.x32.TheConstants.{X32_FIRSTS, X32_NAMES}

-- ---- a run: its first number, and the names of that and of those behind it

abbrev pub Run : Type 0
Run = ℕ × List (List ℕ)

-- the names in a text, which stand with a space (32) between each two
abbrev pub names_in : List ℕ → List (List ℕ)
names_in text = slice_split (λ byte. byte == 32) text

unfoldable pub name_at : Run → ℕ → Option (List ℕ)
name_at run nr = if nat_lt nr run.0 then None else slice_get run.1 (nr - run.0)

unfoldable pub number_at : Run → List ℕ → Option ℕ
number_at run wanted = option_map (λ place. run.0 + place) (position (λ name. bytes_eq name wanted) run.1)

-- ---- a table

-- the name of a number, by the first run that has one
unfoldable pub name_in : List Run → ℕ → Option (List ℕ)
name_in [] nr = None
name_in (run ∷ runs) nr = option_or (name_at run nr) (name_in runs nr)

-- the number of the first of all names that is this one
unfoldable pub number_in : List Run → List ℕ → Option ℕ
number_in [] wanted = None
number_in (run ∷ runs) wanted = option_or (number_at run wanted) (number_in runs wanted)

-- ---- an architecture

-- the runs of a table in src/tables, by their first numbers and the texts of their names
abbrev pub table : List ℕ → List (record { now : List ℕ }) → List Run
table firsts texts = zip firsts (map (λ text. names_in text.now) texts)

-- the runs of its numbers, but for x86-64, which has a table of its own
unfoldable pub runs_of : Architecture → List Run
runs_of architecture.X86_64 = []
runs_of architecture.X32 = table X32_FIRSTS.now X32_NAMES.now
runs_of architecture.I386 = table I386_FIRSTS.now I386_NAMES.now
runs_of architecture.Aarch64 = table AARCH64_FIRSTS.now AARCH64_NAMES.now
runs_of architecture.Arm = table ARM_FIRSTS.now ARM_NAMES.now
runs_of architecture.Riscv64 = table RISCV64_FIRSTS.now RISCV64_NAMES.now
runs_of architecture.Ppc64le = table PPC64LE_FIRSTS.now PPC64LE_NAMES.now
runs_of architecture.S390x = table S390X_FIRSTS.now S390X_NAMES.now
runs_of architecture.Loongarch64 = table LOONGARCH64_FIRSTS.now LOONGARCH64_NAMES.now

-- the name of a number; the numbers of x32 have bit 30, which its table leaves out
unfoldable pub name_on : Architecture → ℕ → Option (List ℕ)
name_on architecture.X86_64 nr = name_of nr
name_on architecture.X32 nr = if nat_lt nr (2 ^ 30) then None else name_in (runs_of architecture.X32) (nr - 2 ^ 30)
name_on other nr = name_in (runs_of other) nr

-- the number of the first of all names, in rising order of their numbers, that is this one
unfoldable pub number_on : Architecture → List ℕ → Option ℕ
number_on architecture.X86_64 wanted = number_named wanted
number_on architecture.X32 wanted = option_map (λ nr. 2 ^ 30 + nr) (number_in (runs_of architecture.X32) wanted)
number_on other wanted = number_in (runs_of other) wanted
