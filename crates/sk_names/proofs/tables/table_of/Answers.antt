use Rattle.std.proofs.Common.{◌≡◌, List, refl, sym, ap, ◌∙◌}
use Rattle.sk_names.specs.declared.architecture.Architecture.{Architecture}
use Rattle.sk_names.specs.declared.architecture.Architecture.TheVariants as architecture
use Rattle.sk_names.specs.Names.{Run, runs_of}
use Rattle.sk_names.proofs.tables.table_of.Goals as goal

same : (runs : List Run) (a b : Architecture) → a ≡ b → runs ≡ runs_of b → runs ≡ runs_of a
same runs a b e is = is ∙ ap runs_of (sym e)

pub returns-in-X86_64 : goal.returns-in-X86_64
unfolding runs_of
returns-in-X86_64 c = record { runs = same _ _ architecture.X86_64 c.in-X86_64.is refl }

pub returns-in-X32 : goal.returns-in-X32
unfolding runs_of
returns-in-X32 c = record { runs = same _ _ architecture.X32 c.in-X32.is refl }

pub returns-in-I386 : goal.returns-in-I386
unfolding runs_of
returns-in-I386 c = record { runs = same _ _ architecture.I386 c.in-I386.is refl }

pub returns-in-Aarch64 : goal.returns-in-Aarch64
unfolding runs_of
returns-in-Aarch64 c = record { runs = same _ _ architecture.Aarch64 c.in-Aarch64.is refl }

pub returns-in-Arm : goal.returns-in-Arm
unfolding runs_of
returns-in-Arm c = record { runs = same _ _ architecture.Arm c.in-Arm.is refl }

pub returns-in-Riscv64 : goal.returns-in-Riscv64
unfolding runs_of
returns-in-Riscv64 c = record { runs = same _ _ architecture.Riscv64 c.in-Riscv64.is refl }

pub returns-in-Ppc64le : goal.returns-in-Ppc64le
unfolding runs_of
returns-in-Ppc64le c = record { runs = same _ _ architecture.Ppc64le c.in-Ppc64le.is refl }

pub returns-in-S390x : goal.returns-in-S390x
unfolding runs_of
returns-in-S390x c = record { runs = same _ _ architecture.S390x c.in-S390x.is refl }

pub returns-in-Loongarch64 : goal.returns-in-Loongarch64
unfolding runs_of
returns-in-Loongarch64 c = record { runs = same _ _ architecture.Loongarch64 c.in-Loongarch64.is refl }
