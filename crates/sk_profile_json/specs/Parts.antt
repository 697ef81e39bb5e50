-- The parts of a profile: one for each number of linux/audit.h that programs of the machine call Linux by, the machine's own first.
use Rattle.std.specs.Prelude.{ℕ, Bool, true, false, if◌then◌else◌, List, [], ◌∷◌, ◌++◌, flat_map, Option, Some, None}
use Rattle.json.specs.Json.{Json}
use Rattle.sk_names.specs.declared.architecture.Architecture.{Architecture}
use Rattle.sk_names.specs.declared.architecture.Architecture.TheVariants as architecture
use Rattle.sk_names.specs.Architectures.{audit_of}
use Rattle.sk_profile.specs.Profiles.{Part}
use Rattle.sk_profile_json.specs.declared.context.Context.{Context}
use Rattle.sk_profile_json.specs.declared.machine.Machine.{Machine}
use Rattle.sk_profile_json.specs.declared.machine.Machine.TheVariants as machine
use Rattle.sk_profile_json.specs.Architectures.{counts_too}
use Rattle.sk_profile_json.specs.Entries.{Named}
use Rattle.sk_profile_json.specs.Machines.{is_narrow, own_of, row}
use Rattle.sk_profile_json.specs.Rules.{rules_on}
use Rattle.sk_profile_json.specs.Runc.{has_stub, top_on}

-- what parts are made of: what is said of names, the value of calls that no entry is for, and whether runc's instructions stand before
pub record Basis : Type 0 where
  pub named : List Named
  pub default : ℕ
  pub stub : Bool

-- the greatest number that runc's instructions know
abbrev pub top_if : Basis → Architecture → ℕ
top_if basis architecture = if basis.stub then top_on architecture basis.named else 0

abbrev pub part_on : Basis → Architecture → Part
part_on basis architecture = record {
  audit = audit_of architecture;
  narrow = is_narrow architecture;
  without_x32 = false;
  rules = rules_on architecture basis.default basis.named;
  top = top_if basis architecture;
  x32_top = top_if basis architecture;
}

-- ---- x86-64's, which the calls of x32 are shown as calls of

abbrev pub with_x32 : Basis → Part → Part
with_x32 basis part =
    record part { rules = part.rules ++ rules_on architecture.X32 basis.default basis.named; x32_top = top_if basis architecture.X32 }

abbrev pub without_x32 : Part → Part
without_x32 part = record part { without_x32 = true; x32_top = 0 }

abbrev pub own_part : Basis → Machine → Bool → Part
own_part basis machine.X86_64 true = with_x32 basis (part_on basis architecture.X86_64)
own_part basis machine.X86_64 false = without_x32 (part_on basis architecture.X86_64)
own_part basis machine x32 = part_on basis (own_of machine)

-- ---- all of them

-- a relative has one where it counts, but for x32
abbrev pub has_part : Context → Json → Architecture → Bool
has_part context j architecture.X32 = false
has_part context j other = counts_too context j other

abbrev pub relative_part : Context → Json → Basis → Architecture → List Part
relative_part context j basis architecture = if has_part context j architecture then part_on basis architecture ∷ [] else []

abbrev pub parts_on : Context → Json → Basis → Option Machine → List Part
parts_on context j basis None = []
parts_on context j basis (Some machine) =
    own_part basis machine (counts_too context j architecture.X32) ∷ flat_map (relative_part context j basis) (row machine).relatives

abbrev pub basis_of : Context → Json → ℕ → List Named → Basis
basis_of context j default named = record { named = named; default = default; stub = has_stub context j }

abbrev pub parts_of : Context → Json → ℕ → List Named → List Part
parts_of context j default named = parts_on context j (basis_of context j default named) context.machine
