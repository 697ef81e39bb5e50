-- Whose names calls have, and by which constants their numbers are written.
use Rattle.std.specs.Prelude.{ℕ, ◌==◌, if◌then◌else◌, Option, None}
use Rattle.sk_arguments.specs.declared.naming.Naming.{Naming}
use Rattle.sk_arguments.specs.Naming.{call_with_constants}
use Rattle.sk_names.specs.declared.architecture.Architecture.{Architecture}
use Rattle.sk_when.specs.declared.names.Names.{Names}

abbrev pub names_of : Naming → Architecture → Names
names_of naming architecture = record { naming = naming; architecture = architecture }

-- the call on x86-64 by whose constants the arguments of calls with some numbers are written: none where they are several
abbrev pub constants_of : Names → ℕ → ℕ → Option ℕ
constants_of names first last = if first == last then call_with_constants names.naming names.architecture first else None
