-- Where the profiles among the files are to hold.
use Rattle.std.specs.Prelude.{◌≡◌, map, unwrap_or, Option, Some, None}
use Rattle.sk_names.specs.declared.architecture.Architecture.{Architecture}
use Rattle.sk_profile_json.specs.declared.context.Context.{Context}
use Rattle.sk_profile_json.specs.declared.context.Kernel.{Kernel}
use Rattle.sk_profile_json.specs.declared.machine.Machine.{Machine}
use Rattle.sk_profile_json.specs.Machines.{machine_of}
use Rattle.sk_ask.specs.Architectures.{architecture_of}
use Rattle.sk_ask.specs.Asking.{Question}

-- the newest kernel whose calls have names here
abbrev pub newest : Kernel
newest = record { major = 6; minor = 12 }

-- the machine that is named; where none is, that of the architecture whose calls are asked of, if filters are made for it
abbrev pub machine_there : Option Machine → Option Architecture → Option Machine
machine_there (Some machine) arch = Some machine
machine_there None arch = machine_of (architecture_of arch)

-- the capabilities that are named are held, and no others; where no kernel is named it is the newest; and where that is said runc
-- attaches the filter, or the machine's own architecture stands alone
abbrev pub IsContextOf : Question → Context → Type 0
IsContextOf asked context =
    (map (λ name. name.now) context.capabilities.now ≡ asked.caps) × (context.kernel ≡ unwrap_or asked.kernel newest)
    × (context.runc ≡ asked.runc) × (context.machine ≡ machine_there asked.machine asked.arch) × (context.native ≡ asked.native)
