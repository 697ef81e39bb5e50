-- Of which calls numbers are written by constants: those of x86-64 and of x32, whose constants are the same.
use Rattle.std.specs.Prelude.{ℕ, Option, None}
use Rattle.std.specs.Option.{option_and_then, option_map}
use Rattle.sk_names.specs.Names.{name_on, number_on}
use Rattle.sk_names.specs.declared.architecture.Architecture.{Architecture}
use Rattle.sk_names.specs.declared.architecture.Architecture.TheVariants as architecture
use Rattle.sk_arguments.specs.declared.naming.Naming.{Naming}
use Rattle.sk_arguments.specs.declared.naming.Naming.TheVariants as naming

-- the number on x86-64 of the call by whose constants those of a call are written
unfoldable pub call_with_constants : Naming → Architecture → ℕ → Option ℕ
call_with_constants naming.Constants architecture.X86_64 nr = option_map (λ name. nr) (name_on architecture.X86_64 nr)
call_with_constants naming.Constants architecture.X32 nr = option_and_then (number_on architecture.X86_64) (name_on architecture.X32 nr)
call_with_constants other by nr = None
