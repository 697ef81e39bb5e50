-- What is in the registers of a call, and what prctl(2) and seccomp(2) are asked by numbers.
use Rattle.std.specs.Prelude.{ℕ, zero, suc, ℤ, pos, negsuc, ◌+◌, ◌%◌, ◌^◌, ◌==◌, if◌then◌else◌, slice_index_or, Option, Some, None}
use Rattle.std.specs.Int.{cast_signed, w32}
use Rattle.sk_insn.specs.declared.record.Record.{Record}
use Rattle.sk_world.specs.declared.request.Who.{Who}
use Rattle.sk_world.specs.declared.request.Who.TheVariants as who
use Rattle.sk_machine.specs.declared.operation.PrctlOption.{PrctlOption}
use Rattle.sk_machine.specs.declared.operation.PrctlOption.TheVariants as option
use Rattle.sk_machine.specs.declared.operation.SeccompOperation.{SeccompOperation}
use Rattle.sk_machine.specs.declared.operation.SeccompOperation.TheVariants as operation

-- the option of prctl(2) that a number stands for
abbrev pub prctl_option_of : ℕ → Option PrctlOption
prctl_option_of n =
    if n == 21 then Some option.GetSeccomp
    else if n == 22 then Some option.SetSeccomp
    else if n == 36 then Some option.SetChildSubreaper
    else if n == 37 then Some option.GetChildSubreaper
    else if n == 38 then Some option.SetNoNewPrivs
    else if n == 39 then Some option.GetNoNewPrivs
    else None

-- the operation of seccomp(2) that a number stands for
abbrev pub seccomp_operation_of : ℕ → Option SeccompOperation
seccomp_operation_of n =
    if n == 1 then Some operation.SetModeFilter
    else if n == 2 then Some operation.GetActionAvail
    else None

-- register n of a call, all 64 bits of it
abbrev pub register : Record → ℕ → ℕ
register call n = slice_index_or call.args n 0

-- its low 32 bits as a number without a sign, the unsigned int of the manuals
abbrev pub unsigned : Record → ℕ → ℕ
unsigned call n = register call n % 2 ^ 32

-- the same bits as a number with a sign, their int
abbrev pub signed : Record → ℕ → ℤ
signed call n = cast_signed w32 (unsigned call n)

-- whom an argument means, for kill(2) and wait4(2): n is the process n, 0 those of the caller's group, which
-- is asked now, -1 any, and -n those of the group n
abbrev pub who_meant : ℕ → ℤ → Who
who_meant group (pos zero) = who.Group group
who_meant group (pos (suc n)) = who.Child (suc n)
who_meant group (negsuc zero) = who.Any
who_meant group (negsuc (suc n)) = who.Group (n + 2)
