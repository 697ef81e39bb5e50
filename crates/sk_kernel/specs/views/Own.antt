-- The calls that act on nothing but their caller's body. Only code and proofs look at this.
use Rattle.std.specs.Prelude.{ℕ, ◌≡◌, Option, None, Some, Result}
use Rattle.sk_laws.specs.Common.{result_unwrap_or, World, at, Images, Authority, authority_of, with_authority, Performed, prctl, seccomp, row}
use Rattle.sk_insn.specs.declared.record.Record.{Record}
use Rattle.sk_world.specs.declared.errno.Errno.{Errno}
use Rattle.sk_world.specs.declared.process.Body.{Body}
use Rattle.sk_world.specs.declared.process.Proc.{Proc}
use Rattle.sk_world.specs.World.{with_body}
use Rattle.sk_machine.specs.declared.answer.Outcome.{Outcome}
use Rattle.sk_machine.specs.Memory.{prctl_attaches, seccomp_attaches}
use Rattle.sk_kernel.specs.declared.own.OwnCall.{OwnCall}
use Rattle.sk_kernel.specs.Rows.{ComesTo}
use Rattle.sk_names.specs.declared.syscall.Syscall.TheVariants as syscall
use Rattle.sk_machine.specs.declared.operation.PrctlOption.TheVariants as option
use Rattle.sk_machine.specs.declared.operation.SeccompOperation.TheVariants as operation
use Rattle.sk_kernel.specs.declared.own.OwnCall.TheVariants as own

-- a call of a process of this pid with this body has come to this outcome and to this body after, as the row says of
-- every world with such a process
abbrev pub ActsOn : ℕ → Body → (World → Body → Performed) → Outcome → Body → Type 0
ActsOn pid body row outcome after =
    (w : World) → (p : Proc) → at w pid ≡ Some p → p.body ≡ body → ComesTo w pid row outcome (with_body w pid after)

-- the authority that a call has made of the one that a process with this body had, if it has not failed
abbrev pub reauthorised : Result Authority Errno → Body → Body
reauthorised r body = with_authority (result_unwrap_or r (authority_of body)) body

-- the rows of the calls that act on nothing but their caller's body
abbrev pub own_row : Images → World → ℕ → Body → OwnCall → Record → Performed
own_row declared w pid body own.Sigaction call = row declared w pid body (Some syscall.RtSigaction) call
own_row declared w pid body own.Sigprocmask call = row declared w pid body (Some syscall.RtSigprocmask) call
own_row declared w pid body own.Sigreturn call = row declared w pid body (Some syscall.RtSigreturn) call
own_row declared w pid body own.Pause call = row declared w pid body (Some syscall.Pause) call
own_row declared w pid body own.Execve call = row declared w pid body (Some syscall.Execve) call
own_row declared w pid body own.Setuid call = row declared w pid body (Some syscall.Setuid) call
own_row declared w pid body own.Setresuid call = row declared w pid body (Some syscall.Setresuid) call
own_row declared w pid body own.SetNoNewPrivs call = prctl declared w pid body (Some option.SetNoNewPrivs) call
own_row declared w pid body own.SetChildSubreaper call = prctl declared w pid body (Some option.SetChildSubreaper) call
own_row declared w pid body own.SetSeccomp call = prctl declared w pid body (Some option.SetSeccomp) call
own_row declared w pid body own.SetModeFilter call = seccomp declared w pid body (Some operation.SetModeFilter) call

-- the image that such a call attaches, if it attaches one without flags
abbrev pub own_attaches : OwnCall → Record → Option ℕ
own_attaches own.SetSeccomp call = prctl_attaches (Some option.SetSeccomp) call
own_attaches own.SetModeFilter call = seccomp_attaches (Some operation.SetModeFilter) call
own_attaches other call = None
