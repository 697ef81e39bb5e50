-- What a wait4(2) asks for, or why it asks for nothing. Only code and proofs look at this.
use Rattle.std.specs.Prelude.{ℕ, ◌^◌, ◌==◌, not, if◌then◌else◌, Result, Ok, Err}
use Rattle.sk_laws.specs.Common.{World, unsigned, are_wait_options, request_of}
use Rattle.sk_insn.specs.declared.record.Record.{Record}
use Rattle.sk_world.specs.declared.errno.Errno.{Errno}
use Rattle.sk_world.specs.declared.errno.Errno.TheVariants.{Esrch, Einval}
use Rattle.sk_world.specs.declared.request.Request.{Request}

-- the request of the registers, where they have one
abbrev pub request_or_error : World → ℕ → Record → Result Request Errno
request_or_error w pid call =
    if not (are_wait_options (unsigned call 2)) then Err Einval
    else if unsigned call 0 == 2 ^ 31 then Err Esrch
    else Ok (request_of w pid call)
