-- Each worked run of the widths of arguments is what the definitions compute.
use Rattle.std.proofs.Common.{refl}
use Rattle.sk_laws.proofs.Computing.{worked_runs}
use Rattle.sk_laws.specs.WorkedWidths.{WorkedWidths}

pub worked_widths : WorkedWidths
unfolding worked_runs
worked_widths = record {
  kill_takes_ints = refl;
  group_calls_take_ints = refl;
  wait_takes_ints = refl;
  execve_takes_whole = refl;
  seccomp_takes_ints = refl;
  prctl_takes_int_and_wholes = refl;
  mask_takes_int_and_set = refl;
  sigaction_takes_int_and_whole = refl;
  ids_are_ints = refl;
  exit_takes_low_byte = refl;
}
