-- Each worked run of subreapers is what the definitions compute.
use Rattle.std.proofs.Common.{refl}
use Rattle.sk_laws.proofs.Computing.{worked_runs}
use Rattle.sk_laws.specs.WorkedReapers.{WorkedReapers}

pub worked_reapers : WorkedReapers
unfolding worked_runs
worked_reapers = record {
  reaps_for_server = refl;
  turns_of_server = refl;
  reaps_for_init = refl;
  has_no_subreapers = refl;
  keeps_mark_through_exec = refl;
  sets_and_clears_mark = refl;
  reaps_for_nearest = refl;
  clears_mark = refl;
  reaps_while_stopped = refl;
  hands_zombie_to_reaper = refl;
  leaves_reaper_no_zombies = refl;
  announces_to_reaper = refl;
  reaper_ties_group = refl;
  init_ties_no_group = refl;
  tells_ignorer_of_no_orphan = refl;
  marks_by_whole_register = refl;
}
