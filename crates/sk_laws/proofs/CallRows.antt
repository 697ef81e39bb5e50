-- Each worked run of calls is what the definitions compute.
use Rattle.std.proofs.Common.{refl}
use Rattle.sk_laws.proofs.Computing.{worked_runs}
use Rattle.sk_laws.specs.WorkedCalls.{WorkedCalls}

pub worked_calls : WorkedCalls
unfolding worked_runs
worked_calls = record {
  answers_errno = refl;
  answers_no_errno = refl;
  answers_greatest_errno = refl;
  ends_by_unknown_action = refl;
  actions_on_children = refl;
  judges_by_all_filters = refl;
  keeps_filter_through_exec = refl;
  takes_owner = refl;
  saves_effective_id = refl;
  moves_among_its_ids = refl;
  asks_for_modes = refl;
  asks_for_actions = refl;
  refuses_to_attach = refl;
}
