-- Each worked row is what the definitions compute.
use Rattle.std.proofs.Common.{refl}
use Rattle.sk_world.specs.laws.WorkedIds.{WorkedSetuid, WorkedSetresuid, WorkedExec, WorkedPermission, WorkedErrors}

pub worked_setuid : WorkedSetuid
worked_setuid = record {
  privileged = refl;
  privileged_by_effective = refl;
  not_by_real = refl;
  to_real = refl;
  to_saved = refl;
  not_to_effective = refl;
  no_id = refl;
  no_id_first = refl;
  stays_bound = refl;
}

pub worked_setresuid : WorkedSetresuid
worked_setresuid = record {
  each = refl;
  one_alone = refl;
  none = refl;
  changes_places = refl;
  real_refused = refl;
  effective_refused = refl;
  saved_refused = refl;
}

pub worked_exec : WorkedExec
worked_exec = record {
  plain = refl;
  set_user_id = refl;
  under_no_new_privs = refl;
  owner_is_user = refl;
}

pub worked_permission : WorkedPermission
worked_permission = record {
  privileged = refl;
  not_by_real_zero = refl;
  real_to_real = refl;
  real_to_saved = refl;
  effective_to_real = refl;
  effective_to_saved = refl;
  not_to_effective = refl;
  not_by_saved = refl;
}

pub worked_numbers : WorkedErrors
worked_numbers = refl
