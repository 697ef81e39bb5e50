use Rattle.std.proofs.Common.{sym, ◌∙◌}
use Rattle.sk_names.proofs.NativeNames.{number_early, named_early, number_late, named_late, no_number, unnamed}
use Rattle.sk_names.proofs.x86_64.number.Goals as goal

pub returns-in_err-place_of-in-None-clause-first : goal.returns-in_err-place_of-in-None-clause-first
returns-in_err-place_of-in-None-clause-first c =
    c.from_residual.ensures ∙ sym (no_number _ (sym c.in-None.ensures.first) (sym c.in_err-place_of-in-None.ensures.first))

pub returns-in_err-place_of-in-None-clause-none : goal.returns-in_err-place_of-in-None-clause-none
returns-in_err-place_of-in-None-clause-none c =
    rw c.from_residual.ensures (unnamed _ (sym c.in-None.ensures.first) (sym c.in_err-place_of-in-None.ensures.first))

pub returns-in_err-place_of-in-None-clause-found : goal.returns-in_err-place_of-in-None-clause-found
returns-in_err-place_of-in-None-clause-found c = rw c.from_residual.ensures tt

pub returns-in-Some-clause-first : goal.returns-in-Some-clause-first
returns-in-Some-clause-first c = sym (number_early _ _ (sym c.in-Some.ensures.first))

pub returns-in-Some-clause-found : goal.returns-in-Some-clause-found
returns-in-Some-clause-found c = named_early _ _ (sym c.in-Some.ensures.first)

pub returns-in_ok-place_of-in-None-clause-first : goal.returns-in_ok-place_of-in-None-clause-first
returns-in_ok-place_of-in-None-clause-first c = sym (number_late _ _ (sym c.in-None.ensures.first) (sym c.in_ok-place_of-in-None.ensures.first))

pub returns-in_ok-place_of-in-None-clause-found : goal.returns-in_ok-place_of-in-None-clause-found
returns-in_ok-place_of-in-None-clause-found c = named_late _ _ (sym c.in_ok-place_of-in-None.ensures.first)
