use Rattle.std.proofs.Common.{sym, ◌∙◌}
use Rattle.sk_names.proofs.Lookups.{none_at, some_at}
use Rattle.sk_names.proofs.runs.number_at.Goals as goal

pub returns-in_err-place_of : goal.returns-in_err-place_of
returns-in_err-place_of c = record { first = c.from_residual.ensures ∙ sym (none_at _ _ (sym c.in_err-place_of.ensures.first)) }

pub returns : goal.returns
returns c = record { first = sym (some_at _ _ _ (sym c.in_ok-place_of.ensures.first)) }
