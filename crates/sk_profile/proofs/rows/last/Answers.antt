use Rattle.std.proofs.Common.{◌≡◌, ◌-◌, List, length, Some, slice_get, sym, subst}
use Rattle.sk_profile.specs.declared.saying.Row.{Row}
use Rattle.sk_profile.proofs.Starts.{last_said}
use Rattle.sk_profile.proofs.rows.last.Goals as goal

pub returns-in-Some : goal.returns-in-Some
returns-in-Some c = record {
  last = λ nr below.
      last_said _ c.in-Some.row.now _ nr
      (sym (subst (λ (rows : List Row). Some c.in-Some.row.now ≡ slice_get rows (length rows - 1)) c.deref.ensures.value c.in-Some.ensures.value))
      below;
}
