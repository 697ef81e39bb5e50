-- What a signal that is ready for delivery is: pending, and not blocked.
use Rattle.std.proofs.Common.{◌≡◌, ◌∙◌, ap, sym, ℕ, arith, true, false, Option, Some, None}
use Rattle.std.specs.Prelude.{IsTrue, IsFalse, IfSome}
use Rattle.sk_world.specs.Sets as set
use Rattle.std.proofs.lemmas.Bool.Decides.{nat_tests}
use Rattle.sk_world.specs.SignalSet.{Signals, IsLeast}
use Rattle.sk_world.proofs.SetLaws.{sets, none_in_empty}

pub ready_is : (pending mask : Signals) (n : ℕ) → IsTrue (set.contains (set.difference pending mask) n) → IsTrue (set.contains pending n) × IsFalse (set.contains mask n)
ready_is pending mask n h = grind (arith, nat_tests, sets, h)

pub least_is_ready : (pending mask : Signals) (o : Option ℕ) → IfSome o (IsLeast (set.difference pending mask)) → IfSome o (λ n. IsTrue (set.contains pending n) × IsFalse (set.contains mask n))
least_is_ready pending mask None h = h
least_is_ready pending mask (Some n) h = ready_is pending mask n h.member

pub some_member : (s : Signals) (n : ℕ) → IsTrue (set.contains s n) → s ≡ set.empty → true ≡ false
some_member s n h e = sym h ∙ ap (λ x. set.contains x n) e ∙ none_in_empty n
