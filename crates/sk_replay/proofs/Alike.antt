-- Calls that are the same to the code.
use Rattle.std.proofs.Common.{◌≡◌, ◌==◌, ◌&&◌, refl, List, Bool, nat_eq}
use Rattle.std.specs.Option.{option_eq}
use Rattle.std.specs.Cmp.Lexicographic.{pointwise}
use Rattle.sk_replay.specs.contracts.call.CallPartialEq.TheImpl.{eq-value}
use Rattle.sk_replay.specs.contracts.value.ValuePartialEq.TheImpl.{eq-value as value-eq}
use Rattle.sk_replay.specs.declared.value.Value.{Value}
use Rattle.sk_replay.specs.declared.value.Value.TheVariants.{Told, Unknown}
use Rattle.sk_replay.specs.declared.call.Call.{Call}
use Rattle.sk_replay.specs.Replaying.{is_same, same_value}

same_values : (a b : Value) → value-eq.it a b ≡ same_value a b
same_values (Told a) (Told b) = refl
same_values Unknown Unknown = refl
same_values (Told a) Unknown = refl
same_values Unknown (Told b) = refl

pub same_calls : eq-value.it ≡ is_same
same_calls = λ i a b. (a.nr == b.nr) && ((a.shown == b.shown) && (pointwise (λ x y. same_values x y i) a.args b.args && option_eq nat_eq a.logged b.logged))
