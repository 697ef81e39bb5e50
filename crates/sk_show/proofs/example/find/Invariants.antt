use Rattle.std.proofs.Common.{◌≡◌, ◌≤◌, ◌⊎◌, ◌∷◌, [], length}
use Rattle.sk_show.specs.Examples.{IsShownBy, plain_call}
use Rattle.sk_show.proofs.example.find.Given as goal

-- the plain call is still to be tried, or shows nothing
abbrev pub invariant-loop-tried : goal.invariant-loop-tried
invariant-loop-tried l = record {
  few : length l.calls.items ≤ 512;
  plain : ((l.tried ≡ 0) × (l.calls.items ≡ plain_call l.first ∷ [])) ⊎ (IsShownBy l.chain l.first l.last l.value (plain_call l.first) → ⊥);
}

abbrev pub invariant-loop-program : goal.invariant-loop-program
invariant-loop-program l = record {
  few : length l.calls.items ≤ 512;
  plain : IsShownBy l.chain l.first l.last l.value (plain_call l.first) → ⊥;
}
