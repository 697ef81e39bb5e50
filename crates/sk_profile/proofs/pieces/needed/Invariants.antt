use Rattle.std.proofs.Common.{ℕ, ◌≡◌, ◌≤◌, ◌<◌, get_or}
use Rattle.std.specs.Prelude.{All}
use Rattle.sk_profile.specs.declared.saying.Arm.{Arm}
use Rattle.sk_profile.proofs.pieces.needed.Given as goal

abbrev pub invariant-loop-at : goal.invariant-loop-at
invariant-loop-at l = record {
  inside : l.count ≤ l.at;
  rest : (k : ℕ) (d : Arm) → l.count ≤ k → k < l.at → (get_or l.saying.arms.items k d).value ≡ l.saying.otherwise;
  none : All (λ (arm : Arm). arm.value ≡ l.saying.otherwise) l.saying.arms.items → l.count ≡ 0;
}
