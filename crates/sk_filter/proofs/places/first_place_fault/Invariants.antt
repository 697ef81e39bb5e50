use Rattle.std.proofs.Common.{ℕ, ◌≡◌, ◌<◌, None}
use Rattle.sk_filter.specs.FirstFault.{own_fault}
use Rattle.sk_filter.proofs.places.first_place_fault.Given as goal

abbrev pub invariant-loop-at : goal.invariant-loop-at
invariant-loop-at l = (place : ℕ) → place < l.at → own_fault l.insns place ≡ None
