-- A count of failures below its limit rises at a failure.
use Rattle.std.proofs.Common.{◌≡◌, ◌+◌, ◌-◌, ◌^◌, ◌<◌, ℕ, arith}
use Rattle.sk_text.specs.Failures.{one_more}

pub one_more-below : (count : ℕ) → count < 2 ^ 64 - 1 → one_more count ≡ count + 1
one_more-below count h = omega arith

pub rises : (old new : ℕ) → old < 2 ^ 64 - 1 → new ≡ one_more old → old < new
rises old new h e = omega arith
