use Rattle.std.proofs.Common.{◌≡◌, ◌≤◌, drop}
use Rattle.sk_text.specs.Numbers.{number_in, up_to}
use Rattle.sk_text.proofs.Reading.{number_after}
use Rattle.sk_replay.proofs.digits.digits_up_to.Given as goal

-- what the value and the digits that are left make is what all digits make
abbrev pub invariant-loop-byte : goal.invariant-loop-byte
invariant-loop-byte l = record {
  so_far : up_to l.most (number_after l.radix l.value (drop l.byte-index l.digits)) ≡ up_to l.most (number_in l.radix l.digits);
  within : l.value ≤ l.most;
}
