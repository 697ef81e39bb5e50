use Rattle.std.proofs.Common.{◌≡◌, ◌++◌, take, flat_map}
use Rattle.sk_document.specs.Calls.{hexadecimal_said}
use Rattle.sk_document.proofs.call.add_hexadecimals.Given as goal

abbrev pub invariant-loop-number : goal.invariant-loop-number
invariant-loop-number l = l.to ≡ l.initial.to ++ flat_map hexadecimal_said (take l.number-index l.numbers)
