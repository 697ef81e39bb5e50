use Rattle.std.proofs.Common.{◌≡◌, ◌++◌, drop, map}
use Rattle.json.specs.Token as token
use Rattle.sk_profile_json.specs.Writing.{names_of}
use Rattle.sk_profile_json.proofs.writing.push_names.Given as goal

abbrev pub invariant-loop-number : goal.invariant-loop-number
invariant-loop-number l =
    l.out ++ map token.string (names_of (drop l.number-index l.numbers)) ≡ l.fn.out ++ map token.string (names_of l.numbers)
