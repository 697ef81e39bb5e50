use Rattle.std.proofs.Common.{◌≡◌, ◌++◌, map, string_bytes, take}
use Rattle.sk_document.specs.Deciding.{pair_of}
use Rattle.sk_ask.specs.Deciding.{decision_lines}
use Rattle.sk_ask.proofs.deciding.push_decisions.Given as goal

abbrev pub invariant-loop-it : goal.invariant-loop-it
invariant-loop-it l = string_bytes l.text ≡ string_bytes l.initial.text ++ decision_lines (map pair_of (take l.it-index l.decisions))
