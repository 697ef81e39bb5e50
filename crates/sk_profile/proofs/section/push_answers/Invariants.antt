use Rattle.std.proofs.Common.{◌≡◌, ◌++◌, drop, map}
use Rattle.sk_profile.specs.Code.{answer}
use Rattle.sk_profile.proofs.section.push_answers.Given as goal

abbrev pub invariant-loop-value : goal.invariant-loop-value
invariant-loop-value l = l.code.items ++ map answer (drop l.value-index l.values) ≡ l.fn.code.items ++ map answer l.values
