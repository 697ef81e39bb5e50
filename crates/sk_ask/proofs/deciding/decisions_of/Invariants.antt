use Rattle.std.proofs.Common.{◌≡◌, ◌++◌, ℕ, List, map, length, string_bytes}
use Rattle.std.specs.List.{zip}
use Rattle.sk_document.specs.declared.deciding.Decider.{Decider}
use Rattle.sk_document.specs.Deciding.{pair_of}
use Rattle.sk_ask.specs.Deciding.{AreDecided}
use Rattle.sk_ask.proofs.deciding.decisions_of.Given as goal

-- what decides in the files that are done goes with what decides in those that are left
abbrev pub invariant-loop-name : goal.invariant-loop-name
invariant-loop-name l = (more : List (List ℕ × Decider)) → AreDecided l.context l.call (zip (map string_bytes l.rest) (map (λ file. file.items) l.left)) more → AreDecided l.context l.call (zip (map string_bytes l.names) (map (λ file. file.items) l.files)) (map pair_of l.decisions.items ++ more)

abbrev pub decreases-loop-name : goal.decreases-loop-name
decreases-loop-name l = length l.rest
