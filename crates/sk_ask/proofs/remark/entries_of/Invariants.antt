use Rattle.std.proofs.Common.{◌≡◌, ◌++◌, ℕ, List, map, length, string_bytes, Option}
use Rattle.std.specs.List.{zip}
use Rattle.sk_profile.specs.Profiles.{Profile}
use Rattle.sk_ask.specs.Lints.{AreSaid}
use Rattle.sk_ask.specs.Said.{said_of}
use Rattle.sk_ask.proofs.remark.entries_of.Given as goal

-- what is said of the files that are done goes with what is said of those that are left
abbrev pub invariant-loop-name : goal.invariant-loop-name
invariant-loop-name l = (more : List (List ℕ × Option Profile)) → AreSaid l.context (zip (map string_bytes l.rest) (map (λ file. file.items) l.left)) more → AreSaid l.context (zip (map string_bytes l.names) (map (λ file. file.items) l.files)) (map said_of l.said.items ++ more)

abbrev pub decreases-loop-name : goal.decreases-loop-name
decreases-loop-name l = length l.rest
