use Rattle.std.proofs.Common.{◌≡◌, ◌++◌, List, ℕ, map, length, string_bytes, true}
use Rattle.sk_ask.specs.declared.trouble.Trouble.{Trouble}
use Rattle.sk_ask.specs.Since.{AreJudged, IsUnjudgedOf}
use Rattle.sk_ask.proofs.since.all_under_filter.Given as goal

-- what is judged of the logs that are done goes with what is judged of those that are left
abbrev pub invariant-loop-name : goal.invariant-loop-name
invariant-loop-name l = record {
  so_far : (more : List (List ℕ)) → AreJudged true l.architecture (map (λ log. log.items) l.left) more → AreJudged true l.architecture (map (λ log. log.items) l.logs) (map (λ text. text.items) l.texts.items ++ more);
  among : (why : Trouble) → IsUnjudgedOf true l.architecture (map string_bytes l.rest) (map (λ log. log.items) l.left) why → IsUnjudgedOf true l.architecture (map string_bytes l.names) (map (λ log. log.items) l.logs) why;
  each : length l.rest ≡ length l.left;
}

abbrev pub decreases-loop-name : goal.decreases-loop-name
decreases-loop-name l = length l.rest
