use Rattle.std.proofs.Common.{◌≡◌, ◌+◌, ◌++◌, ℕ, List, map, length, string_bytes}
use Rattle.sk_ask.specs.declared.trouble.Trouble.{Trouble}
use Rattle.sk_ask.specs.Expanding.{StandFor, IsFirstWithout}
use Rattle.sk_ask.proofs.expansion.expanded.Given as goal

abbrev pub invariant-loop-name : goal.invariant-loop-name
invariant-loop-name l = record {
  so_far : (images : List (List ℕ)) (notes : List ℕ) → StandFor l.manner l.context (map string_bytes l.rest) (map (λ file. file.items) l.left) images notes → StandFor l.manner l.context (map string_bytes l.names) (map (λ file. file.items) l.files) (map (λ image. image.items) l.images.items ++ images) (l.notes.items ++ notes);
  first : (why : Trouble) → IsFirstWithout l.manner l.context (map string_bytes l.rest) (map (λ file. file.items) l.left) why → IsFirstWithout l.manner l.context (map string_bytes l.names) (map (λ file. file.items) l.files) why;
  even : length l.left ≡ length l.rest;
  each : length l.images.items + length l.rest ≡ length l.names;
}

abbrev pub decreases-loop-name : goal.decreases-loop-name
decreases-loop-name l = length l.rest
