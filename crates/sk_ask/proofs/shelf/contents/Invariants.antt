use Rattle.std.proofs.Common.{◌≡◌, ◌+◌, ℕ, List, map, length, string_bytes, ◌++◌}
use Rattle.sk_ask.specs.declared.trouble.Trouble.{Trouble}
use Rattle.sk_ask.specs.Shelves.{AreContents, IsUnreadOf}
use Rattle.sk_ask.proofs.shelf.contents.Given as goal

abbrev pub invariant-loop-name : goal.invariant-loop-name
invariant-loop-name g l = record {
  so_far : (more : List (List ℕ)) → AreContents l.most (g.S.Shelf.held l.shelf) (map string_bytes l.rest) more → AreContents l.most (g.S.Shelf.held l.shelf) (map string_bytes l.names) (map (λ file. file.items) l.files.items ++ more);
  among : (why : Trouble) → IsUnreadOf l.most (g.S.Shelf.held l.shelf) (map string_bytes l.rest) why → IsUnreadOf l.most (g.S.Shelf.held l.shelf) (map string_bytes l.names) why;
  each : length l.files.items + length l.rest ≡ length l.names;
  counted : l.reads ≡ l.fn.reads;
}

abbrev pub decreases-loop-name : goal.decreases-loop-name
decreases-loop-name g l = length l.rest
