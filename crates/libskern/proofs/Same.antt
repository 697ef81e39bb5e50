-- Bytes that `==` finds equal are the same.
use Rattle.std.proofs.Common.{◌≡◌, ℕ, List}
use Rattle.std.specs.Bool.{Decides}
use Rattle.std.specs.Str.{bytes_eq}
use Rattle.std.proofs.lemmas.Slice.Eq.{bytes_eq-Decides}

pub same_bytes : (xs ys : List ℕ) → Decides (bytes_eq xs ys) (xs ≡ ys)
same_bytes = bytes_eq-Decides
