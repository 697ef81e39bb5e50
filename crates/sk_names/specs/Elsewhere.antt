-- The names of the calls that Linux has on other architectures than x86-64 alone: asm/unistd.h of each.
use Rattle.std.specs.Prelude.{ℕ, Bool, List}
use Rattle.std.specs.List.{list_any}
use Rattle.std.specs.Str.{bytes_eq}
use Rattle.sk_names.specs.declared.elsewhere.names.TheConstants.{ELSEWHERE}

unfoldable pub is_elsewhere : List ℕ → Bool
is_elsewhere wanted = list_any (λ name. bytes_eq name.now wanted) ELSEWHERE
