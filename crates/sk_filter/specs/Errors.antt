-- The names of errors on x86-64: errno(3), with the numbers of asm-generic/errno-base.h and asm-generic/errno.h.
use Rattle.std.specs.Prelude.{ℕ, ◌==◌, List, [], ◌∷◌, length, map, codes, position, if◌then◌else◌, Option, Some, None, slice_get}
use Rattle.std.specs.Option.{option_and_then, option_or}
use Rattle.std.specs.Str.{bytes_eq}
use Rattle.sk_filter.specs.declared.errors.TheConstants.{ERRORS}

-- an empty text of the table is no name
abbrev pub if_any : List ℕ → Option (List ℕ)
if_any [] = None
if_any (byte ∷ bytes) = Some (byte ∷ bytes)

-- the name of the error with this number, if there is one
unfoldable pub error_named : ℕ → Option (List ℕ)
error_named number = option_and_then if_any (slice_get (map (λ name. name.now) ERRORS) number)

-- the numbers of errors by their second names, which errno(3) has beside EAGAIN, EDEADLK and EOPNOTSUPP
abbrev pub second_number : List ℕ → Option ℕ
second_number name =
    if bytes_eq name (codes "EWOULDBLOCK") then Some 11
    else if bytes_eq name (codes "EDEADLOCK") then Some 35
    else if bytes_eq name (codes "ENOTSUP") then Some 95
    else None

-- the number of the error with this name, if there is one
unfoldable pub error_number : List ℕ → Option ℕ
error_number wanted =
    if length wanted == 0 then None else option_or (position (λ name. bytes_eq name.now wanted) ERRORS) (second_number wanted)
