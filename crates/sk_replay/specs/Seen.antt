-- What the calls of a log show in one argument.
use Rattle.std.specs.Prelude.{ℕ, ◌≡◌, ◌==◌, Bool, if◌then◌else◌, List, [], ◌∷◌, map, filter, take, slice_index_or, bit_and, Option, Some, None}
use Rattle.std.specs.BTreeSet.{insert_key}
use Rattle.std.specs.List.{list_any}
use Rattle.std.specs.Ordering.{nat_cmp}
use Rattle.sk_replay.specs.declared.call.Call.{Call}
use Rattle.sk_replay.specs.declared.value.Value.{Value}
use Rattle.sk_replay.specs.declared.value.Value.TheVariants.{Unknown}
use Rattle.sk_replay.specs.Calls.{is_unknown, number_or_0}
use Rattle.sk_replay.specs.Logged.{RiseFrom, is_among}

-- an argument, from 0 on. strace(1) leaves out an argument that Linux does not read, and then anything may stand in its register
unfoldable pub shown_value : Call → ℕ → Value
shown_value call i = slice_index_or (take call.shown call.args) i Unknown

-- a call shows no number there
abbrev pub hides : ℕ → Call → Bool
hides i call = is_unknown (shown_value call i)

-- some bits of the number
abbrev pub bits_shown : ℕ → ℕ → Call → ℕ
bits_shown i mask call = bit_and (number_or_0 (shown_value call i)) mask

-- the calls with a number
abbrev pub calls_with : ℕ → List Call → List Call
calls_with nr calls = filter (λ call. call.nr == nr) calls

-- numbers, each once, in rising order
abbrev pub rising : List ℕ → List ℕ
rising [] = []
rising (n ∷ numbers) = insert_key nat_cmp (rising numbers) n

-- which numbers some bits of an argument are in the calls with a number; none where one of these calls shows no number there
unfoldable pub seen_numbers : List Call → ℕ → ℕ → ℕ → Option (List ℕ)
seen_numbers calls nr i mask =
    if list_any (hides i) (calls_with nr calls) then None
    else Some (rising (map (bits_shown i mask) (calls_with nr calls)))

-- ---- the laws

-- a number is among those where it is one of them
abbrev pub RisingAreAll : Type 0
RisingAreAll = (numbers : List ℕ) (n : ℕ) → is_among n (rising numbers) ≡ is_among n numbers

-- each is less than those behind it
abbrev pub RisingRise : Type 0
RisingRise = (numbers : List ℕ) → RiseFrom 0 (rising numbers)
