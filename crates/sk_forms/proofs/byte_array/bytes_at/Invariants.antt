use Rattle.std.proofs.Common.{◌≡◌, ◌-◌, [], length}
use Rattle.sk_forms.specs.ByteArrays.{bytes_from}
use Rattle.sk_forms.proofs.byte_array.bytes_at.Given as goal

-- the bytes so far, and those that are left, are all
abbrev pub invariant-loop-turn : goal.invariant-loop-turn
invariant-loop-turn l = bytes_from (length l.tokens - l._turn) l.bytes.items l.rest ≡ bytes_from (length l.tokens) [] l.tokens
