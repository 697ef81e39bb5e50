use Rattle.std.proofs.Common.{◌≡◌, ◌-◌, length}
use Rattle.sk_forms.specs.Values.{bits_from}
use Rattle.sk_forms.proofs.values.bits_from.Given as goal

-- from here on the same is read as from the first
abbrev pub invariant-loop-turn : goal.invariant-loop-turn
invariant-loop-turn l = bits_from (length l.tokens - l._turn) l.bits l.rest ≡ bits_from (length l.tokens) l.first l.tokens
