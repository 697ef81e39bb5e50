use Rattle.std.proofs.Common.{◌≡◌, ◌-◌, length}
use Rattle.sk_forms.specs.Values.{sum_from}
use Rattle.sk_forms.proofs.values.sum_from.Given as goal

-- from here on the same is read as from the first
abbrev pub invariant-loop-turn : goal.invariant-loop-turn
invariant-loop-turn l = sum_from (length l.tokens - l._turn) l.sum l.rest ≡ sum_from (length l.tokens) l.first l.tokens
