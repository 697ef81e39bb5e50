use Rattle.std.proofs.Common.{◌≡◌, ◌-◌}
use Rattle.sk_table.proofs.Common.{next_number, NUMBERS, first_unused}
use Rattle.sk_table.proofs.numbering.first_free.Given as goal

-- the search goes on from here
abbrev pub invariant-loop-tried : goal.invariant-loop-tried
invariant-loop-tried g l =
    first_unused (g.N.Numbers.used l.numbers) (NUMBERS - l._tried) l.number
    ≡ first_unused (g.N.Numbers.used l.numbers) NUMBERS (next_number l.last)
