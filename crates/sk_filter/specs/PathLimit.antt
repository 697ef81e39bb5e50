-- How long the filters of a chain may be in all: seccomp(2), ENOMEM.
use Rattle.std.specs.Prelude.{ℕ, ◌+◌, List, [], ◌∷◌, length}
use Rattle.sk_insn.specs.declared.insn.Insn.{Insn}

-- the path limit, and what each filter that is there already counts beside its instructions: seccomp(2), ENOMEM
abbrev pub path_limit : ℕ
path_limit = 32768

abbrev pub filter_cost : ℕ
filter_cost = 4

-- what a chain counts against the path limit
abbrev pub cost_of : List (List Insn) → ℕ
cost_of [] = 0
cost_of (newest ∷ older) = length newest + filter_cost + cost_of older
