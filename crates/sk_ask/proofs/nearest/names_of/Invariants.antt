use Rattle.std.proofs.Common.{◌≡◌, ◌++◌, drop, map}
use Rattle.std.specs.List.{filter_map}
use Rattle.sk_names.specs.Names.{name_on}
use Rattle.sk_ask.proofs.nearest.names_of.Given as goal

-- the names so far, and those of the numbers that are left, are all
abbrev pub invariant-loop-number : goal.invariant-loop-number
invariant-loop-number l =
    map (λ name. name.now) l.names.items ++ filter_map (name_on l.architecture) (drop l.number-index l.numbers) ≡ filter_map (name_on l.architecture) l.numbers
