use Rattle.std.proofs.Common.{◌≡◌, drop, map}
use Rattle.std.specs.Option.{option_map, option_or}
use Rattle.sk_ask.specs.Nearest.{nearer_than}
use Rattle.sk_ask.proofs.nearest.nearer_than.Given as goal

-- a name that is left, where it is nearer than the best so far, and else that one
abbrev pub invariant-loop-name : goal.invariant-loop-name
invariant-loop-name l =
    option_or (nearer_than l.bound l.word (map (λ name. name.now) (drop l.name-index l.names))) (option_map (λ name. name.now) l.best)
    ≡ nearer_than l.fn.bound l.word (map (λ name. name.now) l.names)
