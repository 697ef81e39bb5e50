use Rattle.std.proofs.Common.{◌≡◌, filter, map, take}
use Rattle.sk_ask.specs.Asking.{has_option}
use Rattle.sk_ask.proofs.word.options_among.Given as goal

abbrev pub invariant-loop-name : goal.invariant-loop-name
invariant-loop-name l = map (λ name. name.now) l.options.items ≡ filter (has_option l.word) (map (λ name. name.now) (take l.name-index l.names))
