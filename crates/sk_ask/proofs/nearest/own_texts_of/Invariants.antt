use Rattle.std.proofs.Common.{◌≡◌, map, take}
use Rattle.sk_names.specs.Architectures.{text_of}
use Rattle.sk_profile_json.specs.Machines.{own_of}
use Rattle.sk_ask.proofs.nearest.own_texts_of.Given as goal

abbrev pub invariant-loop-machine : goal.invariant-loop-machine
invariant-loop-machine l = map (λ name. name.now) l.names.items ≡ map (λ machine. text_of (own_of machine)) (take l.machine-index l.all)
