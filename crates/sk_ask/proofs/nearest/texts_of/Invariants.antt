use Rattle.std.proofs.Common.{◌≡◌, map, take}
use Rattle.sk_names.specs.Architectures.{text_of}
use Rattle.sk_ask.proofs.nearest.texts_of.Given as goal

abbrev pub invariant-loop-architecture : goal.invariant-loop-architecture
invariant-loop-architecture l = map (λ name. name.now) l.names.items ≡ map text_of (take l.architecture-index l.all)
