use Rattle.std.proofs.Common.{◌≡◌, ◌∙◌, sym, refl, Ok}
use Rattle.std.specs.Option.{option_map}
use Rattle.sk_replay.specs.CallWords.{left_of}
use Rattle.sk_replay.proofs.Given.{placed, placed_all}
use Rattle.sk_replay.proofs.argument.numbers.Goals as goal

-- none is left
pub returns : goal.returns
returns c =
    let none : placed c.loop-rest.count c.loop-rest.args (left_of 44 (option_map (λ rest. rest.now) c.loop-rest.rest)) ≡ Ok c.loop-rest.args = rw c.in_default.is refl in
    record { exact = sym none ∙ c.loop-rest.invariant.so_far ∙ placed_all _ c.requires.few }
