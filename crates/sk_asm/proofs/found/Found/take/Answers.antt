use Rattle.sk_asm.specs.Seeing.{seen}
use Rattle.sk_asm.proofs.Turns.{takes-silent, takes-label}
use Rattle.sk_asm.proofs.found.Found.take.Goals as goal

pub returns-in-Silent : goal.returns-in-Silent
returns-in-Silent c = record { taken = rw c.in-Silent.is (takes-silent c.args.n c.args.at (seen c.args.self.now)) }

pub returns-in-Label : goal.returns-in-Label
returns-in-Label c = record { taken = rw c.in-Label.is (takes-label c.mark.result c.args.n c.args.at _ (seen c.args.self.now) _ c.mark.ensures.exact) }
