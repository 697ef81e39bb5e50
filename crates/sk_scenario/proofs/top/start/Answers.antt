use Rattle.std.proofs.Common.{refl}
use Rattle.sk_scenario.proofs.Common.{started, remarked}
use Rattle.sk_scenario.proofs.top.start.Goals as goal

pub returns-in-Silent : goal.returns-in-Silent
unfolding started remarked
returns-in-Silent c = record { exact = rw c.in-Silent.is refl }
