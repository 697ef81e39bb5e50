use Rattle.std.proofs.Common.{◌++◌, List, length}
use Rattle.sk_show.specs.declared.coming.Reach.{Reach}
use Rattle.sk_show.specs.Coming.{Finds}
use Rattle.sk_show.proofs.coming.reaches_of.Given as goal

-- what is found of the architectures that are left completes it
abbrev pub invariant-loop-architecture : goal.invariant-loop-architecture
invariant-loop-architecture l = (more : List Reach) → Finds l.insns l.rest more → Finds l.insns l.architectures (l.reaches.items ++ more)

abbrev pub decreases-loop-architecture : goal.decreases-loop-architecture
decreases-loop-architecture l = length l.rest
