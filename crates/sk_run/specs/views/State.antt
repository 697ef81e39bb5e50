-- What a machine is to its callers: what its scenario says, and what it has come to.
use Rattle.sk_world.specs.declared.store.ProcStore.{Ghosts}
use Rattle.sk_scenario.specs.Scenario.{Setting}
use Rattle.sk_run.specs.Scheduling.{Scheduled}
use Rattle.sk_run.specs.declared.machine.Machine.{Machine}
use Rattle.sk_run.specs.views.Stacks.{stacks_of}

abbrev pub setting_of : {S : Type 0} {ghosts : Ghosts S} → Machine S ghosts → Setting
setting_of m = record { turns = m.turns; subreapers = m.kernel.declared.subreapers; filters = m.kernel.declared.filters; programs = m.programs.items }

abbrev pub now_of : {S : Type 0} {ghosts : Ghosts S} → Machine S ghosts → Scheduled
now_of m = record { world = m.kernel.world; stacks = stacks_of m.stacks.items; last = m.last; used = m.used }
