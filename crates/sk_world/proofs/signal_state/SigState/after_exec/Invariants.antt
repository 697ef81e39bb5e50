use Rattle.std.proofs.Common.{◌≡◌, ◌++◌, take, drop}
use Rattle.std.specs.Prelude.{map}
use Rattle.sk_world.specs.Actions.{disposition_after_exec}
use Rattle.sk_world.proofs.signal_state.SigState.after_exec.Given as goal

abbrev pub invariant-loop-disposition : goal.invariant-loop-disposition
invariant-loop-disposition l =
    l.disposition-items ≡ map disposition_after_exec (take l.disposition-index l.initial.disposition-items) ++ drop l.disposition-index l.initial.disposition-items
