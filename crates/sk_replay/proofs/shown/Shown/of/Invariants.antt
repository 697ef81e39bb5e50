use Rattle.std.proofs.Common.{◌≡◌, ◌≤◌, ◌-◌}
use Rattle.arrayvec.specs.ArrayVec.{array_vec_len}
use Rattle.sk_replay.specs.Lines.{values_in}
use Rattle.sk_replay.proofs.OneByOne.{onto}
use Rattle.sk_replay.proofs.shown.Shown.of.Given as goal

-- the arguments that are there, and those of the text that is left, are those of all
abbrev pub invariant-loop-rest : goal.invariant-loop-rest
invariant-loop-rest l = record {
  so_far : onto l.args.items (values_in l.written (6 - array_vec_len l.args) l.rest) ≡ values_in l.written 6 l.text;
  few : array_vec_len l.args ≤ 6;
}

abbrev pub decreases-loop-rest : goal.decreases-loop-rest
decreases-loop-rest l = 6 - array_vec_len l.args
