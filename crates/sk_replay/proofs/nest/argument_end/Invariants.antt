use Rattle.std.proofs.Common.{◌≡◌, ◌≤◌, ◌+◌, drop}
use Rattle.sk_replay.specs.Nests.{end_from, outside}
use Rattle.sk_replay.proofs.nest.argument_end.Given as goal

-- the bytes that are passed and those before the end that are left; and no more is open than there are bytes
abbrev pub invariant-loop-at : goal.invariant-loop-at
invariant-loop-at l = record {
  so_far : end_from l.nest (drop l.at l.text) + l.at ≡ end_from outside l.text;
  angles : l.nest.angles ≤ l.at;
  brackets : l.nest.brackets ≤ l.at;
}
