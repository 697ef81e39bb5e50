use Rattle.std.proofs.Common.{◌≡◌, drop, length}
use Rattle.sk_asm.specs.Drafts.{AreAmong, completed}
use Rattle.sk_asm.specs.Views.{labels_in, jumps_in}
use Rattle.sk_asm.proofs.passes.complete.Given as goal

-- the jumps that are left complete the instructions as all did
abbrev pub invariant-loop-pending : goal.invariant-loop-pending
invariant-loop-pending l = record {
  among : AreAmong (length l.insns.items) (jumps_in (drop l.pending-index l.jumps));
  so_far : completed (labels_in l.labels) l.insns.items (jumps_in (drop l.pending-index l.jumps)) ≡ completed (labels_in l.labels) l.fn.insns.items (jumps_in l.jumps);
}
