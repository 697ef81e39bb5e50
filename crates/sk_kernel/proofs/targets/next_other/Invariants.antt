use Rattle.std.proofs.Common.{◌≡◌, ◌-◌, ◌<◌, ◌≤◌, ℕ, false}
use Rattle.sk_kernel.proofs.Common.{is_target}
use Rattle.sk_world.specs.declared.request.Who.TheVariants as who
use Rattle.sk_kernel.proofs.targets.next_other.Given as goal

abbrev pub invariant-loop-pid : goal.invariant-loop-pid
invariant-loop-pid g l = record {
  begun : l.after ≤ l.from;
  passed : (q : ℕ) → l.after < q → q ≤ l.from → is_target (g.S.ProcStore.contents l.store) l.caller who.Any q ≡ false;
}

abbrev pub decreases-loop-pid : goal.decreases-loop-pid
decreases-loop-pid g l = 32767 - l.from
