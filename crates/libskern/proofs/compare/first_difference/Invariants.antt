use Rattle.std.proofs.Common.{◌≡◌, ℕ, ◌+◌, ◌<◌, ◌≤◌, true, slice_index_or}
use Rattle.sk_insn.specs.declared.record.Record.{Record}
use Rattle.sk_filter.specs.PathLimit.{cost_of}
use Rattle.libskern.specs.Comparing.{stands_on}
use Rattle.libskern.proofs.compare.first_difference.Given as goal

abbrev pub invariant-loop-call : goal.invariant-loop-call
invariant-loop-call l =
    (l.budget.steps ≤ l.initial.budget.steps)
    × (l.call-index ≡ 0 → l.initial.budget.steps ≤ l.budget.steps)
    × (l.call-index ≤ 1 → l.initial.budget.steps ≤ l.budget.steps + (cost_of l.chains.old.now + cost_of l.chains.new.now))
    × ((k : ℕ) (d : Record) → k < l.call-index → stands_on l.chains.relation l.chains.old.now l.chains.new.now (slice_index_or l.calls k d) ≡ true)
