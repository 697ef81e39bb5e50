use Rattle.std.proofs.Common.{◌≡◌, ◌∙◌, Some, None, slice_index_or, sym, below_more, arith}
use Rattle.std.specs.Prelude.{slice_get}
use Rattle.std.proofs.lemmas.Option.{slice_get-get_or}
use Rattle.sk_filter.specs.FirstFault.{own_fault}
use Rattle.sk_filter.proofs.PlaceFaults.{no_insn, fault_of-is_fault, own_fault_here}
use Rattle.sk_filter.proofs.Stages.{length_bounds, first_at, all_fine}
use Rattle.sk_filter.proofs.places.first_place_fault.Goals as goal

pub place_fault-requires-clause-count : goal.place_fault-requires-clause-count
place_fault-requires-clause-count c = (length_bounds c.args.insns.now c.requires).1

pub returns-in-Some-clause-first : goal.returns-in-Some-clause-first
returns-in-Some-clause-first c =
    let insns = c.args.insns.now in
    let at = c.loop-at.at in
    let insn = slice_index_or insns at no_insn in
    let here : slice_get insns at ≡ Some insn = slice_get-get_or insns at no_insn c.loop-at-test.true in
    first_at insns at c.in-Some.fault c.requires c.loop-at.invariant (fault_of-is_fault insns at insn c.in-Some.fault here (sym c.in-Some.ensures))

pub loop-at-preserved : goal.loop-at-preserved
loop-at-preserved c =
    let insns = c.args.insns.now in
    let at = c.loop-at.at in
    let insn = slice_index_or insns at no_insn in
    let here : slice_get insns at ≡ Some insn = slice_get-get_or insns at no_insn c.loop-at-test.true in
    below_more (λ place. own_fault insns place ≡ None) at c.loop-at.invariant (own_fault_here insns at insn here ∙ sym c.in_default.ensures)

pub returns-clause-none : goal.returns-clause-none
returns-clause-none c =
    all_fine c.args.insns.now c.requires (λ place inside. c.loop-at.invariant place (omega arith))
