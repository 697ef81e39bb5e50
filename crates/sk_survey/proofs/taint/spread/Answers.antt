use Rattle.std.proofs.Common.{◌≡◌, ◌<◌, length, Some, None, slice_get, slice_index_or, false, inl, inr, ap, sym, subst, ◌∙◌, arith}
use Rattle.std.proofs.lemmas.Bool.{cases_lt}
use Rattle.std.proofs.lemmas.Option.{slice_get-get_or, slice_get_past}
use Rattle.sk_insn.specs.declared.insn.Insn.{Insn}
use Rattle.sk_filter.proofs.ValidPrograms.{valid_fits}
use Rattle.sk_survey.specs.declared.taint.Taint.{Taint}
use Rattle.sk_survey.proofs.Tainting.{handed_more}
use Rattle.sk_survey.proofs.taint.spread.Goals as goal

abbrev no_insn : Insn
no_insn = record { code = 0; jt = 0; jf = 0; k = 0 }

abbrev no_taint : Taint
no_taint = record { a = false; x = false; words = false }

pub loop-place-preserved : goal.loop-place-preserved
loop-place-preserved c =
    let program = c.args.program.now in
    let found = c.insns-insn-items.result.now in
    let place = c.loop-place.place in
    let insn = slice_index_or found place no_insn in
    let old = c.loop-place.places in
    let test = c.loop-place-test.true in
    let long = c.loop-place.invariant.each in
    let same = ap length c.insns-insn-items.ensures.insns in
    let inside : place < length old = omega arith in
    let there = subst (λ xs. slice_get xs place ≡ Some insn) c.insns-insn-items.ensures.insns (slice_get-get_or found place no_insn test) in
    let after = rw c.after-after.ensures.after at c.hand_on.ensures.handed in
    record {
      each = c.hand_on.ensures.each ∙ long;
      handed = handed_more program old c.hand_on.new.places place insn (slice_index_or old place no_taint) there (slice_get-get_or old place no_taint inside)
          (valid_fits program c.insns-insn-items.ensures.valid place insn there).0
          c.hand_on.ensures.kept after c.hand_on.ensures.before c.loop-place.invariant.handed;
    }

pub returns-clause-handed : goal.returns-clause-handed
returns-clause-handed c =
    λ p insn call other u v s t skip here differ agree does does'.
    let same = ap length c.insns-insn-items.ensures.insns in
    let test = c.loop-place-test.false in
    elim (cases_lt p c.loop-place.place) [
      | inl below ↦ c.loop-place.invariant.handed p below insn call other u v s t skip here differ agree does does'
      | inr past ↦
          let none : None ≡ Some insn = sym (slice_get_past c.args.program.now p (omega arith)) ∙ here in
          cc
    ]
