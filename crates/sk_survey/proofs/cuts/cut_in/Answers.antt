use Rattle.std.proofs.Common.{◌≡◌, true, false, length, Some, slice_get, slice_index_or, inl, inr, ap, sym, subst, ◌∙◌, arith}
use Rattle.std.proofs.lemmas.Bool.{cases_lt, cases_Bool, true≢false}
use Rattle.std.proofs.lemmas.Option.{get_or_from_slice_get, slice_get-get_or, slice_get_within}
use Rattle.sk_insn.specs.declared.insn.Insn.{Insn}
use Rattle.sk_insn.specs.Operations.{operation_of}
use Rattle.sk_survey.specs.declared.taint.Taint.{Taint}
use Rattle.sk_survey.specs.Turning.{Turns, TurnsSeldom}
use Rattle.sk_survey.proofs.Tainting.{agree_along, agree_in_a}
use Rattle.sk_survey.proofs.cuts.cut_in.Goals as goal
use Rattle.sk_survey.proofs.cuts.cut_in.Goals.{then-index+in_ok-cut_at, else-index}

abbrev no_insn : Insn
no_insn = record { code = 0; jt = 0; jf = 0; k = 0 }

abbrev no_taint : Taint
no_taint = record { a = false; x = false; words = false }

pub loop-place-preserved : goal.loop-place-preserved
loop-place-preserved c =
    let before = c.loop-place.invariant in
    let place = c.loop-place.place in
    let found = c.insns-insn-items.result.now in
    let insn = slice_index_or found place no_insn in
    let there = subst (λ xs. slice_get xs place ≡ Some insn) c.insns-insn-items.ensures.insns (slice_get-get_or found place no_insn c.loop-place-test.true) in
    elim c.if-index.branch [
      | then-index+in_ok-cut_at w ↦ rw w.cuts-is (record {
        kept = λ nr has. w.in_ok-cut_at.ensures.kept nr (before.kept nr has);
        turns = λ p other taint comparison below here known is does nr fits seldom turns. elim (cases_lt p place) [
          | inl earlier ↦ w.in_ok-cut_at.ensures.kept nr (before.turns p other taint comparison earlier here known is does nr fits seldom turns)
          | inr late ↦
              let same : p ≡ place = omega arith in
              let both : Some other ≡ Some insn = sym here ∙ ap (slice_get c.args.program.now) same ∙ there in
              let it : other ≡ insn = cc in
              w.in_ok-cut_at.ensures.turns comparison (ap (λ (i : Insn). operation_of i.code) (sym it) ∙ does) nr fits
              (subst (λ (i : Insn). TurnsSeldom comparison i.k) it seldom) (subst (λ (i : Insn). Turns comparison i.k nr) it turns)
        ];
      })
      | else-index w ↦ rw w.cuts-is (record {
        kept = before.kept;
        turns = λ p other taint comparison below here known is does nr fits seldom turns. elim (cases_lt p place) [
          | inl earlier ↦ before.turns p other taint comparison earlier here known is does nr fits seldom turns
          | inr late ↦
              let same : p ≡ place = omega arith in
              let at = ap (slice_get c.in_ok-places.places.items) (sym same) ∙ known in
              let it = c.index.ensures ∙ get_or_from_slice_get c.in_ok-places.places.items place taint c.index.result.now at in
              let clean = w.if-index.false in
              let not_clean = ap (λ (t : Taint). t.a) it ∙ is in
              absurd (true≢false (sym not_clean ∙ clean))
        ];
      })
    ]

pub returns-clause-turns : goal.returns-clause-turns
returns-clause-turns c =
    λ nr fits (comparison, k, tests, seldom, turns).
    let program = c.args.program.now in
    let places = c.in_ok-places.places.items in
    let place = tests.0 in
    let number = tests.1 in
    let insn = tests.2.0 in
    let here = tests.2.1 in
    let long = ap length c.insns-insn-items.ensures.insns in
    let test = c.loop-place-test.false in
    let inside = slice_get_within program place insn here in
    let each = c.in_ok-places.ensures.each in
    let agree = agree_along program places c.in_ok-places.ensures.handed number.call number.other number.differ number.steps place number.s number.t number.come in
    let taint = slice_index_or places place no_taint in
    let known = slice_get-get_or places place no_taint (omega arith) in
    let comes : taint.a ≡ true = elim (cases_Bool taint.a) [
      | inl is ↦ is
      | inr none ↦ absurd (number.apart (agree_in_a (slice_get places place) taint number.s number.t known agree none))
    ] in
    c.loop-place.invariant.turns place insn taint comparison (omega arith) here known comes tests.2.2.0 nr fits
    (subst (TurnsSeldom comparison) (sym tests.2.2.1) seldom) (subst (λ k. Turns comparison k nr) (sym tests.2.2.1) turns)
