use Rattle.std.proofs.Common.{◌≡◌, ◌≢◌, ◌+◌, ◌≤◌, ◌<◌, None, Some, length, slice_get, slice_index_or, length-set, set, inl, inr, refl, ap, ◌∙◌, sym, subst, arith}
use Rattle.std.proofs.lemmas.Option.{slice_get-get_or}
use Rattle.sk_insn.specs.declared.insn.Insn.{Insn}
use Rattle.sk_filter.proofs.ValidPrograms.{valid_count, valid_fits, valid_leads}
use Rattle.std.proofs.lemmas.Bool.{cases_eq, cases_lt}
use Rattle.sk_survey.specs.Answers.{IsOneOf, IsRising, answers_of}
use Rattle.sk_survey.specs.Following.{IsUnknown, led, zeros}
use Rattle.sk_survey.proofs.Settling.{starts_settling, settled_past, settled_on, one_told, set_here, set_there, still_unknown, unknown_none, led_ahead, come_first, come_on}
use Rattle.sk_survey.proofs.Reaching.{arrives, starts, unknown_place, known_place, led_inside, described_here, described_other}
use Rattle.sk_survey.proofs.pass.program_answers.Goals as goal
use Rattle.sk_survey.proofs.pass.program_answers.Goals.{in-Some+in_ok-add_end, in_default}

abbrev no_insn : Insn
no_insn = record { code = 0; jt = 0; jf = 0; k = 0 }

pub loop-place-init : goal.loop-place-init
loop-place-init c = record {
  rising = subst IsRising (sym c.new.ensures.items) tt;
  followed = λ call within.
      starts c.args.program.now c.insns-insn-items.ensures.valid
      (set c.args.slots.now 0 (Some c.at_start.result)) (Some c.new.result.items) call
      (described_here c.args.slots.now 0 c.at_start.result call zeros (let long = c.requires.slots in omega arith) (c.at_start.ensures.zeros call));
  only = λ value among. absurd (subst (IsOneOf value) c.new.ensures.items among);
  come = come_first c.args.program.now c.args.slots.now c.at_start.result c.requires.empty;
  empty = λ q where_from.
      let some = (valid_count c.args.program.now c.insns-insn-items.ensures.valid).0 in
      let apart : q ≢ 0 = λ e. elim where_from [ inl below ↦ omega arith | inr past ↦ omega arith ] in
      still_unknown c.args.slots.now _ q (set_there c.args.slots.now 0 q (Some c.at_start.result) apart) (c.requires.empty q);
  settled = λ call value steps within means.
      starts_settling c.args.first c.args.last c.args.program.now c.insns-insn-items.ensures.valid c.args.slots.now c.at_start.result (Some c.new.result.items) call value steps
      (let long = c.requires.slots in omega arith) c.requires.empty c.at_start.ensures.whole (c.at_start.ensures.zeros call)
      (λ other among. absurd (subst (IsOneOf other) c.new.ensures.items among)) means;
}

pub bounds : goal.bounds
bounds c =
    let few = valid_count c.args.program.now c.insns-insn-items.ensures.valid in
    let same = ap length c.insns-insn-items.ensures.insns in
    let long = c.loop-place.auto.slots ∙ length-set c.args.slots.now 0 (Some c.at_start.result) ∙ c.requires.slots in
    let within = c.loop-place-test.true in
    omega arith

pub offset_bounds-slots-place : goal.offset_bounds-slots-place
offset_bounds-slots-place c =
    let few = valid_count c.args.program.now c.insns-insn-items.ensures.valid in
    let same = ap length c.insns-insn-items.ensures.insns in
    let within = c.loop-place-test.true in
    omega arith

pub follow-next-requires-clause-constant : goal.follow-next-requires-clause-constant
follow-next-requires-clause-constant c =
    let found = c.insns-insn-items.result.now in
    let place = c.loop-place.place in
    let insn = slice_index_or found place no_insn in
    let here = subst (λ xs. slice_get xs place ≡ Some insn) c.insns-insn-items.ensures.insns (slice_get-get_or found place no_insn c.loop-place-test.true) in
    (valid_fits c.args.program.now c.insns-insn-items.ensures.valid place insn here).0

pub spread-requires-clause-inside : goal.spread-requires-clause-inside
spread-requires-clause-inside c =
    let found = c.insns-insn-items.result.now in
    let place = c.loop-place.place in
    let insn = slice_index_or found place no_insn in
    let here = subst (λ xs. slice_get xs place ≡ Some insn) c.insns-insn-items.ensures.insns (slice_get-get_or found place no_insn c.loop-place-test.true) in
    let few = valid_count c.args.program.now c.insns-insn-items.ensures.valid in
    led_inside c.args.program.now c.insns-insn-items.ensures.valid place insn 4096 _ here few.1 (c.follow-next.ensures.goes place)

pub loop-place-preserved : goal.loop-place-preserved
loop-place-preserved c =
    let program = c.args.program.now in
    let valid = c.insns-insn-items.ensures.valid in
    let found = c.insns-insn-items.result.now in
    let slots = c.loop-place.slots in
    let place = c.loop-place.place in
    let insn = slice_index_or found place no_insn in
    let here = subst (λ xs. slice_get xs place ≡ Some insn) c.insns-insn-items.ensures.insns (slice_get-get_or found place no_insn c.loop-place-test.true) in
    let few = valid_count program valid in
    let same = ap length c.insns-insn-items.ensures.insns in
    let long = c.loop-place.auto.slots ∙ length-set c.args.slots.now 0 (Some c.at_start.result) ∙ c.requires.slots in
    let test = c.loop-place-test.true in
    let inside : place < length slots = omega arith in
    let slot = slice_get-get_or slots place None inside in
    elim c.match-slots-place.branch [
      | in-Some+in_ok-add_end w ↦
          rw (w.slots-is, w.answers-is) (record {
            rising = w.add_end.ensures.rising;
            followed = λ call within.
                known_place program valid slots w.spread.new.slots _ _ place insn w.in-Some.knowledge w.follow-next.new.self w.follow-next.result call here
                (slot ∙ ap Some w.in-Some.is)
                (λ q s other is. w.spread.ensures.kept q call s (described_other slots place q None call s other is))
                (λ s is. w.follow-next.ensures.leads call s within is)
                (λ e leads. w.spread.ensures.spread call e leads)
                (λ value among. w.add_end.ensures.kept value among)
                (λ value leads. w.in_ok-add_end.ensures.added refl insn w.follow-next.new.self call value leads)
                (c.loop-place.invariant.followed call within);
            only = λ value among. elim (w.add_end.ensures.only value among) [
              | inl before ↦ c.loop-place.invariant.only value before
              | inr tells ↦ (
                place,
                c.loop-place.invariant.come place w.in-Some.knowledge (slot ∙ ap Some w.in-Some.is),
                (insn, here, w.follow-next.ensures.ends value tells),
              )
            ];
            come = come_on program slots w.spread.new.slots place insn w.in-Some.knowledge (led place w.follow-next.result insn) here
                (slot ∙ ap Some w.in-Some.is)
                (still_unknown (set slots place None) w.spread.new.slots place
                (w.spread.ensures.others place (λ goes. let ahead = led_ahead place w.follow-next.result insn place goes in omega arith))
                (unknown_none (set slots place None) place (set_here slots place None inside)))
                (λ q apart not_led. w.spread.ensures.others q not_led ∙ set_there slots place q None apart)
                (w.follow-next.ensures.goes place) c.loop-place.invariant.come;
            empty = λ q where_from.
                let apart_or = cases_eq q place in
                let gone = set_here slots place None inside in
                let ahead = led_ahead place w.follow-next.result insn q in
                still_unknown (set slots place None) w.spread.new.slots q
                (w.spread.ensures.others q (λ goes. let a = ahead goes in let b = valid_leads program valid place q (insn, here, w.follow-next.ensures.goes place q goes) in elim where_from [ inl below ↦ omega arith | inr past ↦ omega arith ]))
                (elim apart_or as (λ _. IsUnknown (set slots place None) q) [
                  | inl same ↦ subst (IsUnknown (set slots place None)) (sym same) (unknown_none (set slots place None) place gone)
                  | inr apart ↦ still_unknown slots (set slots place None) q (set_there slots place q None apart)
                      (c.loop-place.invariant.empty q (elim where_from [ inl below ↦ inl (omega arith) | inr past ↦ inr past ]))
                ]);
            settled = λ call value steps within means.
                settled_on c.args.first c.args.last program valid slots w.spread.new.slots _ _ place insn w.in-Some.knowledge w.follow-next.new.self w.follow-next.result call value here
                (slot ∙ ap Some w.in-Some.is)
                (λ q apart not_led. w.spread.ensures.others q not_led ∙ set_there slots place q None apart)
                (still_unknown (set slots place None) w.spread.new.slots place
                (w.spread.ensures.others place (λ goes. let ahead = led_ahead place w.follow-next.result insn place goes in omega arith))
                (unknown_none (set slots place None) place (set_here slots place None inside)))
                (λ skip is unknown. w.spread.ensures.alone skip is
                (still_unknown slots (set slots place None) (place + 1 + skip) (set_there slots place (place + 1 + skip) None (λ e. omega arith)) unknown))
                (λ other among. w.add_end.ensures.only other among)
                (λ whole loads. w.follow-next.ensures.exact whole loads)
                (λ s is. w.follow-next.ensures.leads call s within is)
                (c.loop-place.invariant.settled call value steps within means);
          })
      | in_default w ↦
          rw (w.slots-is, w.answers-is) (record {
            rising = c.loop-place.invariant.rising;
            followed = λ call within. unknown_place program slots _ place call (slot ∙ ap Some w.in_default.is) (c.loop-place.invariant.followed call within);
            only = c.loop-place.invariant.only;
            come = c.loop-place.invariant.come;
            empty = λ q where_from. elim (cases_eq q place) as (λ _. IsUnknown slots q) [
              | inl same ↦ unknown_none slots q (subst (λ q. slice_get slots q ≡ Some None) (sym same) (slot ∙ ap Some w.in_default.is))
              | inr apart ↦ c.loop-place.invariant.empty q (elim where_from [ inl below ↦ inl (omega arith) | inr past ↦ inr past ])
            ];
            settled = λ call value steps within means.
                settled_past c.args.first c.args.last program slots _ place call value (slot ∙ ap Some w.in_default.is)
                (c.loop-place.invariant.settled call value steps within means);
          })
    ]

pub returns-clause-only : goal.returns-clause-only
returns-clause-only c =
    λ value among. (
      c.loop-place.invariant.only value among,
      λ other settles. (c.loop-place.invariant.settled settles.0 other settles.2.0 settles.1 settles.2.1).0 value among,
    )

pub returns-clause-settled : goal.returns-clause-settled
returns-clause-settled c =
    λ settles.
    let value = settles.0 in
    let on = settles.1 in
    let call = on.0 in
    let within = on.1 in
    let program = c.args.program.now in
    let long = ap length c.insns-insn-items.ensures.insns in
    let test = c.loop-place-test.false in
    let past : length program ≤ c.loop-place.place = omega arith in
    one_told (answers_of c.loop-place.answers) value _
    (c.loop-place.invariant.settled call value on.2.0 within on.2.1).0
    (arrives program c.loop-place.slots _ call c.loop-place.place past (c.loop-place.invariant.followed call within))
    c.loop-place.invariant.rising

pub returns-clause-empty : goal.returns-clause-empty
returns-clause-empty c =
    λ ok q.
    let long = ap length c.insns-insn-items.ensures.insns in
    let test = c.loop-place-test.false in
    c.loop-place.invariant.empty q (elim (cases_lt q (length c.args.program.now)) [ inl below ↦ inl (omega arith) | inr past ↦ inr past ])
