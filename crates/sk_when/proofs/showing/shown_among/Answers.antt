use Rattle.std.proofs.Common.{◌+◌, ◌<◌, inl, inr, ap, ◌∙◌, arith, length, drop, length-drop, subst}
use Rattle.std.proofs.lemmas.List.{length-take}
use Rattle.std.specs.List.{list_any}
use Rattle.sk_terms.specs.Lines.{meets_line}
use Rattle.sk_terms.proofs.Kept.{get_same}
use Rattle.sk_when.proofs.Places.{passes_either, whole_tail}
use Rattle.sk_when.proofs.showing.shown_among.Goals as goal

pub returns-in-Some-clause-one : goal.returns-in-Some-clause-one
returns-in-Some-clause-one c =
    let calls = c.args.calls.now in
    let middle = c.min-middle.result in
    let there : c.in-Some.at < length (drop middle calls) = subst (λ xs. c.in-Some.at < length xs) (whole_tail calls middle) c.in-Some.ensures.there in
    let behind = length-drop middle calls in
    let inside : middle + c.in-Some.at < length calls = omega (arith, there, behind) in
    (middle + c.in-Some.at, inside, get_same calls (middle + c.in-Some.at) _ _ inside)

pub returns-in_default-place_among-clause-found : goal.returns-in_default-place_among-clause-found
returns-in_default-place_among-clause-found c = λ met steps.
    let calls = c.args.calls.now in
    let middle = c.min-middle.result in
    let left = c.place_among-2.ensures.left in
    elim (passes_either (λ call. meets_line c.args.line.now call) calls middle met) [
      | inl before ↦ c.in_default-place_among.ensures.found before steps
      | inr behind ↦
          c.in_default.ensures.found (ap (list_any (λ call. meets_line c.args.line.now call)) (whole_tail calls middle) ∙ behind) (omega (arith, left, steps))
    ]

pub returns-in-Some-clause-few : goal.returns-in-Some-clause-few
returns-in-Some-clause-few c =
    let calls = c.args.calls.now in
    let middle = c.min-middle.result in
    omega (arith, c.place_among.ensures.few, ap length (whole_tail calls middle), length-drop middle calls)

pub returns-in_default-place_among-clause-few : goal.returns-in_default-place_among-clause-few
returns-in_default-place_among-clause-few c =
    let calls = c.args.calls.now in
    let middle = c.min-middle.result in
    omega (arith, c.place_among.ensures.few, c.place_among-2.ensures.few, ap length (whole_tail calls middle), length-drop middle calls, length-take middle calls)
