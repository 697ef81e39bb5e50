use Rattle.std.proofs.Common.{◌∙◌, ◌/◌, ◌%◌, ◌<◌, ap, sym, arith, nat_eq}
use Rattle.sk_world.specs.Common.{bit_at}
use Rattle.sk_world.proofs.Common.{ltb-false, ltb-true, get_or_default_zero}
use Rattle.sk_world.proofs.Members.{member_at, none_between, no_member_above}
use Rattle.sk_world.proofs.Summing.{none_above, none_before, word_is_some}
use Rattle.sk_world.proofs.number_set.NumberSet.from.Goals as goal

pub returns-in_err-word-clause-least : goal.returns-in_err-word-clause-least
returns-in_err-word-clause-least c =
    let past = ltb-false _ _ (sym c.in_err-word.ensures.lookup.0) in
    rw c.from_residual.ensures (λ n from. no_member_above c.self.inside.words _ c.self.view_is n (omega (arith, from, past, c.self.invariant.0.long)))

pub returns-in-Some-clause-least : goal.returns-in-Some-clause-least
returns-in-Some-clause-least c =
    let words = c.self.inside.words in
    let found = c.in-Some.ensures.found in
    let within = ltb-true _ _ (sym c.in_ok-word.ensures.lookup.0) in
    let word = sym (c.in_ok-word.ensures.lookup.1 ∙ get_or_default_zero words (c.args.start / 64) c.in_ok-word.field-0.now within) in
    let low : c.args.start / 64 < 512 = omega (arith, within, c.self.invariant.0.long) in (
      omega (arith, found.0),
      member_at words _ c.self.view_is (c.args.start / 64) c.in-Some.bit low found.1
          ∙ ap (λ w. nat_eq (bit_at w c.in-Some.bit) 1) word ∙ ap (λ x. nat_eq x 1) found.2,
      λ n from below.
          none_between words _ c.self.view_is (c.args.start / 64) (c.args.start % 64) c.in-Some.bit low
          (omega (arith, found.1)) (λ i first last. ap (λ w. bit_at w i) word ∙ found.3 i first last) n (omega (arith, from)) below,
    )

pub returns-in_err-index-clause-least : goal.returns-in_err-index-clause-least
returns-in_err-index-clause-least c =
    let words = c.self.inside.words in
    let within = ltb-true _ _ (sym c.in_ok-word.ensures.lookup.0) in
    let word = sym (c.in_ok-word.ensures.lookup.1 ∙ get_or_default_zero words (c.args.start / 64) c.in_ok-word.field-0.now within) in
    rw c.from_residual-in_err-index.ensures
    (none_above words c.self.inside.inhabited c.self.invariant.0 _ c.self.view_is c.args.start (omega (arith, within, c.self.invariant.0.long))
    (λ i first. ap (λ w. bit_at w i) word ∙ c.in_default.ensures.none i first)
    c.in_err-index.ensures.least)

pub returns-in_err-bit-clause-least : goal.returns-in_err-bit-clause-least
returns-in_err-bit-clause-least c =
    absurd (word_is_some c.self.inside.words c.self.inside.inhabited c.self.invariant.0 c.in_ok-index.index c.in_ok-index.ensures.within
    c.in_ok-index.ensures.least.1 (omega (arith, c.in_err-bit.ensures.rest)))

pub returns-clause-least : goal.returns-clause-least
returns-clause-least c =
    let words = c.self.inside.words in
    let within = ltb-true _ _ (sym c.in_ok-word.ensures.lookup.0) in
    let word = sym (c.in_ok-word.ensures.lookup.1 ∙ get_or_default_zero words (c.args.start / 64) c.in_ok-word.field-0.now within) in
    let index = c.in_ok-index.index in
    let behind = c.in_ok-index.ensures.least in
    let low = c.in_ok-index.ensures.within in
    let found = c.in_ok-bit.ensures.found in (
      omega (arith, behind.0, found.0),
      member_at words _ c.self.view_is index c.in_ok-bit.bit low found.1 ∙ ap (λ x. nat_eq x 1) found.2,
      none_before words c.self.inside.inhabited c.self.invariant.0 _ c.self.view_is c.args.start (omega (arith, within, c.self.invariant.0.long))
          (λ i first. ap (λ w. bit_at w i) word ∙ c.in_default.ensures.none i first)
          index c.in_ok-bit.bit low found.1 behind.2 (λ i early. found.3 i (omega arith) early),
    )
