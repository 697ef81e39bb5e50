use Rattle.std.proofs.Common.{◌∙◌, ◌/◌, ap, sym, arith, nat_eq}
use Rattle.sk_world.specs.Common.{bit_at}
use Rattle.sk_world.proofs.Common.{ltb-true, get_or_default_zero}
use Rattle.sk_world.proofs.Summing.{bit_of_word}
use Rattle.sk_world.proofs.Marking.{none_from, none_until, is_there}
use Rattle.sk_world.proofs.number_set.least_from.Goals as goal

pub returns-in_err-index-clause-least : goal.returns-in_err-index-clause-least
returns-in_err-index-clause-least c =
    let words = c.args.words.now in
    let within = ltb-true _ _ (sym c.in_ok-word.ensures.lookup.0) in
    let word = sym (c.in_ok-word.ensures.lookup.1 ∙ get_or_default_zero words (c.args.start / 64) c.in_ok-word.field-0.now within) in
    rw c.from_residual-in_err-index.ensures
    (none_from words c.args.marks c.requires.marked c.requires.long c.args.start (omega (arith, within, c.requires.long))
    (λ i first. ap (λ w. bit_at w i) word ∙ c.in_default.ensures.none i first)
    c.in_err-index.ensures.none)

pub returns-clause-least : goal.returns-clause-least
returns-clause-least c =
    let words = c.args.words.now in
    let within = ltb-true _ _ (sym c.in_ok-word.ensures.lookup.0) in
    let word = sym (c.in_ok-word.ensures.lookup.1 ∙ get_or_default_zero words (c.args.start / 64) c.in_ok-word.field-0.now within) in
    let index = c.in_ok-index.index in
    let behind = c.in_ok-index.ensures.found in
    let there = is_there words c.args.marks c.requires.marked index behind.1 behind.2 in
    let found = c.in_ok-bit.ensures.found in (
      omega (arith, behind.0, found.0),
      bit_of_word words index c.in_ok-bit.bit found.1 ∙ ap (λ x. nat_eq x 1) found.2,
      none_until words c.args.marks c.requires.marked c.requires.long c.args.start (omega (arith, within, c.requires.long))
          (λ i first. ap (λ w. bit_at w i) word ∙ c.in_default.ensures.none i first)
          index c.in_ok-bit.bit (omega (arith, there, c.requires.long)) found.1 behind.3 (λ i early. found.3 i (omega arith) early),
    )
