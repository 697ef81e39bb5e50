use Rattle.std.proofs.Common.{length, arith, refl, sym, subst}
use Rattle.sk_policy_text.specs.declared.token.Token.TheVariants as token
use Rattle.sk_policy_text.specs.ConditionsReading.{OpensIn}
use Rattle.sk_policy_text.proofs.ConditionsValues.{one_less}
use Rattle.sk_policy_text.proofs.ConditionsDeep.{stopped, refused_stops, opens_on, opens_inside, opens_here, passed_word}
use Rattle.sk_policy_text.proofs.ConditionsChoosing.{comparison_read, range_in_brackets, no_range_inside, some_in_brackets, none_inside, not_closed, no_first, some_begin, some_more}
use Rattle.sk_policy_text.proofs.alternatives.+alternatives.Goals as goal

pub read_alternative-returns-then-starts_comparison-clause-reads : goal.read_alternative-returns-then-starts_comparison-clause-reads
read_alternative-returns-then-starts_comparison-clause-reads t c =
    comparison_read c.args.tokens.now c.in_ok-compared.rest.now c.in_ok-compared.compared c.term_of.result c.args.terms.now.items c.push.new.self.items c.in_ok-compared.ensures.reads c.term_of.ensures.term
    c.in_ok-push.ensures.items

pub read_alternative-returns-then-room-eq0-clause-none : goal.read_alternative-returns-then-room-eq0-clause-none
read_alternative-returns-then-room-eq0-clause-none t c =
    subst (λ room. OpensIn c.args.tokens.now (length c.args.tokens.now) room) (sym c.if-room-eq0.true) (opens_here c.args.tokens.now c.in_ok-inside.inside.now c.in_ok-inside.ensures.first)

pub read_alternative-returns-in_err-term-clause-none : goal.read_alternative-returns-in_err-term-clause-none
read_alternative-returns-in_err-term-clause-none t c =
    let less = one_less c.args.tokens.now c.in_ok-inside.inside.now _ c.in_ok-inside.ensures.first in
    refused_stops _ _ c.args.room c.in_ok-inside.inside.now c.args.tokens.now _ _ c.from_residual-in_err-term.ensures.1 (omega (arith, less))
    (no_range_inside c.args.tokens.now c.in_ok-inside.inside.now (c.starts_comparison.ensures.failed c.if-starts_comparison.false) c.in_ok-inside.ensures.first
    (c.starts_range.ensures.held c.if-starts_range.true))
    c.in_err-term.ensures.none

pub read_alternative-returns-then-starts_range-clause-reads : goal.read_alternative-returns-then-starts_range-clause-reads
read_alternative-returns-then-starts_range-clause-reads t c =
    range_in_brackets c.args.tokens.now c.in_ok-inside.inside.now c.in_ok-term.rest.now c.in_ok-term.term c.args.terms.now.items c.push-then-starts_range.new.self.items c.in_ok-inside.ensures.first
    c.in_ok-term.ensures.reads c.in_ok-push-2.ensures.items

pub read_alternative-returns-in_err-end-clause-none : goal.read_alternative-returns-in_err-end-clause-none
read_alternative-returns-in_err-end-clause-none t c =
    let less = one_less c.args.tokens.now c.in_ok-inside.inside.now _ c.in_ok-inside.ensures.first in
    stopped _ _ _ c.args.room c.in_ok-inside.inside.now c.args.tokens.now _ _ c.from_residual-in_err-end.ensures.1 (omega (arith, less))
    (λ left opens. opens_inside c.args.tokens.now c.in_ok-inside.inside.now left c.args.room _ c.in_ok-inside.ensures.first (omega (arith, c.if-room-eq0.false)) opens)
    (none_inside c.args.tokens.now c.in_ok-inside.inside.now (c.starts_comparison.ensures.failed c.if-starts_comparison.false) c.in_ok-inside.ensures.first
    (c.starts_range.ensures.failed c.if-starts_range.false))
    c.in_err-end.ensures.none

pub read_alternative-returns-in_err-behind_it-clause-none : goal.read_alternative-returns-in_err-behind_it-clause-none
read_alternative-returns-in_err-behind_it-clause-none t c =
    let less = one_less c.args.tokens.now c.in_ok-inside.inside.now _ c.in_ok-inside.ensures.first in
    refused_stops _ _ c.args.room c.in_ok-end.end.now c.args.tokens.now _ _ c.from_residual-in_err-behind_it.ensures.1 (omega (arith, less, c.in_ok-end.ensures.shorter))
    (not_closed c.args.tokens.now c.in_ok-inside.inside.now c.in_ok-end.end.now c.args.terms.now.items c.read_alternatives.new.terms.items
    (c.starts_comparison.ensures.failed c.if-starts_comparison.false) c.in_ok-inside.ensures.first (c.starts_range.ensures.failed c.if-starts_range.false) c.in_ok-end.ensures.reads)
    c.in_err-behind_it.ensures.none

pub read_alternative-returns-clause-reads : goal.read_alternative-returns-clause-reads
read_alternative-returns-clause-reads t c =
    some_in_brackets c.args.tokens.now c.in_ok-inside.inside.now c.in_ok-end.end.now c.in_ok-behind_it.behind_it.now c.args.terms.now.items c.read_alternatives.new.terms.items c.in_ok-inside.ensures.first
    c.in_ok-end.ensures.reads c.in_ok-behind_it.ensures.first

pub read_alternatives-returns-in_err-rest-clause-none : goal.read_alternatives-returns-in_err-rest-clause-none
read_alternatives-returns-in_err-rest-clause-none t c =
    stopped _ _ c.args.room c.args.room c.args.tokens.now c.args.tokens.now _ _ c.from_residual.ensures.1 (omega arith) (λ left opens. opens) (no_first c.args.tokens.now) c.in_err-rest.ensures.none

pub read_alternatives-loop-more-init : goal.read_alternatives-loop-more-init
read_alternatives-loop-more-init t c =
    some_begin c.args.tokens.now c.in_ok-rest.rest.now c.args.terms.now.items c.read_alternative.new.terms.items c.in_ok-rest.ensures.reads c.in_ok-rest.ensures.shorter

pub read_alternatives-returns-in_err-next-clause-none : goal.read_alternatives-returns-in_err-next-clause-none
read_alternatives-returns-in_err-next-clause-none t c =
    let less = one_less c.loop-more.rest.now c.in-Some.more.now _ c.in-Some.ensures.first in
    stopped _ _ c.args.room c.args.room c.in-Some.more.now c.args.tokens.now _ _ c.from_residual-in_err-next.ensures.1 (omega (arith, less, c.loop-more.invariant.shorter))
    (λ left opens. opens_on c.args.tokens.now c.in-Some.more.now left c.args.room
    (passed_word c.args.tokens.now c.loop-more.rest.now c.in-Some.more.now token.Or refl refl c.loop-more.invariant.passes c.in-Some.ensures.first) opens)
    (λ none. c.loop-more.invariant.none c.in-Some.more.now c.in-Some.ensures.first (no_first c.in-Some.more.now none)) c.in_err-next.ensures.none

pub read_alternatives-loop-more-preserved : goal.read_alternatives-loop-more-preserved
read_alternatives-loop-more-preserved t c =
    some_more c.args.tokens.now c.loop-more.rest.now c.in-Some.more.now c.in_ok-next.next.now c.args.terms.now.items c.loop-more.terms.items c.read_alternative-in-Some.new.terms.items c.loop-more.invariant
    c.in-Some.ensures.first c.in_ok-next.ensures.reads c.in_ok-next.ensures.shorter
