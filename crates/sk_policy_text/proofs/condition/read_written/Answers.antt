use Rattle.std.proofs.Common.{arith, refl}
use Rattle.sk_policy_text.specs.declared.token.Token.TheVariants as token
use Rattle.sk_policy_text.proofs.ConditionsValues.{one_less, on_ok, on_err}
use Rattle.sk_policy_text.proofs.ConditionsDeep.{stopped, stops_on, opens_on, passed_word, one_passes}
use Rattle.sk_policy_text.proofs.ConditionsWhole.{either_read, no_either, each_read, no_each, no_first_written}
use Rattle.sk_policy_text.proofs.condition.read_written.Goals as goal

pub returns-in_err-rest-clause-none : goal.returns-in_err-rest-clause-none
returns-in_err-rest-clause-none c =
    stopped _ _ 64 64 c.args.tokens.now c.args.tokens.now _ _ c.from_residual.ensures.1 (omega arith) (λ left opens. opens) (no_first_written c.args.tokens.now) c.in_err-rest.ensures.none

pub returns-in-Some-clause-reads : goal.returns-in-Some-clause-reads
returns-in-Some-clause-reads c =
    on_ok c.read_others.result
    (λ choices. either_read c.args.tokens.now c.in_ok-rest.rest.now c.in-Some.more.now c.new-terms.result.items c.read_alternative.new.terms.items choices.items c.new-terms.ensures.items c.in_ok-rest.ensures.reads
    c.in-Some.ensures.first)
    c.read_others.ensures.reads

pub returns-in-Some-clause-none : goal.returns-in-Some-clause-none
returns-in-Some-clause-none c =
    let less = one_less c.in_ok-rest.rest.now c.in-Some.more.now _ c.in-Some.ensures.first in
    on_err c.read_others.result
    (λ stop. stops_on stop 64 64 c.in-Some.more.now c.args.tokens.now _ _ (omega (arith, less, c.in_ok-rest.ensures.shorter))
    (λ left opens. opens_on c.args.tokens.now c.in-Some.more.now left 64
    (passed_word c.args.tokens.now c.in_ok-rest.rest.now c.in-Some.more.now token.Or refl refl (one_passes _ _ _ _ c.in_ok-rest.ensures.reads) c.in-Some.ensures.first) opens)
    (no_either c.args.tokens.now c.in_ok-rest.rest.now c.in-Some.more.now c.new-terms.result.items c.read_alternative.new.terms.items c.in_ok-rest.ensures.reads c.in-Some.ensures.first))
    c.read_others.ensures.none

pub returns-in_err-read_each-clause-none : goal.returns-in_err-read_each-clause-none
returns-in_err-read_each-clause-none c =
    stopped _ _ 64 64 c.in_ok-rest.rest.now c.args.tokens.now _ _ c.from_residual-in_err-read_each.ensures.1 (omega (arith, c.in_ok-rest.ensures.shorter))
    (λ left opens. opens_on c.args.tokens.now c.in_ok-rest.rest.now left 64 (one_passes _ _ _ _ c.in_ok-rest.ensures.reads) opens)
    (no_each c.args.tokens.now c.in_ok-rest.rest.now c.new-terms.result.items c.read_alternative.new.terms.items c.in_ok-rest.ensures.reads c.in_default.ensures.none) c.in_err-read_each.ensures.none

pub returns-clause-reads : goal.returns-clause-reads
returns-clause-reads c =
    each_read c.args.tokens.now c.in_ok-rest.rest.now c.new-terms.result.items c.read_alternative.new.terms.items c.in_ok-choices.choices.items c.read_each.new.choices.items c.new-terms.ensures.items
    c.in_ok-rest.ensures.reads c.in_ok-choices.ensures.one c.in_ok-read_each.ensures.reads
