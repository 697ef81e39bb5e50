use Rattle.std.proofs.Common.{subst}
use Rattle.sk_when.specs.declared.parts.Said.TheVariants as said
use Rattle.sk_when.specs.Pieces.{IsPairOf, Says, ShowsOf}
use Rattle.sk_when.proofs.PartsTold.{apart_holds, never_unknown}
use Rattle.sk_when.proofs.parts.part_of.Goals as goal

pub returns-in-Unknown-clause-decided : goal.returns-in-Unknown-clause-decided
returns-in-Unknown-clause-decided c = λ met some steps.
    absurd (never_unknown c.args.chains c.args.differences.now.pairs.items c.args.line c.args.differences.now.calls.items c.requires.says c.requires.within
    (subst (λ pairs. Says c.args.chains.relation pairs c.args.line.value said.Unknown) c.deref.ensures.value c.in-Unknown.ensures.says) met some)

pub returns-in-Apart-clause-holds : goal.returns-in-Apart-clause-holds
returns-in-Apart-clause-holds c =
    apart_holds c.args.chains c.args.differences.now.pairs.items c.args.line c.in-Apart.pair c.args.differences.now.calls.items c.calls_of-in-Apart.result
    c.shown-outcome.result c.requires.says
    (subst (λ pairs. IsPairOf c.args.chains.relation pairs c.args.line.value c.in-Apart.pair) c.deref.ensures.value c.in-Apart.ensures.says)
    c.requires.within c.calls_of-in-Apart.ensures.meets
    (subst (λ calls. ShowsOf c.args.line calls c.in-Apart.pair c.shown-outcome.result) c.deref-in-Apart.ensures.value c.shown-outcome.ensures.shown)
    (c.calls_of-in-Apart.ensures.numbers c.args.chains.numbers c.requires.numbers)

pub returns-in-Unknown-clause-holds : goal.returns-in-Unknown-clause-holds
returns-in-Unknown-clause-holds c = (tt, c.calls_of.ensures.numbers c.args.chains.numbers c.requires.numbers)
