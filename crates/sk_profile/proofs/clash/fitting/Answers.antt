use Rattle.sk_profile.proofs.Clearing.{a_call, no_call}
use Rattle.sk_profile.proofs.Least.{none_always}
use Rattle.sk_profile.proofs.clash.fitting.Goals as goal

pub returns-in_err-first-clause-none : goal.returns-in_err-first-clause-none
returns-in_err-first-clause-none c = none_always _ (no_call c.args.narrow c.args.conditions.now c.args.others.now 0 c.in_err-first.ensures.none)

pub returns-in_err-second-clause-none : goal.returns-in_err-second-clause-none
returns-in_err-second-clause-none c = none_always _ (no_call c.args.narrow c.args.conditions.now c.args.others.now 1 c.in_err-second.ensures.none)

pub returns-in_err-third-clause-none : goal.returns-in_err-third-clause-none
returns-in_err-third-clause-none c = none_always _ (no_call c.args.narrow c.args.conditions.now c.args.others.now 2 c.in_err-third.ensures.none)

pub returns-in_err-fourth-clause-none : goal.returns-in_err-fourth-clause-none
returns-in_err-fourth-clause-none c = none_always _ (no_call c.args.narrow c.args.conditions.now c.args.others.now 3 c.in_err-fourth.ensures.none)

pub returns-in_err-fifth-clause-none : goal.returns-in_err-fifth-clause-none
returns-in_err-fifth-clause-none c = none_always _ (no_call c.args.narrow c.args.conditions.now c.args.others.now 4 c.in_err-fifth.ensures.none)

pub returns-in_err-sixth-clause-none : goal.returns-in_err-sixth-clause-none
returns-in_err-sixth-clause-none c = none_always _ (no_call c.args.narrow c.args.conditions.now c.args.others.now 5 c.in_err-sixth.ensures.none)

pub returns-clause-fits : goal.returns-clause-fits
returns-clause-fits c =
    a_call c.args.narrow c.args.conditions.now c.args.others.now _ _ _ _ _ _ c.requires.asked c.requires.others c.in_ok-first.ensures.both c.in_ok-second.ensures.both c.in_ok-third.ensures.both
    c.in_ok-fourth.ensures.both c.in_ok-fifth.ensures.both c.in_ok-sixth.ensures.both
