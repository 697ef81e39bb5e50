use Rattle.std.proofs.Common.{sym, ap, ◌∙◌}
use Rattle.sk_names.specs.Names.{number_in}
use Rattle.sk_names.specs.Numbers.{run_of, runs_in}
use Rattle.sk_names.proofs.Lookups.{number_here, number_later, no_number, apart_next, number_here_is_low, number_is_named, none_is_named}
use Rattle.sk_names.proofs.runs.number_in.Goals as goal

pub number_at-requires : goal.number_at-requires
number_at-requires c = record {
  within = (apart_next (runs_in c.loop-run.rest) (runs_in c.in-Some.later) (run_of c.in-Some.run') c.in-Some.ensures.some c.loop-run.invariant.apart).0;
}

pub returns-in-Some-number_at-clause-first : goal.returns-in-Some-number_at-clause-first
returns-in-Some-number_at-clause-first c =
    let here =
    number_here (runs_in c.loop-run.rest) (runs_in c.in-Some.later) (run_of c.in-Some.run') c.args.wanted.now c.in-Some-number_at.nr
    c.in-Some.ensures.some c.in-Some-number_at.ensures.first
    in
    sym (c.loop-run.invariant.same ∙ here)

pub returns-in-Some-number_at-clause-low : goal.returns-in-Some-number_at-clause-low
returns-in-Some-number_at-clause-low c =
    number_here_is_low (runs_in c.loop-run.rest) (runs_in c.in-Some.later) (run_of c.in-Some.run') c.args.wanted.now c.in-Some-number_at.nr
    c.in-Some.ensures.some c.loop-run.invariant.apart c.in-Some-number_at.ensures.first

pub returns-in-Some-number_at-clause-found : goal.returns-in-Some-number_at-clause-found
returns-in-Some-number_at-clause-found c = number_is_named 0 _ _ _ c.requires.apart (sym (returns-in-Some-number_at-clause-first c))

pub loop-run-preserved : goal.loop-run-preserved
loop-run-preserved c = record {
  same = c.loop-run.invariant.same
      ∙ number_later (runs_in c.loop-run.rest) (runs_in c.in-Some.later) (run_of c.in-Some.run') c.args.wanted.now c.in-Some.ensures.some
      c.in_default-number_at.ensures.first;
  apart = (apart_next (runs_in c.loop-run.rest) (runs_in c.in-Some.later) (run_of c.in-Some.run') c.in-Some.ensures.some c.loop-run.invariant.apart).1;
}

pub returns-clause-first : goal.returns-clause-first
returns-clause-first c =
    sym (c.loop-run.invariant.same ∙ ap (λ runs. number_in runs c.args.wanted.now) c.in_default.ensures.none ∙ no_number c.args.wanted.now)

pub returns-clause-none : goal.returns-clause-none
returns-clause-none c = none_is_named _ _ (sym (returns-clause-first c))
