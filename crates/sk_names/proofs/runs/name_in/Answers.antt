use Rattle.std.proofs.Common.{sym, ap, ◌∙◌}
use Rattle.sk_names.specs.Names.{name_in}
use Rattle.sk_names.specs.Numbers.{run_of, runs_in}
use Rattle.sk_names.proofs.Lookups.{apart_next, name_here, name_later, no_name}
use Rattle.sk_names.proofs.runs.name_in.Goals as goal

pub returns-then-not-begins_by : goal.returns-then-not-begins_by
returns-then-not-begins_by c =
    let here =
    name_here (runs_in c.loop-run.rest) (runs_in c.in-Some.later) (run_of c.in-Some.run') c.args.nr c.in-Some.ensures.some
    c.loop-run.invariant.apart c.if-not-begins_by.ensures.first
    in
    record { name = c.name_at.ensures.name ∙ sym (c.loop-run.invariant.same ∙ here) }

pub loop-run-preserved : goal.loop-run-preserved
loop-run-preserved c = record {
  same = c.loop-run.invariant.same
      ∙ name_later (runs_in c.loop-run.rest) (runs_in c.in-Some.later) (run_of c.in-Some.run') c.args.nr c.in-Some.ensures.some
      c.loop-run.invariant.apart c.if-not-begins_by.ensures.empty c.if-not-begins_by.ensures.first;
  apart = (apart_next (runs_in c.loop-run.rest) (runs_in c.in-Some.later) (run_of c.in-Some.run') c.in-Some.ensures.some c.loop-run.invariant.apart).1;
}

pub returns : goal.returns
returns c = record {
  name = sym (c.loop-run.invariant.same ∙ ap (λ runs. name_in runs c.args.nr) c.in_default.ensures.none ∙ no_name c.args.nr);
}
