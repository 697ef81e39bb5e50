use Rattle.sk_names.specs.Numbers.{run_of, runs_in}
use Rattle.sk_names.proofs.Listing.{one_run, run_fits}
use Rattle.sk_names.proofs.Lookups.{apart_next}
use Rattle.sk_names.proofs.runs.numbers_in.Goals as goal

pub push_run-requires : goal.push_run-requires
push_run-requires c = record {
  within = run_fits c.args.base (runs_in c.loop-run.rest) (runs_in c.in-Some.later) (run_of c.in-Some.run') c.requires.base c.in-Some.ensures.some c.loop-run.invariant.apart;
}

pub loop-run-preserved : goal.loop-run-preserved
loop-run-preserved c = record {
  so_far = one_run _ _ _ _ (runs_in c.loop-run.rest) (runs_in c.in-Some.later) (run_of c.in-Some.run') c.in-Some.ensures.some
      c.in_ok-push_run.ensures.pushed c.loop-run.invariant.so_far;
  apart = (apart_next (runs_in c.loop-run.rest) (runs_in c.in-Some.later) (run_of c.in-Some.run') c.in-Some.ensures.some c.loop-run.invariant.apart).1;
}
