use Rattle.std.proofs.Common.{arith, ap, sym, ◌∙◌}
use Rattle.sk_arguments.specs.Runs.{follow, names_of, names_of_all}
use Rattle.sk_names.proofs.Places.{is_at}
use Rattle.sk_arguments.proofs.Following.{first_from, found_here, found_later, from_zero, nothing_left, run_is, starts}
use Rattle.sk_arguments.proofs.runs.place_in.Goals as goal

pub loop-run-init : goal.loop-run-init
loop-run-init c =
    let first = starts c.args.text.now c.args.runs.now c.requires.follow in
    record {
      same = ap (λ n. first_from c.args.wanted.now n (names_of_all c.args.text.now c.args.runs.now)) (sym first);
      follow = ap (λ n. follow c.args.text.now n c.args.runs.now) first ∙ c.requires.follow;
    }

pub slice_bounds-place_in_run-start : goal.slice_bounds-place_in_run-start
slice_bounds-place_in_run-start c = (run_is c.args.text.now c.loop-run.rest.now c.in-Some.later.now c.in-Some.run'.now c.in-Some.ensures.cases.0 c.loop-run.invariant.follow).0

pub slice_bounds-place_in_run-count : goal.slice_bounds-place_in_run-count
slice_bounds-place_in_run-count c = (run_is c.args.text.now c.loop-run.rest.now c.in-Some.later.now c.in-Some.run'.now c.in-Some.ensures.cases.0 c.loop-run.invariant.follow).0

pub slice_bounds-place_in_run-end : goal.slice_bounds-place_in_run-end
slice_bounds-place_in_run-end c = (run_is c.args.text.now c.loop-run.rest.now c.in-Some.later.now c.in-Some.run'.now c.in-Some.ensures.cases.0 c.loop-run.invariant.follow).1

pub place_in_run-requires : goal.place_in_run-requires
place_in_run-requires c = record {
  alike = (run_is c.args.text.now c.loop-run.rest.now c.in-Some.later.now c.in-Some.run'.now c.in-Some.ensures.cases.0 c.loop-run.invariant.follow).3;
}

pub overflow_add-result : goal.overflow_add-result
overflow_add-result c =
    let run = run_is c.args.text.now c.loop-run.rest.now c.in-Some.later.now c.in-Some.run'.now c.in-Some.ensures.cases.0 c.loop-run.invariant.follow in
    let low = (is_at (names_of c.args.text.now c.in-Some.run'.now) c.args.wanted.now c.in-Some-place_in_run.place (sym c.in-Some-place_in_run.ensures.first)).0 in
    omega (arith, run.2, low)

pub returns-in-Some-place_in_run : goal.returns-in-Some-place_in_run
returns-in-Some-place_in_run c = record {
  first = sym (from_zero c.args.wanted.now (names_of_all c.args.text.now c.args.runs.now) ∙ c.loop-run.invariant.same
      ∙ found_here c.args.text.now c.loop-run.rest.now c.in-Some.later.now c.in-Some.run'.now c.args.wanted.now c.in-Some-place_in_run.place
      c.in-Some.ensures.cases.0 (sym c.in-Some-place_in_run.ensures.first));
}

pub loop-run-preserved : goal.loop-run-preserved
loop-run-preserved c = record {
  same = c.loop-run.invariant.same
      ∙ found_later c.args.text.now c.loop-run.rest.now c.in-Some.later.now c.in-Some.run'.now c.args.wanted.now
      c.in-Some.ensures.cases.0 c.loop-run.invariant.follow (sym c.in_default-place_in_run.ensures.first);
  follow = (run_is c.args.text.now c.loop-run.rest.now c.in-Some.later.now c.in-Some.run'.now c.in-Some.ensures.cases.0 c.loop-run.invariant.follow).4;
}

pub returns : goal.returns
returns c = record {
  first = sym (from_zero c.args.wanted.now (names_of_all c.args.text.now c.args.runs.now) ∙ c.loop-run.invariant.same
      ∙ nothing_left c.args.text.now c.loop-run.rest.now c.args.wanted.now c.in_default.ensures.cases);
}
