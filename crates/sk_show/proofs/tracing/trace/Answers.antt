use Rattle.std.proofs.Common.{◌++◌, suc, refl, sym, ap, ◌∙◌}
use Rattle.sk_filter.specs.Valid.{IsValid}
use Rattle.sk_filter.proofs.ValidPrograms.{valid_count}
use Rattle.sk_show.specs.Tracing.{state_of, effect_of}
use Rattle.sk_show.proofs.Runs.{insn_at, is_there, takes_constant, stays_inside, comes_further, ends_with, never_stuck}
use Rattle.sk_filter.specs.Meaning.{meaning_of}
use Rattle.sk_filter.specs.Verdict.{meaning_value}
use Rattle.sk_show.specs.Runs.{EndsAt}
use Rattle.sk_show.specs.Paths.{path_of, steps_from}
use Rattle.sk_show.proofs.Paths.{path_ends, path_on}
use Rattle.sk_show.proofs.tracing.trace.Goals as goal

pub loop-skip-init : goal.loop-skip-init
loop-skip-init c =
    let valid : IsValid c.insns-insns.result.now = rw c.insns-insns.ensures.insns c.insns-insns.ensures.valid in
    record {
      inside = (valid_count c.insns-insns.result.now valid).0;
      comes = (0, (refl, c.new-run.ensures.start));
      path =
          ap (λ l. l ++ steps_from c.insns-insns.result.now 0 0 c.args.call.now (state_of c.new-run.result)) c.new-steps.ensures.items
          ∙ ap (λ s. steps_from c.insns-insns.result.now 0 0 c.args.call.now s) c.new-run.ensures.start;
    }

pub execute-requires : goal.execute-requires
execute-requires c =
    let valid : IsValid c.insns-insns.result.now = rw c.insns-insns.ensures.insns c.insns-insns.ensures.valid in
    record { constant = takes_constant c.insns-insns.result.now valid c.loop-skip.place c.loop-skip.invariant.inside }

pub unreachable-requires : goal.unreachable-requires
unreachable-requires c =
    let insns = c.insns-insns.result.now in
    let valid : IsValid insns = rw c.insns-insns.ensures.insns c.insns-insns.ensures.valid in
    let place = c.loop-skip.place in
    let here = is_there insns place c.loop-skip.invariant.inside in
    let does = c.execute.ensures.does ∙ ap (λ next. effect_of next (state_of c.execute.new.self)) c.in-Stuck.is in
    never_stuck insns valid c.args.call.now _ place (insn_at insns place) (state_of c.loop-skip.run) c.loop-skip.invariant.comes.1 here does

pub loop-skip-preserved : goal.loop-skip-preserved
loop-skip-preserved c =
    let insns = c.insns-insns.result.now in
    let valid : IsValid insns = rw c.insns-insns.ensures.insns c.insns-insns.ensures.valid in
    let place = c.loop-skip.place in
    let call = c.args.call.now in
    let insn = insn_at insns place in
    let skip = c.in-Skip.skip in
    let s = state_of c.loop-skip.run in
    let here = is_there insns place c.loop-skip.invariant.inside in
    let does = c.execute.ensures.does ∙ ap (λ next. effect_of next (state_of c.execute.new.self)) c.in-Skip.is in
    record {
      inside = stays_inside insns valid call place insn s skip _ here does;
      comes = (suc c.loop-skip.invariant.comes.0, comes_further insns call _ place insn s skip _ c.loop-skip.invariant.comes.1 here does);
      path = path_on insns place insn call s skip _ _ _ _ _ _ here does c.registers_of-before.ensures.registers c.registers_of.ensures.registers c.loop-skip.invariant.path c.in_ok-push-in-Skip.ensures.items;
    }

pub returns-in-End-clause-steps : goal.returns-in-End-clause-steps
returns-in-End-clause-steps c =
    let insns = c.insns-insns.result.now in
    let place = c.loop-skip.place in
    let call = c.args.call.now in
    let here = is_there insns place c.loop-skip.invariant.inside in
    let does = c.execute.ensures.does ∙ ap (λ next. effect_of next (state_of c.execute.new.self)) c.in-End.is in
    path_ends insns place (insn_at insns place) call (state_of c.loop-skip.run) c.in-End.value _ _ _ _ here does c.registers_of-before.ensures.registers c.loop-skip.invariant.path c.in_ok-push-in-End.ensures.items
    ∙ ap (λ i. path_of i call) c.insns-insns.ensures.insns

pub returns-in-End-clause-value : goal.returns-in-End-clause-value
returns-in-End-clause-value c =
    let insns = c.insns-insns.result.now in
    let place = c.loop-skip.place in
    let call = c.args.call.now in
    let here = is_there insns place c.loop-skip.invariant.inside in
    let does = c.execute.ensures.does ∙ ap (λ next. effect_of next (state_of c.execute.new.self)) c.in-End.is in
    let ends : EndsAt insns call c.in-End.value place =
    (c.loop-skip.invariant.comes.0, state_of c.loop-skip.run, c.loop-skip.invariant.comes.1, (insn_at insns place, here, does)) in
    sym (ends_with insns call c.in-End.value place ends) ∙ ap (λ i. meaning_value (meaning_of i call)) c.insns-insns.ensures.insns
