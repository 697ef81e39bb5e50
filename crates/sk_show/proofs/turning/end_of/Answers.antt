use Rattle.std.proofs.Common.{suc, refl, subst, ap, ◌∙◌}
use Rattle.sk_filter.specs.Valid.{IsValid}
use Rattle.sk_filter.proofs.ValidPrograms.{valid_count}
use Rattle.sk_show.specs.Runs.{EndsAt}
use Rattle.sk_show.specs.Tracing.{state_of, effect_of}
use Rattle.sk_show.proofs.Runs.{insn_at, is_there, takes_constant, stays_inside, comes_further, never_stuck}
use Rattle.sk_show.proofs.turning.end_of.Goals as goal

pub loop-skip-init : goal.loop-skip-init
loop-skip-init c =
    let valid : IsValid c.insns-insns.result.now = rw c.insns-insns.ensures.insns c.insns-insns.ensures.valid in
    record {
      inside = (valid_count c.insns-insns.result.now valid).0;
      comes = (0, (refl, c.new-run.ensures.start));
    }

pub execute-requires : goal.execute-requires
execute-requires c =
    let valid : IsValid c.insns-insns.result.now = rw c.insns-insns.ensures.insns c.insns-insns.ensures.valid in
    record { constant = takes_constant c.insns-insns.result.now valid c.loop-skip.place c.loop-skip.invariant.inside }

pub loop-skip-preserved : goal.loop-skip-preserved
loop-skip-preserved c =
    let insns = c.insns-insns.result.now in
    let valid : IsValid insns = rw c.insns-insns.ensures.insns c.insns-insns.ensures.valid in
    let place = c.loop-skip.place in
    let call = c.args.call.now in
    let here = is_there insns place c.loop-skip.invariant.inside in
    let does = c.execute.ensures.does ∙ ap (λ next. effect_of next (state_of c.execute.new.self)) c.in-Skip.is in
    record {
      inside = stays_inside insns valid call place (insn_at insns place) (state_of c.loop-skip.run) c.in-Skip.skip _ here does;
      comes = (suc c.loop-skip.invariant.comes.0, comes_further insns call _ place (insn_at insns place) (state_of c.loop-skip.run) c.in-Skip.skip _ c.loop-skip.invariant.comes.1 here does);
    }

pub returns-in-End : goal.returns-in-End
returns-in-End c =
    let insns = c.insns-insns.result.now in
    let place = c.loop-skip.place in
    let here = is_there insns place c.loop-skip.invariant.inside in
    let does = c.execute.ensures.does ∙ ap (λ next. effect_of next (state_of c.execute.new.self)) c.in-End.is in
    let ends : EndsAt insns c.args.call.now c.in-End.value place =
    (c.loop-skip.invariant.comes.0, state_of c.loop-skip.run, c.loop-skip.invariant.comes.1, (insn_at insns place, here, does)) in
    record { ends = subst (λ insns. EndsAt insns c.args.call.now c.in-End.value place) c.insns-insns.ensures.insns ends }

pub unreachable-requires : goal.unreachable-requires
unreachable-requires c =
    let insns = c.insns-insns.result.now in
    let valid : IsValid insns = rw c.insns-insns.ensures.insns c.insns-insns.ensures.valid in
    let place = c.loop-skip.place in
    let here = is_there insns place c.loop-skip.invariant.inside in
    let does = c.execute.ensures.does ∙ ap (λ next. effect_of next (state_of c.execute.new.self)) c.in-Stuck.is in
    never_stuck insns valid c.args.call.now _ place (insn_at insns place) (state_of c.loop-skip.run) c.loop-skip.invariant.comes.1 here does
