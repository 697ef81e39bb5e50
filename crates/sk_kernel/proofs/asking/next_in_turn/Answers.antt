use Rattle.std.proofs.Common.{◌∙◌, ap, sym, find, option_map}
use Rattle.sk_kernel.proofs.Common.{option_or, pids, is_runnable}
use Rattle.sk_kernel.proofs.Passing.{above_0}
use Rattle.sk_kernel.proofs.asking.next_in_turn.Goals as goal

pub returns-in-None-clause-pid : goal.returns-in-None-clause-pid
returns-in-None-clause-pid g c =
    let w = g.S.ProcStore.contents c.args.store.now in
    c.first_runnable-in-None.ensures.pid ∙ above_0 w c.requires.rules
    ∙ ap (λ o. option_or o (find (is_runnable w) (pids w.procs))) (ap (option_map (λ runner. runner.pid)) (sym c.in-None.is) ∙ c.first_runnable.ensures.pid)
