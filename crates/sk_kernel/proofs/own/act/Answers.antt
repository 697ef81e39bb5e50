use Rattle.std.proofs.Common.{◌==◌, not}
use Rattle.sk_kernel.proofs.Common.{after_setuid, after_setresuid, register, unsigned, after_no_new_privs, after_set_seccomp, after_sigaction, after_sigprocmask, after_sigreturn}
use Rattle.sk_machine.specs.Authority.{after_set_mode_filter}
use Rattle.sk_kernel.proofs.Rows.{has_resignalled, has_authorised, has_other_ids, has_marked}
use Rattle.sk_kernel.proofs.own.act.Goals as goal

pub returns-in-Sigaction-clause-performed : goal.returns-in-Sigaction-clause-performed
returns-in-Sigaction-clause-performed c =
    rw c.in-Sigaction.is (has_resignalled c.args.pid (after_sigaction c.args.pid c.args.call.now) c.args.body.now _ c.rt_sigaction.new.signals _ c.rt_sigaction.ensures.answer c.rt_sigaction.ensures.signals c.done.ensures)

pub returns-in-Sigprocmask-clause-performed : goal.returns-in-Sigprocmask-clause-performed
returns-in-Sigprocmask-clause-performed c =
    rw c.in-Sigprocmask.is (has_resignalled c.args.pid (after_sigprocmask c.args.call.now) c.args.body.now _ c.rt_sigprocmask.new.signals _ c.rt_sigprocmask.ensures.answer c.rt_sigprocmask.ensures.signals c.done-in-Sigprocmask.ensures)

pub returns-in-Sigreturn-clause-performed : goal.returns-in-Sigreturn-clause-performed
returns-in-Sigreturn-clause-performed c =
    rw c.in-Sigreturn.is (has_resignalled c.args.pid (λ s. after_sigreturn s.frames s) c.args.body.now _ c.rt_sigreturn.new.signals _ c.rt_sigreturn.ensures.answer c.rt_sigreturn.ensures.signals c.done-in-Sigreturn.ensures)

pub returns-in-Setuid-clause-performed : goal.returns-in-Setuid-clause-performed
returns-in-Setuid-clause-performed c =
    rw c.in-Setuid.is (has_other_ids c.args.pid (after_setuid (unsigned c.args.call.now 0)) c.args.body.now _ c.setuid.new.creds _ c.setuid.ensures.answer c.setuid.ensures.ids c.done-in-Setuid.ensures)

pub returns-in-Setresuid-clause-performed : goal.returns-in-Setresuid-clause-performed
returns-in-Setresuid-clause-performed c =
    let call = c.args.call.now in
    rw c.in-Setresuid.is (has_other_ids c.args.pid (after_setresuid (unsigned call 0) (unsigned call 1) (unsigned call 2)) c.args.body.now _ c.setresuid.new.creds _ c.setresuid.ensures.answer c.setresuid.ensures.ids c.done-in-Setresuid.ensures)

pub returns-in-SetNoNewPrivs-clause-performed : goal.returns-in-SetNoNewPrivs-clause-performed
returns-in-SetNoNewPrivs-clause-performed c =
    rw c.in-SetNoNewPrivs.is (has_authorised c.args.pid (after_no_new_privs c.args.call.now) c.args.body.now _ c.set_no_new_privs.new.body _ c.set_no_new_privs.ensures.answer c.set_no_new_privs.ensures.body c.done-in-SetNoNewPrivs.ensures)

pub returns-in-SetChildSubreaper-clause-performed : goal.returns-in-SetChildSubreaper-clause-performed
returns-in-SetChildSubreaper-clause-performed c =
    rw c.in-SetChildSubreaper.is (has_marked c.args.pid c.args.declared.now.subreapers (not (register c.args.call.now 1 == 0)) c.args.body.now _ c.set_child_subreaper.new.body _
    c.set_child_subreaper.ensures.answer c.set_child_subreaper.ensures.body c.done-in-SetChildSubreaper.ensures)

pub returns-in_ok-set_seccomp-in-SetSeccomp-clause-performed : goal.returns-in_ok-set_seccomp-in-SetSeccomp-clause-performed
returns-in_ok-set_seccomp-in-SetSeccomp-clause-performed c =
    let set = c.in_ok-set_seccomp-in-SetSeccomp.ensures in
    rw c.in-SetSeccomp.is (has_authorised c.args.pid (after_set_seccomp c.args.declared.now c.args.call.now) c.args.body.now _ c.set_seccomp.new.body _ set.answer set.body c.done-in-SetSeccomp.ensures)

pub returns-in_ok-set_mode_filter-in-SetModeFilter-clause-performed : goal.returns-in_ok-set_mode_filter-in-SetModeFilter-clause-performed
returns-in_ok-set_mode_filter-in-SetModeFilter-clause-performed c =
    let set = c.in_ok-set_mode_filter-in-SetModeFilter.ensures in
    rw c.in-SetModeFilter.is (has_authorised c.args.pid (after_set_mode_filter c.args.declared.now c.args.call.now) c.args.body.now _ c.set_mode_filter.new.body _ set.answer set.body c.done-in-SetModeFilter.ensures)
