-- The words and lemmas that these proofs cite, passed on from one place. Declares nothing.
pub use Rattle.sk_insn.specs.declared.record.Record.{Record}
pub use Rattle.sk_kernel.specs.Deeds.{Acted, acted, acted_by, deed_of, default_deed, entered, left}
pub use Rattle.sk_kernel.specs.Rows.{ComesTo}
pub use Rattle.sk_kernel.specs.Targets.{after_kill_of, after_kill_of_one, is_reached, is_target, meant, reached}
pub use Rattle.sk_kernel.specs.views.Blocked.{BlockedAs, BlockedBy, IsBlocked, IsStillAsking, KeepsWaiting, has_change_for, has_status_change, is_unreported}
pub use Rattle.sk_kernel.specs.views.Noting.{AllBlocked, Forgets, IsNoted, LooksAt, NoOtherPasses, Notes, OthersAreThere, OthersBlocked, PassesOver}
pub use Rattle.sk_kernel.specs.views.Own.{ActsOn, own_row}
pub use Rattle.sk_laws.specs.Common.{Authority, Happening, Images, IsWorld, Lineage, Performed, SignalState, Signals, World, acts_by_default, acts_by_disposition, after_execve, after_kill, after_no_new_privs, after_set_seccomp, after_setpgid, after_sigaction, after_sigprocmask, after_sigreturn, answers_of, are_wait_options, at, authorises, authority_of, body_changed, called_with, calls_added, changed, changes, continued, default_action, delivered, disposition_of, end_status, execve, first_process, generated, generated_at, goes_on, group_of, halted_of, has_ended, has_match, has_stopped, history_of, ignored, in_handler, inserted, is_alive, is_child_of, is_halted, is_in_call, is_match, is_member_of, is_ready, is_runnable, is_stopped, is_waiting, is_zombie, judged, killed, lineage_before, lineage_of, links_changed, list_any, mark_of, next_of, none, opening, option_map_or, option_or, options_of, parent_of, pid_of, pids, ready_of, reason_of, register, resignals, result_unwrap_or, returns, sent, sent_to_each, session_of, signal_due, signal_for, signalled, signed, sigsys_forced, status_of, status_of_body, stepped, stopping, stored, taking, terminated_by, unsigned, w32, waiting_in, waits_no_more, where_subreapers, with_authority, with_creds, with_signals, with_subreaper, world_after}
unfoldable pub use Rattle.sk_laws.specs.Common.{step_of}
pub use Rattle.sk_laws.specs.FilterLaws.{HasAccepted}
pub use Rattle.sk_machine.proofs.Walking.{nobody_at_0}
pub use Rattle.sk_machine.specs.Arguments.{who_meant}
pub use Rattle.sk_machine.specs.Lineages.{with_calls}
pub use Rattle.sk_machine.specs.Sessions.{answered}
pub use Rattle.sk_machine.specs.declared.answer.Answer.{Answer}
pub use Rattle.sk_machine.specs.declared.event.Event.TheVariants.{Call, Deliver, Fault, Resume}
pub use Rattle.sk_machine.specs.declared.event.Event.{Event}
pub use Rattle.sk_world.proofs.Bodies.{given_back, kept_at, kept_body, nobody_there}
pub use Rattle.sk_world.proofs.Stored.{at_here, at_other, changed_twice, everywhere, kept_changed}
pub use Rattle.sk_world.proofs.Walks.{above, all_above, any_here, beyond, first_here, next_above, none_above, none_any, none_first}
pub use Rattle.sk_world.specs.Creds.{after_setresuid, after_setuid, may_signal}
unfoldable pub use Rattle.sk_world.specs.NumberSets.{contains}
pub use Rattle.sk_world.specs.Waits.{is_asked_for}
pub use Rattle.sk_world.specs.World.{IsNext, with_body, with_links}
pub use Rattle.sk_world.specs.declared.creds.Creds.{Creds}
pub use Rattle.sk_world.specs.declared.errno.Errno.TheVariants.{Einval, Eperm, Esrch}
pub use Rattle.sk_world.specs.declared.process.Body.{Body}
pub use Rattle.sk_world.specs.declared.process.Life.TheVariants.{Running, Stopped, Zombie}
pub use Rattle.sk_world.specs.declared.process.Life.{Life}
pub use Rattle.sk_world.specs.declared.process.Links.{Links}
pub use Rattle.sk_world.specs.declared.process.Proc.{Proc}
pub use Rattle.sk_world.specs.declared.process.TheConstants.{INIT, LAST_PID}
pub use Rattle.sk_world.specs.declared.process.Waiting.{Waiting}
pub use Rattle.sk_world.specs.declared.request.Request.{Request}
pub use Rattle.sk_world.specs.declared.request.WaitOptions.{WaitOptions}
pub use Rattle.sk_world.specs.declared.request.Who.TheVariants.{Any, Child, Group}
pub use Rattle.sk_world.specs.declared.request.Who.{Who}
pub use Rattle.sk_world.specs.declared.signals.TheConstants.{SIGCHLD, SIGCONT, SIGKILL, SIGSEGV, SIGSYS}
pub use Rattle.std.proofs.lemmas.Bool.{and_parts, cases_eq, cases_lt, cond_both, eqb-false, false_from_ne_true, false≢true, not-true}
pub use Rattle.std.proofs.lemmas.List.{reverse-append, take_more}
pub use Rattle.std.proofs.lemmas.Result.{IfOk-at_ok, IfOk-weaker, on_err_weaker}
