-- The words of the world and the machine that the laws cite, passed on from one place. Declares nothing.
pub use Rattle.std.specs.List.{find}
pub use Rattle.sk_insn.specs.Actions.{action_part, performs}
unfoldable pub use Rattle.sk_insn.specs.Actions.{action_of}
pub use Rattle.sk_insn.specs.Instructions.{image_of}
pub use Rattle.sk_insn.specs.Record.{IsNative, architecture, native}
pub use Rattle.sk_insn.specs.declared.action.Action.{Action}
pub use Rattle.sk_insn.specs.declared.insn.Insn.{Insn}
pub use Rattle.sk_insn.specs.declared.record.Record.{Record}
pub use Rattle.sk_filter.specs.Verdict.{IsLeast}
pub use Rattle.sk_names.specs.Syscalls.{number_of, syscall_of}
pub use Rattle.sk_names.specs.declared.syscall.Syscall.{Syscall}
pub use Rattle.sk_world.specs.Common.{AllValid, IsAtMost, IsNextFree, IsWithinLimit, IsWorld, SignalState, Signals, StepsAreBounded, World, at, body_changed, cast_signed, changed, child_of, continued, cost_of, count, default_action, disposition_of, distance_from, each, ended, first_of, first_process, forced, fork_answer, forked, generated, generated_at, handed_on, has_ended, has_match, has_number, has_room, has_stopped, has_zombie_child, ignores_children, inserted, is_alive, is_child_of, is_continued, is_halted, is_handler, is_ignore, is_ignored, is_init, is_match, is_member_of, is_negative, is_no_hang, is_ready, is_some, is_stopped, is_subreaper, is_tty_stop, is_untraced, is_used, is_zombie, left_pending, left_to_parent, line_up, links_changed, list_all, list_any, meaning_value, nat_cmp, none, opening, option_and_then, option_map, option_map_or, option_or, option_to_list, options_of, parent_of, pids, precedence_of, ready_of, relinked, reparented, result_and, result_unwrap_or, sent, sent_to_each, signalled, sigsys_forced, status_of, status_of_body, status_of_note, stored, takes_children, told, unwrap_or, values_of, verdict_of, w32, with_children_handed_on, without_note, zip, zombie}
unfoldable pub use Rattle.sk_world.specs.Common.{ancestors, difference, empty, first_fault, fresh_of, from_list, insert, lowest, new_parent, no_signal, remove, retain, signals_of, signals_to, union}
unfoldable pub use Rattle.sk_world.specs.Sets.{contains}
pub use Rattle.sk_world.specs.declared.creds.Creds.{Creds}
pub use Rattle.sk_world.specs.declared.disposition.DefaultAction.{DefaultAction}
pub use Rattle.sk_world.specs.declared.disposition.Disposition.{Disposition}
pub use Rattle.sk_world.specs.declared.disposition.Disposition.TheVariants.{Handler, Ignore}
pub use Rattle.sk_world.specs.declared.errno.Errno.{Errno}
pub use Rattle.sk_world.specs.declared.errno.Errno.TheVariants.{Eacces, Eagain, Echild, Efault, Einval, Enoent, Enomem, Enosys, Eopnotsupp, Eperm, Esrch}
pub use Rattle.sk_world.specs.declared.process.Body.{Body}
pub use Rattle.sk_world.specs.declared.process.Life.{Life}
pub use Rattle.sk_world.specs.declared.process.Life.TheVariants.{Running, Stopped, Zombie}
pub use Rattle.sk_world.specs.declared.process.Links.{Links}
pub use Rattle.sk_world.specs.declared.process.Note.{Note}
pub use Rattle.sk_world.specs.declared.process.Note.TheVariants.{Continued}
pub use Rattle.sk_world.specs.declared.process.Proc.{Proc}
pub use Rattle.sk_world.specs.declared.process.TheConstants.{INIT, LAST_PID, PROCESSES}
pub use Rattle.sk_world.specs.declared.process.Waiting.{Waiting}
pub use Rattle.sk_world.specs.declared.request.Poll.{Poll}
pub use Rattle.sk_world.specs.declared.request.Poll.TheVariants.{NoMatch, NotReady}
pub use Rattle.sk_world.specs.declared.request.Request.{Request}
pub use Rattle.sk_world.specs.declared.signal_state.TheConstants.{FRAMES}
pub use Rattle.sk_world.specs.declared.signals.TheConstants.{SIGCHLD, SIGCONT, SIGHUP, SIGKILL, SIGSEGV, SIGSTOP, SIGSYS, SIGTERM, SIGTSTP, SIGUSR1}
pub use Rattle.sk_machine.specs.Arguments.{prctl_option_of, register, seccomp_operation_of, signed, unsigned}
pub use Rattle.sk_machine.specs.Authority.{Authority, after_attach, after_execve, after_no_new_privs, after_prctl, after_seccomp, after_set_seccomp, authority_after, authority_after_call, authority_of, filter_of, filtered, with_authority, with_creds}
pub use Rattle.sk_machine.specs.Delivering.{Delivered, acted_on, acts_by_default, acts_by_disposition, delivered, enters_handler, ignored, in_handler, is_in_call, is_waiting, signal_due, signal_for, stopped_by, stopping, taking, terminated_by}
pub use Rattle.sk_machine.specs.Events.{pid_of, recorded}
pub use Rattle.sk_machine.specs.Images.{Images, filter_image, mark_of}
pub use Rattle.sk_machine.specs.Killing.{after_kill, killed, permitted, targets}
pub use Rattle.sk_machine.specs.Lineages.{Happening, Lineage, authority_after_calls, authority_at, authority_of_lineage, calls_added, has_returned, history_after, history_of, is_fork, is_fork_of, lineage_before, lineage_of}
pub use Rattle.sk_machine.specs.Machine.{Stepped, answers_of, call_answered, call_reason, called_with, delivery, end_status, halted_of, happened, happened_to, is_due_delivery, judged, not_now, own_reason, reason_of, resume_answered, signal_answered, stepped, world_after}
unfoldable pub use Rattle.sk_machine.specs.Machine.{step_of}
pub use Rattle.sk_machine.specs.Orphans.{each_hung_up, ended_and_hung_up, groups, has_stopped_member, hung_up, is_left_orphaned, is_living_member, is_orphaned, is_outside, is_tie, sent_to_group}
pub use Rattle.sk_machine.specs.Performed.{Performed, asked, authorises, changes, fails, returns, waiting_in, waits}
pub use Rattle.sk_machine.specs.Performing.{action_available, authorised, end_of_caller, executing, execve, exit_status, forks, ids, no_new_privs_asked, pending_signals, performed, prctl, row, seccomp, seccomp_mode, subreaper_asked, subreaper_set, where_subreapers, with_subreaper}
pub use Rattle.sk_machine.specs.Sessions.{after_setpgid, after_setsid, group_asked, group_of, has_executed, is_group, is_group_of_session, links_in_group, links_of_leader, may_join, may_move_child, may_regroup, pid_named, put_into_group, regrouped, session_asked, session_of}
pub use Rattle.sk_machine.specs.SignalCalls.{after_sigaction, after_sigprocmask, after_sigreturn, resignals, with_signals}
pub use Rattle.sk_machine.specs.Turns.{goes_on, is_runnable, need_met_by, need_of, next_of, waits_no_more}
pub use Rattle.sk_machine.specs.WaitCalls.{are_wait_options, polled, polled_again, request_of, resumed, wait4}
pub use Rattle.sk_machine.specs.declared.answer.Answer.{Answer}
pub use Rattle.sk_machine.specs.declared.answer.Answer.TheVariants.{Resumed}
pub use Rattle.sk_machine.specs.declared.answer.Effect.{Effect}
pub use Rattle.sk_machine.specs.declared.answer.Outcome.{Outcome}
pub use Rattle.sk_machine.specs.declared.answer.Outcome.TheVariants.{Ended, Executed, Ids, Returned, Told, Trapped, Waits}
pub use Rattle.sk_machine.specs.declared.answer.Reason.{Reason}
pub use Rattle.sk_machine.specs.declared.answer.Reason.TheVariants.{Halted, NoProcess, NothingWaits}
pub use Rattle.sk_machine.specs.declared.event.Event.{Event}
pub use Rattle.sk_machine.specs.declared.event.Event.TheVariants.{Call, Deliver, Fault, Resume}
pub use Rattle.sk_machine.specs.declared.images.Mark.{Mark}
pub use Rattle.sk_machine.specs.declared.operation.PrctlOption.{PrctlOption}
pub use Rattle.sk_machine.specs.declared.operation.SeccompOperation.{SeccompOperation}
