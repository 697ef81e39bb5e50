-- The words of the world, and those of std, of filters and of instructions that go with them, passed on from one place. Declares nothing.
pub use Rattle.std.specs.Cmp.{nat_cmp_total, unsigned_tied}
pub use Rattle.std.specs.Coded.{Coded, code_by, coded_bool, coded_list, coded_option, coded_ℕ, coded×}
pub use Rattle.std.specs.FinMap.Entries.{by_order, find, find-put, find-where_key, is_sorted, length-put, length_without, put, same_entries, where_key}
pub use Rattle.std.specs.Int.{bit_at, bit_not, cast_signed, is_negative, trailing_zeros, w32}
pub use Rattle.std.specs.Io.KnownBytes.{Appends}
pub use Rattle.std.specs.List.{concat, find as first, list_all, list_any, position_from, slice_range, zip}
pub use Rattle.std.specs.Option.{IfSome, IsSome, is_some, option_and_then, option_map, option_map_or, option_or, option_to_list, unwrap_or}
pub use Rattle.std.specs.Ordering.{eq_by_cmp, is_eq, is_lt, nat_cmp}
pub use Rattle.std.specs.Result.{is_ok, result_and, result_unwrap_or}
pub use Rattle.std.specs.Vec.{vec_len}
pub use Rattle.std.specs.declared.cmp.Ordering.TheVariants.{Equal, Greater, Less}
pub use Rattle.sk_filter.specs.Chains.{AllValid, IsWithinLimit, StepsAreBounded}
unfoldable pub use Rattle.sk_filter.specs.FirstFault.{first_fault}
pub use Rattle.sk_filter.specs.PathLimit.{cost_of, path_limit}
pub use Rattle.sk_filter.specs.Verdict.{IsAtMost, first_of, meaning_value, precedence_of, values_of, verdict_of}
pub use Rattle.sk_world.specs.Actions.{default_action, disposition_after_exec, is_handler, is_ignore, is_ignored, is_stop, is_tty_stop}
pub use Rattle.sk_world.specs.Creds.{after_exec, after_setresuid, after_setuid, is_privileged, is_real_or_saved, may_signal, may_take}
pub use Rattle.sk_world.specs.Delivery.{deliverable, popped, pushed, ready, taken}
pub use Rattle.sk_world.specs.Ending.{ended, handed_on, has_zombie_child, ignores_children, left_to_parent, reparented, with_children_handed_on, zombie}
pub use Rattle.sk_world.specs.Errno.{answer_of, number_of as errno_number}
pub use Rattle.sk_world.specs.Forking.{child_of, fork_answer, forked, has_filters, has_room}
pub use Rattle.sk_world.specs.Generation.{forced as sigsys_forced, generated, left_pending, without_stops}
pub use Rattle.sk_world.specs.NumberSets.{IsLeastAbove, has_bit}
unfoldable pub use Rattle.sk_world.specs.NumberSets.{contains, members_of, numbers_below}
pub use Rattle.sk_world.specs.Numbers.{IsNextFree, distance_from, free_from, has_number, is_used, next_number}
unfoldable pub use Rattle.sk_world.specs.Numbers.{fresh_of}
pub use Rattle.sk_world.specs.Pairs.{below, below_all, has_pair, is_rising}
pub use Rattle.sk_world.specs.Processes.{Processes, count, each, each_of, get, none, pids, store}
pub use Rattle.sk_world.specs.Rules.{IsWorld, has_links_within, is_init, is_within}
pub use Rattle.sk_world.specs.Sending.{continued, forced, generated_at, sent, sent_to_each, signalled}
unfoldable pub use Rattle.sk_world.specs.Sets.{difference, empty, from_list, insert, remove, retain, union}
pub use Rattle.sk_world.specs.SignalSet.{IsLeast, IsSignal, Signals, Signals as SignalMembers, blockable}
unfoldable pub use Rattle.sk_world.specs.SignalSet.{lowest, number_of, number_of as bits_of, signals_of, signals_to}
pub use Rattle.sk_world.specs.SignalState.{AllBlockable, SignalState, disposition_of}
pub use Rattle.sk_world.specs.Signalling.{with_action, with_mask}
unfoldable pub use Rattle.sk_world.specs.Signalling.{opening as no_signal}
pub use Rattle.sk_world.specs.Subreapers.{is_subreaper, line_up, takes_children}
unfoldable pub use Rattle.sk_world.specs.Subreapers.{ancestors, new_parent}
pub use Rattle.sk_world.specs.Waits.{first_told, has_match, is_asked_for, is_continued, is_match, is_no_hang, is_ready, is_untraced, options_of, ready_of, status_changes, status_of, status_of_body, status_of_note, told, with_status, without_note}
pub use Rattle.sk_world.specs.World.{IsNext, World, at, body_changed, changed, first_process, has_ended, has_stopped, inserted, is_alive, is_child_of, is_halted, is_member_of, is_stopped, is_zombie, links_changed, opening, parent_of, relinked, stored, with_body, with_links}
pub use Rattle.sk_world.specs.declared.creds.Creds.{Creds}
pub use Rattle.sk_world.specs.declared.disposition.DefaultAction.{DefaultAction}
pub use Rattle.sk_world.specs.declared.disposition.Disposition.{Disposition}
pub use Rattle.sk_world.specs.declared.disposition.Disposition.TheVariants.{Default, Handler, Ignore}
pub use Rattle.sk_world.specs.declared.errno.Errno.{Errno}
pub use Rattle.sk_world.specs.declared.errno.Errno.TheVariants.{Eacces, Eagain, Echild, Efault, Einval, Enoent, Enomem, Enosys, Eopnotsupp, Eperm, Esrch}
pub use Rattle.sk_world.specs.declared.process.Body.{Body}
pub use Rattle.sk_world.specs.declared.process.Life.{Life}
pub use Rattle.sk_world.specs.declared.process.Life.TheVariants.{Running, Stopped, Zombie}
pub use Rattle.sk_world.specs.declared.process.Links.{Links}
pub use Rattle.sk_world.specs.declared.process.Note.{Note}
pub use Rattle.sk_world.specs.declared.process.Note.TheVariants.{Continued}
pub use Rattle.sk_world.specs.declared.process.Proc.{Proc}
pub use Rattle.sk_world.specs.declared.process.TheConstants.{INIT, LAST_PID, PROCESSES}
pub use Rattle.sk_world.specs.declared.process.Waiting.{Waiting}
pub use Rattle.sk_world.specs.declared.process.Waiting.TheVariants.{Asks, Nothing, Pause}
pub use Rattle.sk_world.specs.declared.request.Poll.{Poll}
pub use Rattle.sk_world.specs.declared.request.Poll.TheVariants.{NoMatch, NotReady, Told}
pub use Rattle.sk_world.specs.declared.request.Request.{Request}
pub use Rattle.sk_world.specs.declared.request.WaitOptions.{WaitOptions}
pub use Rattle.sk_world.specs.declared.request.Who.{Who}
pub use Rattle.sk_world.specs.declared.request.Who.TheVariants.{Any, Child, Group}
pub use Rattle.sk_world.specs.declared.signal_state.TheConstants.{FRAMES}
pub use Rattle.sk_world.specs.declared.signals.TheConstants.{SIGCHLD, SIGCONT, SIGHUP, SIGKILL, SIGSEGV, SIGSTOP, SIGSYS, SIGTERM, SIGTSTP, SIGUSR1}
pub use Rattle.sk_world.specs.views.Members.{contains-difference, contains-empty, contains-from_list, contains-insert, contains-remove, contains-union, same_set}
pub use Rattle.sk_world.specs.views.SignalBits.{contains-signals_of, number_of-signals_of}
pub use Rattle.sk_world.specs.views.WorldCode.{same_processes, world_code}
