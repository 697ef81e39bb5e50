-- What signals do: the dispositions and the default actions of signal(7).
use Rattle.std.specs.Prelude.{ℕ, ◌==◌, Bool, true, false, ◌||◌, if◌then◌else◌}
use Rattle.sk_world.specs.declared.signals.TheConstants.{SIGCHLD, SIGCONT, SIGSTOP, SIGTSTP, SIGTTIN, SIGTTOU, SIGURG, SIGWINCH}
use Rattle.sk_world.specs.declared.disposition.DefaultAction.{DefaultAction}
use Rattle.sk_world.specs.declared.disposition.DefaultAction.TheVariants as action
use Rattle.sk_world.specs.declared.disposition.Disposition.{Disposition}
use Rattle.sk_world.specs.declared.disposition.Disposition.TheVariants.{Default, Ignore, Handler}

-- the four stop signals: signal(7), "Stop" in the column "Action"
abbrev pub is_stop : ℕ → Bool
is_stop n = (n == SIGSTOP) || (n == SIGTSTP) || (n == SIGTTIN) || (n == SIGTTOU)

-- the stop signals of a terminal, which leave the members of an orphaned group running: all but SIGSTOP
abbrev pub is_tty_stop : ℕ → Bool
is_tty_stop n = (n == SIGTSTP) || (n == SIGTTIN) || (n == SIGTTOU)

-- the default action of a signal: signal(7), "Standard signals". A core file is never written
abbrev pub default_action : ℕ → DefaultAction
default_action n =
    if (n == SIGCHLD) || (n == SIGURG) || (n == SIGWINCH) then action.Ignore
    else if n == SIGCONT then action.Continue
    else if is_stop n then action.Stop
    else action.Terminate

-- the actions that leave a running process as it is
abbrev pub is_ignore_or_continue : DefaultAction → Bool
is_ignore_or_continue action.Ignore = true
is_ignore_or_continue action.Continue = true
is_ignore_or_continue action.Stop = false
is_ignore_or_continue action.Terminate = false

-- the signal is caught: a handler is run for it
abbrev pub is_handler : Disposition → Bool
is_handler (Handler program mask) = true
is_handler Ignore = false
is_handler Default = false

-- the disposition is SIG_IGN: sigaction(2)
abbrev pub is_ignore : Disposition → Bool
is_ignore (Handler program mask) = false
is_ignore Ignore = true
is_ignore Default = false

-- the signal is ignored: signal(7), "Signal dispositions". Process 1 ignores every signal that it
-- has no handler for: kill(2), "Notes"
abbrev pub is_ignored : ℕ → Bool → Disposition → Bool
is_ignored n init (Handler program mask) = false
is_ignored n init Ignore = true
is_ignored n init Default = init || is_ignore_or_continue (default_action n)

-- execve(2): a signal that is caught gets the default disposition, one that is ignored stays ignored
abbrev pub disposition_after_exec : Disposition → Disposition
disposition_after_exec (Handler program mask) = Default
disposition_after_exec Ignore = Ignore
disposition_after_exec Default = Default
