-- The numbers of the standard signals, and how many handlers run inside one another.
use Rattle.std.specs.Prelude.{◌≡◌, [], ◌∷◌}
use Rattle.sk_world.specs.SignalSet.{signals_to}
use Rattle.sk_world.specs.declared.signals.TheConstants.{SIGHUP, SIGINT, SIGQUIT, SIGILL, SIGTRAP, SIGABRT, SIGBUS, SIGFPE, SIGKILL, SIGUSR1, SIGSEGV, SIGUSR2, SIGPIPE, SIGALRM, SIGTERM, SIGSTKFLT, SIGCHLD, SIGCONT, SIGSTOP, SIGTSTP, SIGTTIN, SIGTTOU, SIGURG, SIGXCPU, SIGXFSZ, SIGVTALRM, SIGPROF, SIGWINCH, SIGIO, SIGPWR, SIGSYS}
use Rattle.sk_world.specs.declared.signal_state.TheConstants.{FRAMES}

-- signal(7), "Signal numbering for standard signals", the column x86/ARM: 1 to 31 in this order
abbrev pub SignalsHaveTheirNumbers : Type 0
SignalsHaveTheirNumbers =
    signals_to 31
    ≡ SIGHUP ∷ SIGINT ∷ SIGQUIT ∷ SIGILL ∷ SIGTRAP ∷ SIGABRT ∷ SIGBUS ∷ SIGFPE ∷ SIGKILL ∷ SIGUSR1 ∷ SIGSEGV ∷ SIGUSR2 ∷ SIGPIPE ∷ SIGALRM ∷ SIGTERM
    ∷ SIGSTKFLT ∷ SIGCHLD ∷ SIGCONT ∷ SIGSTOP ∷ SIGTSTP ∷ SIGTTIN ∷ SIGTTOU ∷ SIGURG ∷ SIGXCPU ∷ SIGXFSZ ∷ SIGVTALRM ∷ SIGPROF ∷ SIGWINCH ∷ SIGIO ∷ SIGPWR ∷ SIGSYS ∷ []

-- at most sixteen handlers run inside one another: a limit of this kernel, where Linux has that of the stack
abbrev pub SixteenHandlersNest : Type 0
SixteenHandlersNest = FRAMES ≡ 16
