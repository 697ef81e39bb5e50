-- How a signal is sent to a process: kill(2), signal(7), and POSIX.1-2017, 2.4.1 "Signal Generation and
-- Delivery"; and how SIGSYS is forced on one: seccomp(2).
use Rattle.std.specs.Prelude.{ℕ, ◌==◌, Bool, ◌&&◌, if◌then◌else◌, List, [], ◌∷◌}
use Rattle.sk_world.specs.declared.signals.TheConstants.{SIGCHLD, SIGCONT}
use Rattle.sk_world.specs.Generation.{generated, forced as sigsys_forced}
use Rattle.sk_world.specs.declared.process.TheConstants.{INIT}
use Rattle.sk_world.specs.declared.process.Life.TheVariants.{Running}
use Rattle.sk_world.specs.declared.process.Note.TheVariants.{Continued}
use Rattle.sk_world.specs.declared.process.Body.{Body}
use Rattle.sk_world.specs.World.{World, at, has_ended, has_stopped, is_stopped, parent_of, changed}

-- a process that was stopped runs again, and wait(2) can tell it
abbrev pub continued : Body → Body
continued body = if has_stopped body.life then record body { life = Running; note = Continued } else body

-- signal n is generated for a process. A zombie gets no signal; SIGCONT continues a process that is
-- stopped, whether it is blocked or ignored or neither: signal(7)
abbrev pub signalled : ℕ → Bool → Body → Body
signalled n init body =
    if has_ended body.life then body
    else if n == SIGCONT then continued (record body { signals = generated n init body.signals })
    else record body { signals = generated n init body.signals }

-- signal n is generated for the process of a pid, if there is one; process 1 has rules of its own
abbrev pub generated_at : World → ℕ → ℕ → World
generated_at w pid n = changed w pid (signalled n (pid == INIT))

-- signal n is sent to a process. That a stopped process continues is announced to its parent by
-- SIGCHLD: POSIX.1-2017, 2.4.3. Process 1 is never stopped
abbrev pub sent : World → ℕ → ℕ → World
sent w pid n =
    if (n == SIGCONT) && is_stopped (at w pid)
    then generated_at (generated_at w pid n) (parent_of (at w pid)) SIGCHLD
    else generated_at w pid n

-- the signal is sent to each of these processes, in this order
abbrev pub sent_to_each : World → List ℕ → ℕ → World
sent_to_each w [] n = w
sent_to_each w (pid ∷ rest) n = sent_to_each (sent w pid n) rest n

-- SIGSYS is forced on a process: seccomp(2), "SECCOMP_RET_TRAP"
abbrev pub forced : World → ℕ → World
forced w pid = changed w pid (λ body. record body { signals = sigsys_forced body.signals })
