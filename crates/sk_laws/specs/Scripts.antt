-- Words in which runs of the machine are told: what was worked out by hand stands beside its definitions
-- as lines of an event and its answer.
use Rattle.std.specs.Prelude.{ℕ, ◌≡◌, ◌+◌, ◌-◌, ◌^◌, neg_ℤ, pos, true, false, List, [], ◌∷◌, map}
use Rattle.sk_laws.specs.Common.{image_of, Errno, Syscall, number_of, signals_of, World, Event, Call, Answer, Outcome, Effect, Reason, Mark, Images, Happening, answers_of, world_after}
use Rattle.sk_world.specs.Errno.{number_of as errno_number}

-- ---- what is declared
-- nothing
abbrev pub nothing_given : Images
nothing_given = record { filters = []; programs = []; subreapers = false }

-- these filters, and these programs
abbrev pub given : List (List ℕ) → List Mark → Images
given filters programs = record { filters = filters; programs = programs; subreapers = false }

-- the same, and subreapers
abbrev pub given_with_subreapers : List (List ℕ) → List Mark → Images
given_with_subreapers filters programs = record { filters = filters; programs = programs; subreapers = true }

-- a program of the superuser, and a set-user-ID program of this owner
abbrev pub plain : Mark
plain = record { owner = 0; setuid = false }

-- a set-user-ID program of this owner
abbrev pub set_user_id : ℕ → Mark
set_user_id owner = record { owner = owner; setuid = true }

-- the image of a filter that gives this value for every call
abbrev pub always : ℕ → List ℕ
always value = image_of (record { code = 0x06; jt = 0; jf = 0; k = value } ∷ [])

-- the image of a filter that gives this value for the calls of one number, and allows all others
abbrev pub for_number : ℕ → ℕ → List ℕ
for_number nr value =
    image_of (record { code = 0x20; jt = 0; jf = 0; k = 0 }
    ∷ record { code = 0x15; jt = 0; jf = 1; k = nr }
    ∷ record { code = 0x06; jt = 0; jf = 0; k = value }
    ∷ record { code = 0x06; jt = 0; jf = 0; k = 0x7fff0000 }
    ∷ [])

-- ---- events: calls by their names in the manual, each with the process that makes it
-- a call by its number, with all six registers
abbrev pub call_with : ℕ → ℕ → List ℕ → Event
call_with pid nr args = Call pid 0 (record { nr = nr; args = args })

-- the same with three, where the others are 0
abbrev pub call : ℕ → ℕ → ℕ → ℕ → ℕ → Event
call pid nr a b c = call_with pid nr (a ∷ b ∷ c ∷ 0 ∷ 0 ∷ 0 ∷ [])

-- a negative number in a register
abbrev pub minus : ℕ → ℕ
minus n = 2 ^ 64 - n

-- the set of this one signal, as it stands in a register
abbrev pub only : ℕ → ℕ
only n = 2 ^ (n - 1)

-- rt_sigaction: sigaction(2). The action is 0 for the default, 1 to ignore, n + 2 for handler n
abbrev pub sigaction : ℕ → ℕ → ℕ → ℕ → Event
sigaction pid n action mask = call pid (number_of Syscall.RtSigaction) n action mask

-- rt_sigprocmask: sigprocmask(2)
abbrev pub sigprocmask : ℕ → ℕ → ℕ → Event
sigprocmask pid how set = call pid (number_of Syscall.RtSigprocmask) how set 0

-- rt_sigreturn: sigreturn(2)
abbrev pub sigreturn : ℕ → Event
sigreturn pid = call pid (number_of Syscall.RtSigreturn) 0 0 0

-- sched_yield(2)
abbrev pub sched_yield : ℕ → Event
sched_yield pid = call pid (number_of Syscall.SchedYield) 0 0 0

-- pause(2)
abbrev pub pause : ℕ → Event
pause pid = call pid (number_of Syscall.Pause) 0 0 0

-- getpid(2)
abbrev pub getpid : ℕ → Event
getpid pid = call pid (number_of Syscall.Getpid) 0 0 0

-- fork(2)
abbrev pub fork : ℕ → Event
fork pid = call pid (number_of Syscall.Fork) 0 0 0

-- execve(2), of a program by its place
abbrev pub execve : ℕ → ℕ → Event
execve pid program = call pid (number_of Syscall.Execve) program 0 0

-- _exit(2)
abbrev pub exit : ℕ → ℕ → Event
exit pid code = call pid (number_of Syscall.Exit) code 0 0

-- wait4(2)
abbrev pub wait4 : ℕ → ℕ → ℕ → Event
wait4 pid who options = call pid (number_of Syscall.Wait4) who 0 options

-- kill(2)
abbrev pub kill : ℕ → ℕ → ℕ → Event
kill pid who n = call pid (number_of Syscall.Kill) who n 0

-- getuid(2)
abbrev pub getuid : ℕ → Event
getuid pid = call pid (number_of Syscall.Getuid) 0 0 0

-- setuid(2)
abbrev pub setuid : ℕ → ℕ → Event
setuid pid id = call pid (number_of Syscall.Setuid) id 0 0

-- geteuid(2)
abbrev pub geteuid : ℕ → Event
geteuid pid = call pid (number_of Syscall.Geteuid) 0 0 0

-- setpgid(2)
abbrev pub setpgid : ℕ → ℕ → ℕ → Event
setpgid pid target group = call pid (number_of Syscall.Setpgid) target group 0

-- getppid(2)
abbrev pub getppid : ℕ → Event
getppid pid = call pid (number_of Syscall.Getppid) 0 0 0

-- getpgrp(2)
abbrev pub getpgrp : ℕ → Event
getpgrp pid = call pid (number_of Syscall.Getpgrp) 0 0 0

-- setsid(2)
abbrev pub setsid : ℕ → Event
setsid pid = call pid (number_of Syscall.Setsid) 0 0 0

-- setresuid(2)
abbrev pub setresuid : ℕ → ℕ → ℕ → ℕ → Event
setresuid pid real effective saved = call pid (number_of Syscall.Setresuid) real effective saved

-- getresuid(2)
abbrev pub getresuid : ℕ → Event
getresuid pid = call pid (number_of Syscall.Getresuid) 0 0 0

-- getpgid(2)
abbrev pub getpgid : ℕ → ℕ → Event
getpgid pid target = call pid (number_of Syscall.Getpgid) target 0 0

-- getsid(2)
abbrev pub getsid : ℕ → ℕ → Event
getsid pid target = call pid (number_of Syscall.Getsid) target 0 0

-- rt_sigpending: sigpending(2)
abbrev pub sigpending : ℕ → Event
sigpending pid = call pid (number_of Syscall.RtSigpending) 0 0 0

-- prctl(2)
abbrev pub prctl : ℕ → ℕ → ℕ → ℕ → Event
prctl pid option a b = call pid (number_of Syscall.Prctl) option a b

-- exit_group(2)
abbrev pub exit_group : ℕ → ℕ → Event
exit_group pid code = call pid (number_of Syscall.ExitGroup) code 0 0

-- seccomp(2), with the image by its place
abbrev pub seccomp : ℕ → ℕ → ℕ → ℕ → Event
seccomp pid operation flags image = call pid (number_of Syscall.Seccomp) operation flags image

-- ---- answers
-- what a call that was allowed came to
abbrev pub allowed : Outcome → Answer
allowed o = Answer.Call 0x7fff0000 o

-- it returned this number
abbrev pub gives : ℕ → Answer
gives n = allowed (Outcome.Returned (pos n))

-- it returned this error, negated
abbrev pub fails : Errno → Answer
fails e = allowed (Outcome.Returned (neg_ℤ (pos (errno_number e))))

-- it waits
abbrev pub waits : Answer
waits = allowed Outcome.Waits

-- it told a child and its status
abbrev pub told : ℕ → ℕ → Answer
told child status = allowed (Outcome.Told child status)

-- it ended the process with this status
abbrev pub ends : ℕ → Answer
ends status = allowed (Outcome.Ended status)

-- it was execve(2), and another program runs
abbrev pub executed : Answer
executed = allowed Outcome.Executed

-- it told these signals
abbrev pub signals : ℕ → Answer
signals bits = allowed (Outcome.Signals (signals_of bits))

-- a call that SECCOMP_RET_ERRNO refused with this number
abbrev pub refused : ℕ → Answer
refused errno = Answer.Call (0x00050000 + errno) (Outcome.Returned (neg_ℤ (pos errno)))

-- a wait4(2) that waited ends
abbrev pub resumes : Outcome → Answer
resumes o = Answer.Resumed o

-- it ends with this error, negated
abbrev pub resumes_failing : Errno → Answer
resumes_failing e = Answer.Resumed (Outcome.Returned (neg_ℤ (pos (errno_number e))))

-- signal n came to this
abbrev pub delivers : ℕ → Effect → Answer
delivers n what = Answer.Signal n what

-- signal n began this handler
abbrev pub handles : ℕ → ℕ → Answer
handles n program = Answer.Signal n (Effect.Handler program false)

-- signal n began this handler, and ended a call that the process waited in
abbrev pub interrupts : ℕ → ℕ → Answer
interrupts n program = Answer.Signal n (Effect.Handler program true)

-- a fault ended the process
abbrev pub crashes : Answer
crashes = Answer.Crashed

-- the event is not possible, for this reason
abbrev pub not_now : Reason → Answer
not_now reason = Answer.NotNow reason

-- ---- runs
abbrev pub events_of : List Happening → List Event
events_of lines = map (λ line. line.0) lines

-- in this world the events of the lines, one after the other, have the answers beside them
abbrev pub Runs : Images → World → List Happening → Type 0
Runs declared w lines = answers_of declared w (events_of lines) ≡ map (λ line. line.1) lines

-- the world after the lines
abbrev pub after : Images → World → List Happening → World
after declared w lines = world_after declared w (events_of lines)
