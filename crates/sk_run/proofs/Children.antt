-- The pid of a child is one that there may be.
use Rattle.std.proofs.Common.{◌≡◌, ℕ, zero, suc, ◌-◌, ◌≤◌, ◌==◌, pos, neg_ℤ, IsTrue, IfOk, IfSome, Option, Some, None, Result, Ok, Err, sym, ap, subst, arith}
use Rattle.std.proofs.lemmas.Bool.{cond_both, eqb-true}
use Rattle.std.proofs.lemmas.Bool.Decides.{nat_tests}
use Rattle.sk_world.specs.declared.errno.Errno.{Errno}
use Rattle.sk_world.specs.declared.errno.Errno.TheVariants.{Eagain, Enosys}
use Rattle.sk_world.specs.Errno.{number_of as errno_number}
use Rattle.sk_insn.specs.declared.record.Record.{Record}
use Rattle.sk_insn.specs.declared.action.Action.{Action}
use Rattle.sk_insn.specs.declared.action.Action.TheVariants as action
use Rattle.sk_insn.specs.Actions.{action_of}
use Rattle.sk_filter.specs.Verdict.{verdict_of}
use Rattle.sk_names.specs.declared.syscall.Syscall.{Syscall}
use Rattle.sk_names.specs.declared.syscall.Syscall.TheVariants as syscall
use Rattle.sk_names.specs.Syscalls.{syscall_of, number_of}
use Rattle.sk_world.specs.declared.process.TheConstants.{LAST_PID}
use Rattle.sk_world.specs.declared.process.Body.{Body}
use Rattle.sk_world.specs.declared.process.Proc.{Proc}
use Rattle.sk_world.specs.World.{World, at}
use Rattle.sk_world.specs.Numbers.{is_used, next_number, free_from, fresh_of}
use Rattle.sk_world.specs.Forking.{has_room, fork_answer}
use Rattle.sk_machine.specs.declared.event.Event.{Event}
use Rattle.sk_machine.specs.declared.event.Event.TheVariants.{Call, Deliver, Resume, Fault}
use Rattle.sk_machine.specs.declared.answer.Outcome.TheVariants.{Returned}
use Rattle.sk_machine.specs.declared.answer.Reason.{Reason}
use Rattle.sk_machine.specs.Images.{Images}
use Rattle.sk_machine.specs.Performing.{forks, row}
use Rattle.sk_machine.specs.Events.{pid_of, recorded}
use Rattle.sk_machine.specs.Machine.{judged, reason_of, happened_to, stepped, step_of}
use Rattle.sk_run.specs.Levels.{pid_in}
use Rattle.sk_run.specs.views.Stacks.{is_fork, ChildIsLow}

-- ---- the next free number

next_low : (n : ℕ) → next_number n ≤ LAST_PID
next_low n = grind (arith, nat_tests)

free_low : (more : ℕ) (w : World) (n : ℕ) → n ≤ LAST_PID → free_from more w n ≤ LAST_PID
free_low zero w n low = low
free_low (suc more) w n low =
    cond_both (is_used w n) (free_from more w (next_number n)) n (λ m. m ≤ LAST_PID) (λ _. free_low more w (next_number n) (next_low n)) (λ _. low)

fresh_low : (w : World) → fresh_of w ≤ LAST_PID
unfolding fresh_of
fresh_low w = free_low (LAST_PID - 1) w (next_number w.last) (next_low w.last)

-- ---- what a fork answers

-- this pid, if there is one, is one that there may be
abbrev IsLow : Option ℕ → Type 0
IsLow child = IfSome child (λ pid. pid ≤ LAST_PID)

-- a negated error is no pid
no_child : (error : ℕ) → IsLow (pid_in (Returned (neg_ℤ (pos error))))
no_child zero = tt
no_child (suc error) = tt

forks_low : (w : World) (pid : ℕ) (r : Result ℕ Errno) → IfOk r (λ n. n ≤ LAST_PID) → IsLow (pid_in (forks w pid r).outcome)
forks_low w pid (Ok zero) low = tt
forks_low w pid (Ok (suc n)) low = low
forks_low w pid (Err e) low = no_child (errno_number e)

answer_low : (w : World) → IfOk (fork_answer w) (λ n. n ≤ LAST_PID)
answer_low w = cond_both (has_room w) (Ok (fresh_of w)) (Err Eagain) (λ r. IfOk r (λ n. n ≤ LAST_PID)) (λ _. fresh_low w) (λ _. tt)

row_low : (declared : Images) (w : World) (pid : ℕ) (body : Body) (call : Record) (which : Option Syscall) → which ≡ Some syscall.Fork
    → IsLow (pid_in (row declared w pid body which call).outcome)
row_low declared w pid body call which is =
    subst (λ o. IsLow (pid_in (row declared w pid body o call).outcome)) (sym is) (forks_low w pid (fork_answer w) (answer_low w))

judged_low : (declared : Images) (w : World) (pid : ℕ) (body : Body) (call : Record) (verdict : ℕ) (a : Action) → syscall_of call.nr ≡ Some syscall.Fork
    → IsLow (pid_in (judged declared w pid body call verdict a).outcome)
judged_low declared w pid body call verdict action.Allow is = row_low declared w pid body call (syscall_of call.nr) is
judged_low declared w pid body call verdict action.Log is = row_low declared w pid body call (syscall_of call.nr) is
judged_low declared w pid body call verdict action.Trap is = tt
judged_low declared w pid body call verdict action.Errno is = no_child _
judged_low declared w pid body call verdict action.UserNotif is = no_child (errno_number Enosys)
judged_low declared w pid body call verdict action.Trace is = no_child (errno_number Enosys)
judged_low declared w pid body call verdict action.KillProcess is = tt
judged_low declared w pid body call verdict action.KillThread is = tt
judged_low declared w pid body call verdict action.Unknown is = tt

fork_is : (nr : ℕ) → IsTrue (nr == number_of syscall.Fork) → syscall_of nr ≡ Some syscall.Fork
fork_is nr is = ap syscall_of (eqb-true nr (number_of syscall.Fork) is)

happened_low : (declared : Images) (w : World) (event : Event) (o : Option Proc) → IsTrue (is_fork event) → ChildIsLow (happened_to declared w event o).answer
happened_low declared w event None is = tt
happened_low declared w (Call pid ip asked) (Some p) is =
    let call = recorded ip asked in
    let verdict = verdict_of p.body.chain call in
    judged_low declared w pid p.body call verdict (action_of verdict) (fork_is asked.nr is)
happened_low declared w (Deliver pid) (Some p) is = cc
happened_low declared w (Resume pid) (Some p) is = cc
happened_low declared w (Fault pid) (Some p) is = cc

stepped_low : (declared : Images) (w : World) (event : Event) (reason : Option Reason) → IsTrue (is_fork event) → ChildIsLow (stepped declared w event reason).answer
stepped_low declared w event (Some reason) is = tt
stepped_low declared w event None is = happened_low declared w event (at w (pid_of event)) is

-- the child of a fork has a pid that there may be
pub child_is_low : (declared : Images) (w : World) (event : Event) → IsTrue (is_fork event) → ChildIsLow (step_of declared w event).answer
unfolding step_of
child_is_low declared w event is = stepped_low declared w event (reason_of w event) is
