-- What an event leaves of a process that it is not meant to touch.
use Rattle.std.proofs.Common.{◌≡◌, ◌≢◌, ◌∙◌, ℕ, ℤ, ◌==◌, ◌&&◌, ◌||◌, arith, ap, sym, refl, subst, cond, not, Bool, true, false, length, IsTrue, List, [], ◌∷◌, ◌++◌, Option, None, Some, Result, Ok, Err, IfSome}
use Rattle.std.specs.Prelude.{filter}
use Rattle.sk_laws.specs.Common.{is_some, option_map, option_and_then, list_all, result_and, is_negative, Record, IsNative, Action, action_of, performs, verdict_of, Errno, Eperm, Esrch, Eagain, Eacces, Einval, SIGHUP, SIGKILL, SIGSEGV, SIGCHLD, SIGCONT, SIGSYS, FRAMES, DefaultAction, Disposition, Signals, default_action, is_tty_stop, SignalState, disposition_of, INIT, Body, Proc, Waiting, Request, Poll, World, at, is_alive, is_child_of, is_member_of, is_stopped, parent_of, stored, body_changed, changed, relinked, IsWorld, fresh_of, has_room, forked, signalled, generated_at, sent, sent_to_each, new_parent, ignores_children, handed_on, with_children_handed_on, has_zombie_child, reparented, zombie, left_to_parent, ended, is_no_hang, is_match, status_of, ready_of, told, PROCESSES, count, pids, is_living_member, is_orphaned, has_stopped_member, is_left_orphaned, groups, sent_to_group, hung_up, each_hung_up, ended_and_hung_up, group_of, pid_named, session_of, has_executed, is_group, is_group_of_session, links_in_group, links_of_leader, may_move_child, may_join, put_into_group, regrouped, after_setpgid, after_setsid, Event, Call, Deliver, Resume, Fault, Syscall, pid_of, recorded, Images, syscall_of, register, unsigned, signed, Authority, with_authority, Performed, returns, fails, asked, changes, authorises, waiting_in, waits, with_signals, resignals, are_wait_options, request_of, polled, wait4, polled_again, resumed, executing, execve, forks, subreaper_set, subreaper_asked, where_subreapers, with_subreaper, row, Delivered, signal_for, terminated_by, in_handler, enters_handler, stopping, ignored, acts_by_default, acts_by_disposition, taking, acted_on, delivered, stopped_by, Stepped, judged, happened}
use Rattle.sk_world.proofs.Common.{ints, false≢true, cond_both, eqb-true, eq-eqb, ne_eqb, not-false, and_parts, and_from, eqb-false, false_from_ne_true, ltb-true}
use Rattle.sk_world.specs.declared.disposition.DefaultAction.TheVariants as default
use Rattle.sk_world.proofs.Stored.{everywhere, at_here, at_other}
use Rattle.sk_world.proofs.KeptEnd.{handed_cases, handed_at}
use Rattle.sk_world.proofs.KeptTold.{match_parent}
use Rattle.sk_laws.proofs.Locality.{forced_touches, told_touches, forked_touches}
use Rattle.sk_world.proofs.Telling.{ready_lowest}
use Rattle.sk_world.proofs.Fresh.{fresh_absent}
use Rattle.sk_names.proofs.SyscallTable.{number_of-syscall_of}
use Rattle.sk_laws.specs.ConfinementLaws.{RefusesKill, after_signals, is_of_stop, is_of_end, becomes_orphaned, IsTold, IsConfined, is_end, is_end_by_signal, is_stop, ends, stops, EventIsConfined}
use Rattle.sk_machine.proofs.HangingUp.{each_hung_up_by}
use Rattle.sk_laws.proofs.LeftOrphaned.{AreAlike, alike_still, alike_twice, alike_sent, alike_changed, orphaned_alike, StopsNobody, stopped_group, changed_stops, ended_stops}
use Rattle.sk_laws.proofs.Growing.{lets_through}
use Rattle.sk_laws.proofs.EachCall.{is_kill_row, each_call}
use Rattle.sk_laws.proofs.Happened.{at_step, at_delivery}
use Rattle.sk_laws.proofs.LineageSteps.{authority_in}

-- ---- which call is a kill
only_kill : (o : Option Syscall) → is_kill_row o ≡ true → o ≡ Some Syscall.Kill
only_kill (Some Syscall.Kill) is = refl
only_kill other is = absurd (false≢true is)

kill_number_else : (nr : ℕ) → (nr == 62) ≡ false → is_kill_row (syscall_of nr) ≡ false
kill_number_else nr other =
    false_from_ne_true (is_kill_row (syscall_of nr)) (λ is. eqb-false nr 62 other (number_of-syscall_of nr Syscall.Kill (only_kill (syscall_of nr) is)))

kill_number : (nr : ℕ) → is_kill_row (syscall_of nr) ≡ (nr == 62)
kill_number nr =
    elim (nr == 62) as (λ b. (nr == 62) ≡ b → is_kill_row (syscall_of nr) ≡ b) [
      | true ↦ λ is. ap (λ n. is_kill_row (syscall_of n)) (eqb-true nr 62 is)
      | false ↦ λ is. kill_number_else nr is
    ] refl

-- ---- the signals of an end
after_more : (init : Bool) (xs ys : List ℕ) (body : Body) → after_signals init (xs ++ ys) body ≡ after_signals init ys (after_signals init xs body)
after_more init [] ys body = refl
after_more init (x ∷ xs) ys body = after_more init xs ys (signalled x init body)

changed_twice : (f g h : Body → Body) → ((body : Body) → h body ≡ g (f body)) → (o : Option Proc) → option_map (body_changed g) (option_map (body_changed f) o) ≡ option_map (body_changed h) o
changed_twice f g h same None = refl
changed_twice f g h same (Some p) = ap (λ body. Some (record p { body = body })) (sym (same p.body))

all_more : (p : ℕ → Bool) (xs ys : List ℕ) → IsTrue (list_all p xs) → IsTrue (list_all p ys) → IsTrue (list_all p (xs ++ ys))
all_more p [] ys first later = later
all_more p (x ∷ xs) ys first later =
    let both = and_parts (p x) (list_all p xs) first in
    and_from (p x) (list_all p (xs ++ ys)) both.0 (all_more p xs ys both.1 later)

all_pass : (p r : ℕ → Bool) (xs : List ℕ) → ((n : ℕ) → IsTrue (p n) → IsTrue (r n)) → IsTrue (list_all p xs) → IsTrue (list_all r xs)
all_pass p r [] more all = refl
all_pass p r (x ∷ xs) more all =
    let both = and_parts (p x) (list_all p xs) all in
    and_from (r x) (list_all r xs) (more x both.0) (all_pass p r xs more both.1)

unchanged : (o : Option Proc) → o ≡ option_map (body_changed (λ body. body)) o
unchanged None = refl
unchanged (Some p) = refl

told_nothing : (p : ℕ → Bool) (q : ℕ) (before now : Option Proc) → now ≡ before → IsTold p q before now
told_nothing p q before now is = ([], refl, is ∙ unchanged before)

told_twice : (p : ℕ → Bool) (q : ℕ) (a b c : Option Proc) → IsTold p q a b → IsTold p q b c → IsTold p q a c
told_twice p q a b c (xs, all, is) (ys, more, later) = (
  xs ++ ys,
  all_more p xs ys all more,
  later ∙ ap (option_map (body_changed (after_signals (q == INIT) ys))) is
      ∙ changed_twice (after_signals (q == INIT) xs) (after_signals (q == INIT) ys) (after_signals (q == INIT) (xs ++ ys)) (after_more (q == INIT) xs ys) a,
)

-- what passes a test passes a wider one
told_by_more : (p r : ℕ → Bool) (q : ℕ) (before now : Option Proc) → ((n : ℕ) → IsTrue (p n) → IsTrue (r n)) → IsTold p q before now → IsTold r q before now
told_by_more p r q before now more (xs, all, is) = (xs, all_pass p r xs more all, is)

-- signals change no links
told_member : (p : ℕ → Bool) (q group : ℕ) (before now : Option Proc) → IsTold p q before now → is_member_of group now ≡ is_member_of group before
told_member p q group before now (xs, all, is) = ap (is_member_of group) is ∙ seen (after_signals (q == INIT) xs) before
  where
    seen : (f : Body → Body) (o : Option Proc) → is_member_of group (option_map (body_changed f) o) ≡ is_member_of group o
    seen f None = refl
    seen f (Some p) = refl

generated_told : (p : ℕ → Bool) (v : World) (k n q : ℕ) → (q ≡ k → IsTrue (p n)) → IsTold p q (at v q) (at (generated_at v k n) q)
generated_told p v k n q =
    everywhere v k (option_map (body_changed (signalled n (k == INIT))) (at v k)) (λ m x. (m ≡ k → IsTrue (p n)) → IsTold p m (at v m) x)
    (λ may. (n ∷ [], and_from (p n) true (may refl) refl, refl)) (λ m ne _. told_nothing p m (at v m) (at v m) refl) q

-- a signal that may come to a process if it is sent to it; SIGCHLD may come to each
sent_told : (p : ℕ → Bool) (v : World) (k n q : ℕ) → IsTrue (p SIGCHLD) → (q ≡ k → IsTrue (p n)) → IsTold p q (at v q) (at (sent v k n) q)
sent_told p v k n q child may =
    let once : World = generated_at v k n in
    cond_both ((n == SIGCONT) && is_stopped (at v k)) (generated_at once (parent_of (at v k)) SIGCHLD) once (λ x. IsTold p q (at v q) (at x q))
    (λ _. told_twice p q (at v q) (at once q) (at (generated_at once (parent_of (at v k)) SIGCHLD) q) (generated_told p v k n q may) (generated_told p once (parent_of (at v k)) SIGCHLD q (λ _. child)))
    (λ _. generated_told p v k n q may)

each_told : (p : ℕ → Bool) (v : World) (meant : ℕ → Bool) (to : List ℕ) (n q : ℕ) → IsTrue (p SIGCHLD) → (IsTrue (meant q) → IsTrue (p n)) → IsTold p q (at v q) (at (sent_to_each v (filter meant to) n) q)
each_told p v meant [] n q child may = told_nothing p q (at v q) (at v q) refl
each_told p v meant (k ∷ rest) n q child may =
    cond_both (meant k) (k ∷ filter meant rest) (filter meant rest) (λ xs. IsTold p q (at v q) (at (sent_to_each v xs n) q))
    (λ is. told_twice p q (at v q) (at (sent v k n) q) (at (sent_to_each (sent v k n) (filter meant rest) n) q)
    (sent_told p v k n q child (λ same. may (ap meant same ∙ is))) (each_told p (sent v k n) meant rest n q child may))
    (λ _. each_told p v meant rest n q child may)

group_told : (p : ℕ → Bool) (v : World) (group n q : ℕ) → IsTrue (p SIGCHLD) → (IsTrue (is_member_of group (at v q)) → IsTrue (p n)) → IsTold p q (at v q) (at (sent_to_group v group n) q)
group_told p v group n q child may =
    each_told p v (λ pid. is_living_member group (at v pid)) (pids v.procs) n q child (λ is. may (and_parts (is_alive (at v q)) (is_member_of group (at v q)) is).1)

hung_told : (p : ℕ → Bool) (v : World) (group q : ℕ) → IsTrue (p SIGCHLD) → (IsTrue (is_member_of group (at v q)) → IsTrue (p SIGHUP) × IsTrue (p SIGCONT)) → IsTold p q (at v q) (at (hung_up v group) q)
hung_told p v group q child may =
    let first : World = sent_to_group v group SIGHUP in
    let once : IsTold p q (at v q) (at first q) = group_told p v group SIGHUP q child (λ is. (may is).0) in
    told_twice p q (at v q) (at first q) (at (hung_up v group) q) once
    (group_told p first group SIGCONT q child (λ is. (may (sym (told_member p q group (at v q) (at first q) once) ∙ is)).1))

-- of the groups that pass a test only those that the process is in bring it more than SIGCHLD
groups_told : (p : ℕ → Bool) (v : World) (chosen : ℕ → Bool) (groups : List ℕ) (q : ℕ) → IsTrue (p SIGCHLD)
    → ((group : ℕ) → IsTrue (chosen group) → IsTrue (is_member_of group (at v q)) → IsTrue (p SIGHUP) × IsTrue (p SIGCONT)) → IsTold p q (at v q) (at (each_hung_up v (filter chosen groups)) q)
groups_told p v chosen [] q child may = told_nothing p q (at v q) (at v q) refl
groups_told p v chosen (group ∷ rest) q child may =
    cond_both (chosen group) (group ∷ filter chosen rest) (filter chosen rest) (λ gs. IsTold p q (at v q) (at (each_hung_up v gs) q))
    (λ is.
    let once : IsTold p q (at v q) (at (hung_up v group) q) = hung_told p v group q child (may group is) in
    told_twice p q (at v q) (at (hung_up v group) q) (at (each_hung_up (hung_up v group) (filter chosen rest)) q) once
    (groups_told p (hung_up v group) chosen rest q child (λ g left member. may g left (sym (told_member p q g (at v q) (at (hung_up v group) q) once) ∙ member))))
    (λ _. groups_told p v chosen rest q child may)

-- ---- how two processes stand to each other
-- process q is another one than pid, and no child of it; and pid is not process 1
record IsApart (w : World) (pid q : ℕ) : Type 0 where
  other : q ≢ pid
  not_init : pid ≢ INIT
  no_child : parent_of (at w q) ≢ pid

stays : (dying parent : ℕ) (leaves_none : Bool) (o : Option Proc) → parent_of o ≢ dying → option_and_then (handed_on dying parent leaves_none) o ≡ o
stays dying parent leaves_none None other = refl
stays dying parent leaves_none (Some p) other = handed_cases dying parent leaves_none p (λ x. x ≡ Some p) (λ _. refl) (λ is _. absurd (other is)) (λ is. absurd (other is))

-- an end by itself sends others SIGCHLD alone
ended_told : (p : ℕ → Bool) (w : World) (pid status q : ℕ) → IsTrue (p SIGCHLD) → IsApart w pid q → IsTold p q (at w q) (at (ended w pid status) q)
ended_told p w pid status q child apart =
    let heir : ℕ = new_parent w pid in
    let handed : World = with_children_handed_on w pid in
    let same : at handed q ≡ at w q = handed_at w pid q ∙ stays pid heir (ignores_children (at w heir)) (at w q) apart.no_child in
    let after : World = reparented w pid in
    let parent : ℕ = parent_of (at after pid) in
    let once : IsTold p q (at w q) (at after q) =
    cond_both (has_zombie_child w pid && not (ignores_children (at w heir))) (sent handed heir SIGCHLD) handed (λ v. IsTold p q (at w q) (at v q))
    (λ _. told_twice p q (at w q) (at handed q) (at (sent handed heir SIGCHLD) q) (told_nothing p q (at w q) (at handed q) same) (sent_told p handed heir SIGCHLD q child (λ _. child)))
    (λ _. told_nothing p q (at w q) (at handed q) same) in
    let dead : World = changed after pid (zombie status) in
    cond_both (pid == INIT) (changed w INIT _) (left_to_parent after pid status) (λ v. IsTold p q (at w q) (at v q)) (λ is. absurd (apart.not_init (eqb-true pid INIT is)))
    (λ _. cond_both (ignores_children (at after parent)) (stored after pid None) (sent dead parent SIGCHLD) (λ v. IsTold p q (at w q) (at v q))
    (λ _. subst (IsTold p q (at w q)) (sym (at_other after pid None q apart.other)) once)
    (λ _. told_twice p q (at w q) (at dead q) (at (sent dead parent SIGCHLD) q) (subst (IsTold p q (at w q)) (sym (at_other after pid _ q apart.other)) once) (sent_told p dead parent SIGCHLD q child (λ _. child))))

group_is : (group : ℕ) (o : Option Proc) → IsTrue (is_member_of group o) → group_of o ≡ group
group_is group None is = absurd (false≢true is)
group_is group (Some p) is = eqb-true p.links.group group is

-- a group that an end leaves orphaned has become so after all that is sent
orphaned_then : (w : World) (pid status group : ℕ) (left : List ℕ) → pid ≢ INIT → IsTrue (is_left_orphaned w (ended w pid status) group)
    → IsTrue (becomes_orphaned w (each_hung_up (ended w pid status) left) group)
orphaned_then w pid status group left other is =
    let after : World = ended w pid status in
    let both = and_parts (not (is_orphaned w group) && is_orphaned after group) (has_stopped_member after group) is in
    let first = and_parts (not (is_orphaned w group)) (is_orphaned after group) both.0 in
    let alike : AreAlike after (each_hung_up after left) = each_hung_up_by AreAlike alike_still alike_twice alike_sent after left in
    and_from (not (is_orphaned w group) && is_orphaned (each_hung_up after left) group) (has_stopped_member w group)
    (and_from (not (is_orphaned w group)) (is_orphaned (each_hung_up after left) group) first.0 (orphaned_alike after (each_hung_up after left) alike group first.1))
    (stopped_group w after group (ended_stops w pid status other) both.1)

end_told : (w : World) (pid status q : ℕ) → IsApart w pid q
    → IsTold (is_of_end (becomes_orphaned w (ended_and_hung_up w pid status) (group_of (at w q)))) q (at w q) (at (ended_and_hung_up w pid status) q)
end_told w pid status q apart =
    let after : World = ended w pid status in
    let left : List ℕ = filter (is_left_orphaned w after) (groups after) in
    let last : World = each_hung_up after left in
    let p : ℕ → Bool = is_of_end (becomes_orphaned w last (group_of (at w q))) in
    let once : IsTold p q (at w q) (at after q) = ended_told p w pid status q refl apart in
    cond_both (pid == INIT) after last (λ v. IsTold (is_of_end (becomes_orphaned w v (group_of (at w q)))) q (at w q) (at v q)) (λ is. absurd (apart.not_init (eqb-true pid INIT is)))
    (λ _. told_twice p q (at w q) (at after q) (at last q) once
    (groups_told p after (is_left_orphaned w after) (groups after) q refl (λ group is member.
    let mine : group_of (at w q) ≡ group = group_is group (at w q) (sym (told_member p q group (at w q) (at after q) once) ∙ member) in
    let orphaned : becomes_orphaned w last (group_of (at w q)) ≡ true = ap (becomes_orphaned w last) mine ∙ orphaned_then w pid status group left apart.not_init is in
    (ap (λ b. is_of_end b SIGHUP) orphaned, ap (λ b. is_of_end b SIGCONT) orphaned))))

-- a group that has become orphaned has so from an earlier world too, if the same groups were orphaned there, and the
-- same processes stopped
becomes_before : (v w after : World) (group : ℕ) → AreAlike v w → StopsNobody v w → IsTrue (becomes_orphaned w after group) → IsTrue (becomes_orphaned v after group)
becomes_before v w after group alike stops is =
    let both = and_parts (not (is_orphaned w group) && is_orphaned after group) (has_stopped_member w group) is in
    let first = and_parts (not (is_orphaned w group)) (is_orphaned after group) both.0 in
    and_from (not (is_orphaned v group) && is_orphaned after group) (has_stopped_member v group)
    (and_from (not (is_orphaned v group)) (is_orphaned after group) (held (is_orphaned v group) (is_orphaned w group) (orphaned_alike v w alike group) first.0) first.1)
    (stopped_group v w group stops both.1)
  where
    held : (a b : Bool) → (IsTrue a → IsTrue b) → IsTrue (not b) → IsTrue (not a)
    held true b then not_b = absurd (false≢true (sym (ap not (then refl)) ∙ not_b))
    held false b then not_b = refl

of_end_more : (a b : Bool) (n : ℕ) → (IsTrue a → IsTrue b) → IsTrue (is_of_end a n) → IsTrue (is_of_end b n)
of_end_more true b n more passes = subst (λ x. IsTrue (is_of_end x n)) (sym (more refl)) passes
of_end_more false true n more passes = or_more (n == SIGCHLD) ((n == SIGHUP) || (n == SIGCONT)) passes
  where
    or_more : (x y : Bool) → IsTrue (x || false) → IsTrue (x || y)
    or_more true y is = refl
    or_more false y is = absurd (false≢true is)
of_end_more false false n more passes = passes

-- ---- calls
-- what is left of it, by whether process `pid` has ended or stopped
record Alone (w : World) (pid q : ℕ) (ended stopped : Bool) (after : World) : Type 0 where
  same : ended ≡ false → stopped ≡ false → at after q ≡ at w q
  stop : IsTrue stopped → IsTold (is_of_stop (q == parent_of (at w pid))) q (at w q) (at after q)
  end : IsTrue ended → IsTold (is_of_end (becomes_orphaned w after (group_of (at w q)))) q (at w q) (at after q)

untouched : (w : World) (pid q : ℕ) (after : World) → at after q ≡ at w q → Alone w pid q false false after
untouched w pid q after is = record {
  same = λ _ _. is;
  stop = λ no. absurd (false≢true no);
  end = λ no. absurd (false≢true no);
}

abbrev Spares : World → ℕ → ℕ → Performed → Type 0
Spares w pid q p = Alone w pid q (is_end p.outcome) false p.world

spares_changed : (w : World) (pid q : ℕ) (f : Body → Body) → q ≢ pid → Alone w pid q false false (changed w pid f)
spares_changed w pid q f ne = untouched w pid q (changed w pid f) (at_other w pid _ q ne)

spares_world : (w : World) (pid q : ℕ) → Alone w pid q false false w
spares_world w pid q = untouched w pid q w refl

spares_resignals : (w : World) (pid q : ℕ) (r : Result SignalState Errno) → q ≢ pid → Spares w pid q (resignals w pid r)
spares_resignals w pid q (Ok s) ne = spares_changed w pid q (with_signals s) ne
spares_resignals w pid q (Err e) ne = spares_world w pid q

spares_authorises : (w : World) (pid q : ℕ) (r : Result Authority Errno) → q ≢ pid → Spares w pid q (authorises w pid r)
spares_authorises w pid q (Ok a) ne = spares_changed w pid q (with_authority a) ne
spares_authorises w pid q (Err e) ne = spares_world w pid q

spares_execve : (w : World) (pid q : ℕ) (r : Result Authority Errno) → q ≢ pid → Spares w pid q (execve w pid r)
spares_execve w pid q (Ok a) ne = spares_changed w pid q (executing a) ne
spares_execve w pid q (Err e) ne = spares_world w pid q

spares_asked : (w : World) (pid q : ℕ) (r : Result ℕ Errno) → Spares w pid q (asked w r)
spares_asked w pid q (Ok n) = spares_world w pid q
spares_asked w pid q (Err e) = spares_world w pid q

spares_forks : (w : World) (pid q : ℕ) (b : Bool) → has_room w ≡ b → IsWorld w → IsTrue (is_some (at w q)) → Spares w pid q (forks w pid (cond b (Ok (fresh_of w)) (Err Eagain)))
spares_forks w pid q true room rules there =
    let free : at w (fresh_of w) ≡ None = fresh_absent w (ltb-true (count w.procs) PROCESSES room) rules.last.0 in
    untouched w pid q (forked w pid) (forked_touches w pid q (λ is. false≢true (sym (ap is_some (ap (at w) is ∙ free)) ∙ there)))
spares_forks w pid q false room rules there = spares_world w pid q

-- the child that is told of is another one
child_told : (w : World) (pid q child status : ℕ) (request : Request) → IsApart w pid q → ready_of w pid request ≡ Poll.Told child status → at (told w (Poll.Told child status)) q ≡ at w q
child_told w pid q child status request apart ready =
    let is = (ready_lowest w pid request child status ready).0 in
    let parent : parent_of (at w child) ≡ pid = match_parent pid request child (at w child) (and_parts (is_match pid request child (at w child)) (is_some (status_of request.options (at w child))) is).0 in
    told_touches w child status q (λ same. apart.no_child (ap (λ k. parent_of (at w k)) same ∙ parent))

spares_polled : (w : World) (pid q : ℕ) (request : Request) (p : Poll) → IsApart w pid q → ready_of w pid request ≡ p → Spares w pid q (polled w pid request p)
spares_polled w pid q request (Poll.Told child status) apart ready = untouched w pid q _ (child_told w pid q child status request apart ready)
spares_polled w pid q request Poll.NoMatch apart ready = spares_world w pid q
spares_polled w pid q request Poll.NotReady apart ready =
    cond_both (is_no_hang request.options) (returns w 0) (waits w pid (Waiting.Asks request)) (Spares w pid q) (λ _. spares_world w pid q)
    (λ _. spares_changed w pid q (waiting_in (Waiting.Asks request)) apart.other)

spares_wait4 : (w : World) (pid q : ℕ) (call : Record) → IsApart w pid q → Spares w pid q (wait4 w pid call)
spares_wait4 w pid q call apart =
    cond_both (not (are_wait_options (unsigned call 2))) (fails w Einval) _ (Spares w pid q) (λ _. spares_world w pid q)
    (λ _. cond_both (unsigned call 0 == 2147483648) (fails w Esrch) _ (Spares w pid q) (λ _. spares_world w pid q)
    (λ _. spares_polled w pid q (request_of w pid call) (ready_of w pid (request_of w pid call)) apart refl))

child_parent : (caller : ℕ) (o : Option Proc) → IsTrue (is_child_of caller o) → parent_of o ≡ caller
child_parent caller None is = absurd (false≢true is)
child_parent caller (Some p) is = eqb-true p.links.parent caller is

spares_joined : (w : World) (pid q target group : ℕ) → q ≢ target → Spares w pid q (changes w 0 (put_into_group w target group (may_join w pid target group)))
spares_joined w pid q target group ne =
    let P : Result (Unit {0}) Errno → Type 0 = λ r. Spares w pid q (changes w 0 (put_into_group w target group r)) in
    cond_both (session_of (at w target) == target) (Err Eperm) _ P (λ _. spares_world w pid q) (λ _.
    cond_both (not (group == target) && not (is_group_of_session w (session_of (at w pid)) group)) (Err Eperm) (Ok tt) P (λ _. spares_world w pid q) (λ _.
    untouched w pid q (relinked w target (links_in_group group)) (at_other w target _ q ne)))

spares_regrouped : (w : World) (pid q target group : ℕ) → IsApart w pid q → Spares w pid q (changes w 0 (regrouped w pid target group))
spares_regrouped w pid q target group apart =
    let joined : Result (Unit {0}) Errno = may_join w pid target group in
    let P : Result (Unit {0}) Errno → Type 0 = λ r. Spares w pid q (changes w 0 (put_into_group w target group r)) in
    let Q : Result (Unit {0}) Errno → Type 0 = λ r. P (result_and r joined) in
    cond_both (target == pid) joined (result_and (may_move_child w pid target) joined) P
    (λ mine. spares_joined w pid q target group (λ is. apart.other (is ∙ eqb-true target pid mine)))
    (λ _. cond_both (not (is_child_of pid (at w target))) (Err Esrch) _ Q (λ _. spares_world w pid q) (λ known.
    let child : IsTrue (is_child_of pid (at w target)) = not-false (is_child_of pid (at w target)) known in
    let ne : q ≢ target = λ is. apart.no_child (ap (λ k. parent_of (at w k)) is ∙ child_parent pid (at w target) child) in
    cond_both (not (session_of (at w target) == session_of (at w pid))) (Err Eperm) _ Q (λ _. spares_world w pid q) (λ _.
    cond_both (has_executed (at w target)) (Err Eacces) (Ok tt) Q (λ _. spares_world w pid q) (λ _. spares_joined w pid q target group ne))))

spares_setpgid : (w : World) (pid q : ℕ) (who group : ℤ) → IsApart w pid q → Spares w pid q (changes w 0 (after_setpgid w pid who group))
spares_setpgid w pid q who group apart =
    cond_both (is_negative group) (Err Einval) (regrouped w pid (pid_named pid who) (pid_named (pid_named pid who) group)) (λ r. Spares w pid q (changes w 0 r)) (λ _. spares_world w pid q)
    (λ _. spares_regrouped w pid q (pid_named pid who) (pid_named (pid_named pid who) group) apart)

spares_setsid : (w : World) (pid q : ℕ) → q ≢ pid → Spares w pid q (changes w pid (after_setsid w pid))
spares_setsid w pid q ne =
    let leading : World = relinked w pid (links_of_leader pid) in
    cond_both (is_group w pid) (Err Eperm) (Ok leading) (λ r. Spares w pid q (changes w pid r)) (λ _. spares_world w pid q) (λ _. untouched w pid q leading (at_other w pid _ q ne))

spares_subreapers : (there : Bool) (w : World) (pid q : ℕ) (p : Performed) → Spares w pid q p → Spares w pid q (where_subreapers there w p)
spares_subreapers true w pid q p spares = spares
spares_subreapers false w pid q p spares = spares_world w pid q

spares_ends : (w : World) (pid status q : ℕ) → IsApart w pid q → Alone w pid q true false (ended_and_hung_up w pid status)
spares_ends w pid status q apart = record {
  same = λ no _. absurd (false≢true (sym no));
  stop = λ no. absurd (false≢true no);
  end = λ _. end_told w pid status q apart;
}

-- every call but kill(2)
spares_row : (declared : Images) (w : World) (pid q : ℕ) (body : Body) (which : Option Syscall) (call : Record) → IsWorld w → IsApart w pid q
    → IsTrue (is_some (at w q)) → is_kill_row which ≡ false → Spares w pid q (row declared w pid body which call)
spares_row declared w pid q body which call rules apart there other =
    each_call declared w pid body call (λ facts p. facts.is_kill ≡ false → Spares w pid q p) (record {
      answers = λ r _. spares_asked w pid q r;
      tells_signals = λ _ _. spares_world w pid q;
      tells_ids = λ _. spares_world w pid q;
      resignals = λ r _. spares_resignals w pid q r apart.other;
      authorises = λ r _. spares_authorises w pid q r apart.other;
      executes = λ r _. spares_execve w pid q r apart.other;
      marks = λ _. spares_subreapers declared.subreapers w pid q (subreaper_set w pid call) (spares_changed w pid q (with_subreaper (not (register call 1 == 0))) apart.other);
      asks_mark = λ _. spares_subreapers declared.subreapers w pid q (subreaper_asked w body.subreaper) (spares_world w pid q);
      pauses = λ _. spares_changed w pid q (waiting_in Waiting.Pause) apart.other;
      waits_for = λ _. spares_wait4 w pid q call apart;
      forks_one = λ _. spares_forks w pid q (has_room w) refl rules there;
      ends = λ status _. spares_ends w pid status q apart;
      kills = λ other. absurd (false≢true (sym other));
      regroups = λ _. spares_setpgid w pid q (signed call 0) (signed call 1) apart;
      leads = λ _. spares_setsid w pid q apart.other;
    }) which other

spares_judged : (declared : Images) (w : World) (pid q : ℕ) (body : Body) (call : Record) (verdict : ℕ) (a : Action) → IsWorld w → IsApart w pid q
    → IsTrue (is_some (at w q))
    → (IsTrue (performs a) → is_kill_row (syscall_of call.nr) ≡ false) → Spares w pid q (judged declared w pid body call verdict a)
spares_judged declared w pid q body call verdict Action.Allow rules apart there other = spares_row declared w pid q body (syscall_of call.nr) call rules apart there (other refl)
spares_judged declared w pid q body call verdict Action.Log rules apart there other = spares_row declared w pid q body (syscall_of call.nr) call rules apart there (other refl)
spares_judged declared w pid q body call verdict Action.Trap rules apart there other = untouched w pid q _ (forced_touches w pid q apart.other)
spares_judged declared w pid q body call verdict Action.Errno rules apart there other = spares_world w pid q
spares_judged declared w pid q body call verdict Action.UserNotif rules apart there other = spares_world w pid q
spares_judged declared w pid q body call verdict Action.Trace rules apart there other = spares_world w pid q
spares_judged declared w pid q body call verdict Action.KillProcess rules apart there other = spares_ends w pid SIGSYS q apart
spares_judged declared w pid q body call verdict Action.KillThread rules apart there other = spares_ends w pid SIGSYS q apart
spares_judged declared w pid q body call verdict Action.Unknown rules apart there other = spares_ends w pid SIGSYS q apart

-- ---- deliveries and resumptions
abbrev SparesBy : World → ℕ → ℕ → Delivered → Type 0
SparesBy w pid q d = Alone w pid q (is_end_by_signal d.effect) (is_stop d.effect) d.world

spares_handled : (w : World) (pid : ℕ) (body : Body) (n program : ℕ) (mask : Signals) (q : ℕ) → IsApart w pid q → SparesBy w pid q (enters_handler w pid body n program mask)
spares_handled w pid body n program mask q apart =
    cond_both (length body.signals.frames == FRAMES) (terminated_by w pid SIGSEGV) _ (SparesBy w pid q) (λ _. spares_ends w pid SIGSEGV q apart)
    (λ _. spares_changed w pid q (in_handler n mask) apart.other)

-- a stop sends SIGCHLD to the parent
spares_stop : (w : World) (pid n q : ℕ) → IsApart w pid q → SparesBy w pid q (stopped_by w pid n)
spares_stop w pid n q apart =
    let parent : ℕ = parent_of (at w pid) in
    let stopped : World = changed w pid (stopping n) in
    let after : World = sent stopped parent SIGCHLD in
    let p : ℕ → Bool = is_of_stop (q == parent) in
    record {
      same = λ _ no. absurd (false≢true (sym no));
      stop = λ _. told_twice p q (at w q) (at stopped q) (at after q) (told_nothing p q (at w q) (at stopped q) (at_other w pid _ q apart.other))
          (generated_told p stopped parent SIGCHLD q (λ is. ap (λ b. b && true) (eq-eqb q parent is)));
      end = λ no. absurd (false≢true no);
    }

spares_default : (w : World) (pid n q : ℕ) (a : DefaultAction) → IsApart w pid q → SparesBy w pid q (acts_by_default w pid n a)
spares_default w pid n q default.Ignore apart = spares_world w pid q
spares_default w pid n q default.Continue apart = spares_world w pid q
spares_default w pid n q default.Stop apart =
    cond_both (is_tty_stop n && is_orphaned w (group_of (at w pid))) (ignored w) (stopped_by w pid n) (SparesBy w pid q) (λ _. spares_world w pid q)
    (λ _. spares_stop w pid n q apart)
spares_default w pid n q default.Terminate apart = spares_ends w pid n q apart

spares_done_by : (w : World) (pid : ℕ) (body : Body) (n q : ℕ) (d : Disposition) → IsApart w pid q → SparesBy w pid q (acts_by_disposition w pid body n d)
spares_done_by w pid body n q Disposition.Ignore apart = spares_world w pid q
spares_done_by w pid body n q (Disposition.Handler program mask) apart = spares_handled w pid body n program mask q apart
spares_done_by w pid body n q Disposition.Default apart =
    cond_both ((pid == INIT) && not (n == SIGSYS)) (ignored w) (acts_by_default w pid n (default_action n)) (SparesBy w pid q) (λ _. spares_world w pid q)
    (λ _. spares_default w pid n q (default_action n) apart)

spares_done : (w : World) (pid : ℕ) (body : Body) (n q : ℕ) → IsApart w pid q → SparesBy w pid q (acted_on w pid body n)
spares_done w pid body n q apart =
    cond_both (n == SIGKILL) (terminated_by w pid SIGKILL) _ (SparesBy w pid q) (λ _. spares_ends w pid SIGKILL q apart)
    (λ _. spares_done_by w pid body n q (disposition_of body.signals n) apart)

-- that a signal is pending no more changes nothing for others
spares_taken : (w : World) (pid n q : ℕ) (d : Delivered) → IsApart w pid q → SparesBy (changed w pid (taking n)) pid q d → SparesBy w pid q d
spares_taken w pid n q d apart spares =
    let v : World = changed w pid (taking n) in
    let same : at v q ≡ at w q = at_other w pid _ q apart.other in
    let parent : parent_of (at v pid) ≡ parent_of (at w pid) = ap parent_of (at_here w pid _) ∙ parent_kept (taking n) (at w pid) in
    let alike : AreAlike w v = alike_changed w pid (taking n) (λ body. refl) in
    let now : ℕ → Bool = is_of_end (becomes_orphaned v d.world (group_of (at v q))) in
    let wanted : ℕ → Bool = is_of_end (becomes_orphaned w d.world (group_of (at w q))) in
    let wider : (m : ℕ) → IsTrue (now m) → IsTrue (wanted m) = λ m passes.
    of_end_more (becomes_orphaned v d.world (group_of (at v q))) (becomes_orphaned w d.world (group_of (at w q))) m
    (λ is. becomes_before w v d.world (group_of (at w q)) alike (changed_stops w pid (taking n) (λ body h. h)) (ap (λ o. becomes_orphaned v d.world (group_of o)) (sym same) ∙ is)) passes in
    record {
      same = λ ended stopped. spares.same ended stopped ∙ same;
      stop = λ is. subst (λ o. IsTold (is_of_stop (q == parent_of (at w pid))) q o (at d.world q)) same
          (subst (λ k. IsTold (is_of_stop (q == k)) q (at v q) (at d.world q)) parent (spares.stop is));
      end = λ is. subst (λ o. IsTold wanted q o (at d.world q)) same (told_by_more now wanted q (at v q) (at d.world q) wider (spares.end is));
    }
  where
    parent_kept : (f : Body → Body) (o : Option Proc) → parent_of (option_map (body_changed f) o) ≡ parent_of o
    parent_kept f None = refl
    parent_kept f (Some p) = refl

spares_delivered : (w : World) (pid : ℕ) (body : Body) (n q : ℕ) → IsApart w pid q → SparesBy w pid q (delivered w pid body n)
spares_delivered w pid body n q apart =
    let v : World = changed w pid (taking n) in
    let same : at v q ≡ at w q = at_other w pid _ q apart.other in
    spares_taken w pid n q (acted_on v pid (taking n body) n) apart (spares_done v pid (taking n body) n q (record {
      other = apart.other;
      not_init = apart.not_init;
      no_child = λ is. apart.no_child (ap parent_of (sym same) ∙ is);
    }))

spares_polled_again : (w : World) (pid q : ℕ) (request : Request) (p : Poll) → IsApart w pid q → ready_of w pid request ≡ p → Spares w pid q (polled_again w pid p)
spares_polled_again w pid q request (Poll.Told child status) apart ready =
    untouched w pid q _ (at_other (told w (Poll.Told child status)) pid _ q apart.other ∙ child_told w pid q child status request apart ready)
spares_polled_again w pid q request Poll.NoMatch apart ready = spares_changed w pid q (waiting_in Waiting.Nothing) apart.other
spares_polled_again w pid q request Poll.NotReady apart ready = spares_world w pid q

spares_resumed : (w : World) (pid q : ℕ) (waiting : Waiting) → IsApart w pid q → Spares w pid q (resumed w pid waiting)
spares_resumed w pid q (Waiting.Asks request) apart = spares_polled_again w pid q request (ready_of w pid request) apart refl
spares_resumed w pid q Waiting.Pause apart = spares_world w pid q
spares_resumed w pid q Waiting.Nothing apart = spares_world w pid q

-- ---- events
-- a call that is performed is no kill
no_kill : (body : Body) (call : Record) → IsNative call → RefusesKill body.chain → IsTrue (performs (action_of (verdict_of body.chain call))) → is_kill_row (syscall_of call.nr) ≡ false
no_kill body call is_native refuses performed =
    let verdict : ℕ = verdict_of body.chain call in
    kill_number call.nr ∙ ne_eqb call.nr 62 (λ is.
    let before = refuses call is_native is in
    let later = lets_through verdict performed in
    absurd (omega (arith, ints, before, later)))

abbrev SparesStep : World → ℕ → ℕ → Stepped → Type 0
SparesStep w pid q s = Alone w pid q (ends s.answer) (stops s.answer) s.world

spares_happened : (declared : Images) (w : World) (body : Body) (event : Event) (q : ℕ) → IsWorld w → IsApart w (pid_of event) q → IsTrue (is_some (at w q))
    → RefusesKill body.chain → SparesStep w (pid_of event) q (happened declared w body event)
spares_happened declared w body (Call pid ip asked) q rules apart there refuses =
    let call : Record = recorded ip asked in
    let verdict : ℕ = verdict_of body.chain call in
    spares_judged declared w pid q body call verdict (action_of verdict) rules apart there (no_kill body call refl refuses)
spares_happened declared w body (Deliver pid) q rules apart there refuses = at_delivery w pid body (signal_for body) (SparesStep w pid q) (spares_world w pid q) (λ n. spares_delivered w pid body n q apart)
spares_happened declared w body (Resume pid) q rules apart there refuses = spares_resumed w pid q body.waiting apart
spares_happened declared w body (Fault pid) q rules apart there refuses = spares_ends w pid SIGSEGV q apart

apart_of : (w : World) (inside : ℕ → Bool) (pid q : ℕ) → IsConfined w inside → IsTrue (inside pid) → inside q ≡ false → IsTrue (is_some (at w q)) → IsApart w pid q
apart_of w inside pid q confined within outside there = record {
  other = λ is. false≢true (sym outside ∙ ap inside is ∙ within);
  not_init = λ is. false≢true (sym confined.init ∙ ap inside (sym is) ∙ within);
  no_child = λ is. false≢true (sym outside ∙ confined.children q there (ap inside is ∙ within));
}

pub event_is_confined : EventIsConfined
event_is_confined declared w event inside q rules confined within outside there =
    let pid : ℕ = pid_of event in
    let spares = at_step declared w event (SparesStep w pid q) (λ _ _. spares_world w pid q) (λ p is alive.
    spares_happened declared w p.body event q rules (apart_of w inside pid q confined within outside there) there
    (subst (λ o. IfSome (authority_in o) (λ a. RefusesKill a.filters)) is (confined.refuses pid within))) in
    record { same = spares.same; stop = spares.stop; end = spares.end }
