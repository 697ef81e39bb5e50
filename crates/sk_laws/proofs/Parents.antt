-- Whose child each process is after an event, and that those who come from confined ones are confined.
use Rattle.std.proofs.Common.{◌≡◌, ◌≢◌, ◌∙◌, ℕ, ℤ, zero, suc, ◌+◌, ◌≤◌, ◌==◌, ◌&&◌, ◌⊎◌, ◌<ℤ◌, ◌≤ℤ◌, inl, inr, arith, ap, sym, refl, subst, cond, not, Bool, true, false, length, slice_get, IsTrue, List, [], ◌∷◌, ◌++◌, Option, None, Some, Result, Ok, Err, IfSome}
use Rattle.sk_laws.specs.Common.{is_some, unwrap_or, option_map, option_and_then, find, Insn, Record, Action, action_of, performs, meaning_value, values_of, first_of, verdict_of, IsAtMost, precedence_of, Errno, Eagain, SIGSEGV, SIGCHLD, SIGCONT, SIGSYS, sigsys_forced, INIT, PROCESSES, Links, Zombie, Body, Proc, Waiting, Poll, count, World, at, is_stopped, is_zombie, is_halted, parent_of, stored, body_changed, changed, links_changed, relinked, IsWorld, is_init, fresh_of, has_room, forked, generated_at, sent, forced, is_subreaper, line_up, ancestors, takes_children, new_parent, ignores_children, handed_on, with_children_handed_on, has_zombie_child, reparented, zombie, left_to_parent, ended, without_note, told, Event, Call, Deliver, Resume, Fault, Halted, Syscall, pid_of, recorded, Images, syscall_of, register, unsigned, signed, Authority, with_authority, Performed, authorises, executing, execve, forks, subreaper_set, subreaper_asked, where_subreapers, with_subreaper, row, signal_for, Stepped, judged, happened, reason_of, step_of, world_after, Happening, is_fork, has_returned, is_fork_of, lineage_before, calls_added, lineage_of, authority_after_calls, history_after, authority_at}
use Rattle.sk_world.proofs.Common.{ints, false≢true, cond_both, cond-true, eqb-true, eqb-false, eq-eqb, ne_eqb, and_parts, ltb-true}
use Rattle.sk_filter.specs.Meaning.{meaning_of}
use Rattle.sk_filter.proofs.Verdicts.{first_of-least}
use Rattle.sk_world.proofs.Stored.{everywhere}
use Rattle.sk_world.proofs.Ancestors.{new_parent_by}
use Rattle.sk_world.proofs.KeptEnd.{handed_cases, handed_at, alive_is_there}
use Rattle.sk_laws.proofs.Locality.{forked_touches, forked_child}
use Rattle.sk_world.proofs.Fresh.{fresh_in_range, fresh_absent}
use Rattle.sk_laws.specs.LineageLaws.{happening, lineage_after}
use Rattle.sk_laws.specs.ConfinementLaws.{RefusesKill, IsConfined, ConfinementStays, LineageIsConfined}
use Rattle.sk_laws.proofs.Carrying.{Carries, over_asked, over_changes, over_resignals, over_waits, over_kill, over_setpgid, over_setsid, over_wait4, over_end, over_delivered, over_resumed}
use Rattle.sk_laws.proofs.KeptEvents.{kept_step}
use Rattle.sk_laws.proofs.Unchanged.{impossible_changes_nothing}
use Rattle.sk_laws.proofs.LineageSteps.{fork_number, authority_in, event_changes_authority}
use Rattle.sk_laws.proofs.Growing.{grows_calls}
use Rattle.sk_laws.proofs.Confined.{event_is_confined}
use Rattle.sk_laws.proofs.EachCall.{is_fork_row, each_call}
use Rattle.sk_laws.proofs.Happened.{at_step, at_delivery}

-- ---- whose child a process is
-- a set of processes that has with each one all its children
abbrev IsClosed : World → (ℕ → Bool) → Type 0
IsClosed w inside = (q : ℕ) → IsTrue (is_some (at w q)) → IsTrue (inside (parent_of (at w q))) → IsTrue (inside q)

-- each such set that has process k, and not process 1, has process q: it descends from k
abbrev Descends : World → ℕ → ℕ → Type 0
Descends w k q = (inside : ℕ → Bool) → inside INIT ≡ false → IsClosed w inside → IsTrue (inside k) → IsTrue (inside q)

-- process k can become the parent of process q
abbrev Adopts : World → ℕ → ℕ → Type 0
Adopts w k q = (k ≡ INIT) ⊎ (IsTrue (is_some (at w k)) × Descends w k q)

-- a process that is here now was there before, with the same parent, or has got another one
abbrev Moved : World → Option Proc → ℕ → Type 0
Moved w now q = IsTrue (is_some now) → IsTrue (is_some (at w q)) × ((parent_of now ≡ parent_of (at w q)) ⊎ Adopts w (parent_of now) q)

-- so it is with every process of a world
abbrev Moves : World → World → Type 0
Moves w after = (q : ℕ) → Moved w (at after q) q

moved_as : (w : World) (o : Option Proc) (q : ℕ) → (IsTrue (is_some o) → IsTrue (is_some (at w q))) → (IsTrue (is_some o) → parent_of o ≡ parent_of (at w q)) → Moved w o q
moved_as w o q known same there = (known there, inl (same there))

moved_still : (w : World) → Moves w w
moved_still w q = moved_as w (at w q) q (λ there. there) (λ _. refl)

moved_nobody : (w : World) (q : ℕ) → Moved w None q
moved_nobody w q there = absurd (false≢true there)

closed_moved : (v w : World) (inside : ℕ → Bool) → Moves v w → inside INIT ≡ false → IsClosed v inside → IsClosed w inside
closed_moved v w inside moved init closed q there within =
    let before = moved q there in
    elim before.1 [
      | inl same ↦ closed q before.0 (ap inside (sym same) ∙ within)
      | inr (inl first) ↦ absurd (false≢true (sym init ∙ ap inside (sym first) ∙ within))
      | inr (inr (known, below)) ↦ below inside init closed within
    ]

moved_twice : (v w x : World) → Moves v w → Moves w x → Moves v x
moved_twice v w x first later q there =
    let middle = later q there in
    let before = first q middle.0 in (
      before.0,
      elim middle.1 [
        | inl same ↦ elim before.1 [
          | inl still ↦ inl (same ∙ still)
          | inr (inl init) ↦ inr (inl (same ∙ init))
          | inr (inr (known, below)) ↦ inr (inr (subst (λ k. IsTrue (is_some (at v k)) × Descends v k q) (sym same) (known, below)))
        ]
        | inr (inl init) ↦ inr (inl init)
        | inr (inr (known, below)) ↦ inr (inr ((first (parent_of (at x q)) known).0, λ inside init closed within. below inside init (closed_moved v w inside first init closed) within))
      ],
    )

body_known : (g : Body → Body) (o : Option Proc) → is_some (option_map (body_changed g) o) ≡ is_some o
body_known g None = refl
body_known g (Some p) = refl

body_parent : (g : Body → Body) (o : Option Proc) → parent_of (option_map (body_changed g) o) ≡ parent_of o
body_parent g None = refl
body_parent g (Some p) = refl

moved_changed : (w : World) (pid : ℕ) (g : Body → Body) → Moves w (changed w pid g)
moved_changed w pid g =
    everywhere w pid (option_map (body_changed g) (at w pid)) (λ k x. Moved w x k)
    (moved_as w (option_map (body_changed g) (at w pid)) pid (λ there. sym (body_known g (at w pid)) ∙ there) (λ _. body_parent g (at w pid))) (λ q ne. moved_still w q)

moved_gone : (w : World) (pid : ℕ) → Moves w (stored w pid None)
moved_gone w pid = everywhere w pid None (λ k x. Moved w x k) (moved_nobody w pid) (λ q ne. moved_still w q)

links_known : (f : Links → Links) (o : Option Proc) → is_some (option_map (links_changed f) o) ≡ is_some o
links_known f None = refl
links_known f (Some p) = refl

links_parent : (f : Links → Links) → ((l : Links) → (f l).parent ≡ l.parent) → (o : Option Proc) → parent_of (option_map (links_changed f) o) ≡ parent_of o
links_parent f same None = refl
links_parent f same (Some p) = same p.links

moved_links : (w : World) (pid : ℕ) (f : Links → Links) → ((l : Links) → (f l).parent ≡ l.parent) → Moves w (relinked w pid f)
moved_links w pid f same =
    everywhere w pid (option_map (links_changed f) (at w pid)) (λ k x. Moved w x k)
    (moved_as w (option_map (links_changed f) (at w pid)) pid (λ there. sym (links_known f (at w pid)) ∙ there) (λ _. links_parent f same (at w pid))) (λ q ne. moved_still w q)

moved_sent : (w : World) (pid n : ℕ) → Moves w (sent w pid n)
moved_sent w pid n =
    let once : World = generated_at w pid n in
    cond_both ((n == SIGCONT) && is_stopped (at w pid)) (generated_at once (parent_of (at w pid)) SIGCHLD) once (Moves w)
    (λ _. moved_twice w once (generated_at once (parent_of (at w pid)) SIGCHLD) (moved_changed w pid _) (moved_changed once (parent_of (at w pid)) _))
    (λ _. moved_changed w pid _)

moved_told : (w : World) (child status : ℕ) → Moves w (told w (Poll.Told child status))
moved_told w child status = cond_both (is_zombie (at w child)) (stored w child None) (changed w child without_note) (Moves w) (λ _. moved_gone w child) (λ _. moved_changed w child without_note)

-- who is found on the way up is an ancestor
found_up : (w : World) (test : ℕ → Bool) (more k q : ℕ) → find test (line_up more w k) ≡ Some q → Descends w q k
found_up w test zero k q is = cc
found_up w test (suc more) k q is =
    cond_both (is_some (at w k)) (k ∷ line_up more w (parent_of (at w k))) [] (λ xs. find test xs ≡ Some q → Descends w q k)
    (λ there. cond_both (test k) (Some k) (find test (line_up more w (parent_of (at w k)))) (λ o. o ≡ Some q → Descends w q k)
    (λ _ here inside init closed within. ap inside (ap (λ o. unwrap_or o k) here) ∙ within)
    (λ _ above inside init closed within. closed k there (found_up w test more (parent_of (at w k)) q above inside init closed within)))
    (λ _ none. cc) is

-- the new parent of the children of a process is process 1, or an ancestor of it
heir_above : (w : World) (pid : ℕ) → (new_parent w pid ≡ INIT) ⊎ Descends w (new_parent w pid) (parent_of (at w pid))
unfolding new_parent ancestors
heir_above w pid =
    elim (find (takes_children w pid) (ancestors w pid)) as (λ o. find (takes_children w pid) (ancestors w pid) ≡ o → (unwrap_or o INIT ≡ INIT) ⊎ Descends w (unwrap_or o INIT) (parent_of (at w pid))) [
      | None ↦ λ _. inl refl
      | Some q ↦ λ is. inr (found_up w (takes_children w pid) PROCESSES (parent_of (at w pid)) q is)
    ] refl

subreaper_there : (o : Option Proc) → IsTrue (is_subreaper o) → IsTrue (is_some o)
subreaper_there None marked = marked
subreaper_there (Some p) marked = refl

heir_there : (w : World) (pid : ℕ) → (new_parent w pid ≡ INIT) ⊎ IsTrue (is_some (at w (new_parent w pid)))
heir_there w pid = new_parent_by w pid (λ k. (k ≡ INIT) ⊎ IsTrue (is_some (at w k))) (inl refl) (λ q marked _. inr (subreaper_there (at w q) marked))

-- it can become the parent of each child
heir_adopts : (w : World) (pid q : ℕ) → IsTrue (is_some (at w pid)) → IsTrue (is_some (at w q)) → parent_of (at w q) ≡ pid → Adopts w (new_parent w pid) q
heir_adopts w pid q there known child = elim (heir_above w pid) [
  | inl first ↦ inl first
  | inr below ↦ elim (heir_there w pid) [
    | inl first ↦ inl first
    | inr present ↦ inr (present, λ inside init closed within. closed q known (ap inside child ∙ closed pid there (below inside init closed within)))
  ]
]

moved_heir : (w : World) (pid q : ℕ) (o : Option Proc) → at w q ≡ o → IsTrue (is_some (at w pid))
    → Moved w (option_and_then (handed_on pid (new_parent w pid) (ignores_children (at w (new_parent w pid)))) o) q
moved_heir w pid q None is there = moved_nobody w q
moved_heir w pid q (Some p) is there =
    let known : IsTrue (is_some (at w q)) = ap is_some is in
    handed_cases pid (new_parent w pid) (ignores_children (at w (new_parent w pid))) p (λ x. Moved w x q)
    (λ _ _. (known, inl (ap parent_of (sym is))))
    (λ _ _. moved_nobody w q)
    (λ child _. (known, inr (heir_adopts w pid q there known (ap parent_of is ∙ child))))

moved_handed : (w : World) (pid : ℕ) → IsTrue (is_some (at w pid)) → Moves w (with_children_handed_on w pid)
moved_handed w pid there q = subst (λ x. Moved w x q) (sym (handed_at w pid q)) (moved_heir w pid q (at w q) refl there)

moved_reparented : (w : World) (pid : ℕ) → IsTrue (is_some (at w pid)) → Moves w (reparented w pid)
moved_reparented w pid there =
    let heir : ℕ = new_parent w pid in
    let handed : World = with_children_handed_on w pid in
    cond_both (has_zombie_child w pid && not (ignores_children (at w heir))) (sent handed heir SIGCHLD) handed (Moves w)
    (λ _. moved_twice w handed (sent handed heir SIGCHLD) (moved_handed w pid there) (moved_sent handed heir SIGCHLD)) (λ _. moved_handed w pid there)

moved_died : (w : World) (pid status : ℕ) → Moves w (left_to_parent w pid status)
moved_died w pid status =
    let parent : ℕ = parent_of (at w pid) in
    let dead : World = changed w pid (zombie status) in
    cond_both (ignores_children (at w parent)) (stored w pid None) (sent dead parent SIGCHLD) (Moves w) (λ _. moved_gone w pid)
    (λ _. moved_twice w dead (sent dead parent SIGCHLD) (moved_changed w pid (zombie status)) (moved_sent dead parent SIGCHLD))

moved_ended : (w : World) (pid status : ℕ) → IsTrue (is_some (at w pid)) → Moves w (ended w pid status)
moved_ended w pid status there =
    cond_both (pid == INIT) (changed w INIT (λ body. record body { life = Zombie status })) (left_to_parent (reparented w pid) pid status) (Moves w)
    (λ _. moved_changed w INIT (λ body. record body { life = Zombie status }))
    (λ _. moved_twice w (reparented w pid) (left_to_parent (reparented w pid) pid status) (moved_reparented w pid there) (moved_died (reparented w pid) pid status))

moves : Carries Moves
moves = record {
  still = moved_still;
  twice = moved_twice;
  changed = λ w pid g _. moved_changed w pid g;
  links = moved_links;
  sent = moved_sent;
  ended = moved_ended;
  telling = moved_told;
}

-- ---- rows
moved_authorises : (w : World) (pid : ℕ) (r : Result Authority Errno) → Moves w (authorises w pid r).world
moved_authorises w pid (Ok a) = moved_changed w pid (with_authority a)
moved_authorises w pid (Err e) = moved_still w

moved_execve : (w : World) (pid : ℕ) (r : Result Authority Errno) → Moves w (execve w pid r).world
moved_execve w pid (Ok a) = moved_changed w pid (executing a)
moved_execve w pid (Err e) = moved_still w

moved_subreapers : (there : Bool) (w : World) (p : Performed) → Moves w p.world → Moves w (where_subreapers there w p).world
moved_subreapers true w p moved = moved
moved_subreapers false w p moved = moved_still w

-- a process that this event has forked
record IsForked (w after : World) (caller q : ℕ) : Type 0 where
  caller_there : IsTrue (is_some (at w caller))
  parent : parent_of (at after q) ≡ caller
  free : at w q ≡ None
  low : 2 ≤ q

-- a process is new, or has moved
abbrev Comes : World → World → ℕ → ℕ → Bool → Type 0
Comes w after caller q forks = (forks ≡ true → IsForked w after caller q) × (forks ≡ false → Moved w (at after q) q)

comes_moved : (w after : World) (caller q : ℕ) → Moved w (at after q) q → Comes w after caller q false
comes_moved w after caller q moved = (λ h. absurd (false≢true h), λ _. moved)

someone : (o : Option Proc) → IsTrue (is_some o) → (p : Proc) × (o ≡ Some p)
someone None there = absurd (false≢true there)
someone (Some p) there = (p, refl)

comes_fork : (w : World) (pid q : ℕ) (b : Bool) → has_room w ≡ b → IsWorld w → IsTrue (is_some (at w pid))
    → Comes w (forks w pid (cond b (Ok (fresh_of w)) (Err Eagain))).world pid q (has_returned q (forks w pid (cond b (Ok (fresh_of w)) (Err Eagain))).outcome)
comes_fork w pid q true room rules there =
    let p = someone (at w pid) there in
    let range = fresh_in_range w rules.last.0 in (
      λ is.
          let here : q ≡ fresh_of w = eqb-true q (fresh_of w) is in
          record {
            caller_there = there;
            parent = ap (λ k. parent_of (at (forked w pid) k)) here ∙ ap parent_of (forked_child w pid p.0 p.1 room);
            free = ap (at w) here ∙ fresh_absent w (ltb-true (count w.procs) PROCESSES room) rules.last.0;
            low = subst (λ k. 2 ≤ k) (sym here) range.0;
          },
      λ other. subst (λ x. Moved w x q) (sym (forked_touches w pid q (eqb-false q (fresh_of w) other))) (moved_still w q),
    )
comes_fork w pid q false room rules there = comes_moved w w pid q (moved_still w q)

-- this when a call of `pid`, a fork(2) or none, has come to this
abbrev RowComes : World → ℕ → ℕ → Bool → Performed → Type 0
RowComes w pid q forking p = Comes w p.world pid q (forking && has_returned q p.outcome)

comes_row : (declared : Images) (w : World) (pid q : ℕ) (body : Body) (which : Option Syscall) (call : Record) → IsWorld w
    → IsTrue (is_some (at w pid)) → RowComes w pid q (is_fork_row which) (row declared w pid body which call)
comes_row declared w pid q body which call rules there =
    each_call declared w pid body call (λ facts. RowComes w pid q facts.is_fork) (record {
      answers = λ r. comes_moved w _ pid q (over_asked Moves moves w r q);
      tells_signals = λ _. comes_moved w w pid q (moved_still w q);
      tells_ids = comes_moved w w pid q (moved_still w q);
      resignals = λ r. comes_moved w _ pid q (over_resignals Moves moves w pid r q);
      authorises = λ r. comes_moved w _ pid q (moved_authorises w pid r q);
      executes = λ r. comes_moved w _ pid q (moved_execve w pid r q);
      marks = comes_moved w _ pid q (moved_subreapers declared.subreapers w (subreaper_set w pid call) (moved_changed w pid (with_subreaper (not (register call 1 == 0)))) q);
      asks_mark = comes_moved w _ pid q (moved_subreapers declared.subreapers w (subreaper_asked w body.subreaper) (moved_still w) q);
      pauses = comes_moved w _ pid q (over_waits Moves moves w pid Waiting.Pause q);
      waits_for = comes_moved w _ pid q (over_wait4 Moves moves w pid call q);
      forks_one = comes_fork w pid q (has_room w) refl rules there;
      ends = λ status. comes_moved w _ pid q (over_end Moves moves w pid status there q);
      kills = comes_moved w _ pid q (over_changes Moves moves w 0 _ (over_kill Moves moves w pid body.creds (signed call 0) (unsigned call 1)) q);
      regroups = comes_moved w _ pid q (over_changes Moves moves w 0 _ (over_setpgid Moves moves w pid (signed call 0) (signed call 1)) q);
      leads = comes_moved w _ pid q (over_changes Moves moves w pid _ (over_setsid Moves moves w pid) q);
    }) which

-- ---- events
abbrev CallComes : World → ℕ → ℕ → Option Record → Performed → Type 0
CallComes w pid q o = RowComes w pid q (is_fork o)

comes_performed : (declared : Images) (w : World) (pid q : ℕ) (body : Body) (call : Record) → IsWorld w → IsTrue (is_some (at w pid))
    → CallComes w pid q (Some call) (row declared w pid body (syscall_of call.nr) call)
comes_performed declared w pid q body call rules there =
    let p : Performed = row declared w pid body (syscall_of call.nr) call in
    subst (λ b. RowComes w pid q b p) (fork_number call.nr) (comes_row declared w pid q body (syscall_of call.nr) call rules there)

comes_judged : (declared : Images) (w : World) (pid q : ℕ) (body : Body) (call : Record) (verdict : ℕ) (a : Action) → IsWorld w → IsTrue (is_some (at w pid))
    → CallComes w pid q (cond (performs a) (Some call) None) (judged declared w pid body call verdict a)
comes_judged declared w pid q body call verdict Action.Allow rules there = comes_performed declared w pid q body call rules there
comes_judged declared w pid q body call verdict Action.Log rules there = comes_performed declared w pid q body call rules there
comes_judged declared w pid q body call verdict Action.Trap rules there = comes_moved w (forced w pid) pid q (moved_changed w pid (λ body. record body { signals = sigsys_forced body.signals }) q)
comes_judged declared w pid q body call verdict Action.Errno rules there = comes_moved w w pid q (moved_still w q)
comes_judged declared w pid q body call verdict Action.UserNotif rules there = comes_moved w w pid q (moved_still w q)
comes_judged declared w pid q body call verdict Action.Trace rules there = comes_moved w w pid q (moved_still w q)
comes_judged declared w pid q body call verdict Action.KillProcess rules there = comes_moved w _ pid q (over_end Moves moves w pid SIGSYS there q)
comes_judged declared w pid q body call verdict Action.KillThread rules there = comes_moved w _ pid q (over_end Moves moves w pid SIGSYS there q)
comes_judged declared w pid q body call verdict Action.Unknown rules there = comes_moved w _ pid q (over_end Moves moves w pid SIGSYS there q)

abbrev EventComes : World → Event → Stepped → ℕ → Type 0
EventComes w event s q = Comes w s.world (pid_of event) q (is_fork_of q (event, s.answer))

comes_happened : (declared : Images) (w : World) (body : Body) (event : Event) (q : ℕ) → IsWorld w → IsTrue (is_some (at w (pid_of event)))
    → EventComes w event (happened declared w body event) q
comes_happened declared w body (Call pid ip asked) q rules there =
    let call : Record = recorded ip asked in
    let verdict : ℕ = verdict_of body.chain call in
    comes_judged declared w pid q body call verdict (action_of verdict) rules there
comes_happened declared w body (Deliver pid) q rules there =
    at_delivery w pid body (signal_for body) (λ s. EventComes w (Deliver pid) s q) (comes_moved w w pid q (moved_still w q))
    (λ n. comes_moved w _ pid q (over_delivered Moves moves w pid body n there q))
comes_happened declared w body (Resume pid) q rules there = comes_moved w _ pid q (over_resumed Moves moves w pid body.waiting q)
comes_happened declared w body (Fault pid) q rules there = comes_moved w _ pid q (over_end Moves moves w pid SIGSEGV there q)

comes_step : (declared : Images) (w : World) (event : Event) (q : ℕ) → IsWorld w → EventComes w event (step_of declared w event) q
comes_step declared w event q rules =
    at_step declared w event (λ s. EventComes w event s q) (λ _ _. comes_moved w w (pid_of event) q (moved_still w q))
    (λ p there alive. comes_happened declared w p.body event q rules (alive_is_there (at w (pid_of event)) alive))

-- ---- confinement stays
-- a filter more takes no precedence away
at_most : (p q : ℤ) (m n : ℕ) → IsAtMost p m q n → p ≤ℤ q
at_most p q m n (inl less) = omega (arith, ints, less)
at_most p q m n (inr (same, place)) = subst (λ x. p ≤ℤ x) same (omega (arith, ints))

get_behind : (xs ys : List ℕ) (place : ℕ) → slice_get (xs ++ ys) (length xs + place) ≡ slice_get ys place
get_behind [] ys place = ap (slice_get ys) (omega arith)
get_behind (x ∷ xs) ys place =
    let more : length (x ∷ xs) + place ≡ suc (length xs + place) = omega arith in
    ap (slice_get (x ∷ (xs ++ ys))) more ∙ get_behind xs ys place

first_of_more : (xs ys : List ℕ) → ys ≢ [] → precedence_of (first_of (xs ++ ys)) ≤ℤ precedence_of (first_of ys)
first_of_more xs ys some =
    let least = first_of-least ys some in
    let all = first_of-least (xs ++ ys) (λ e. some (nothing_behind xs ys e)) in
    at_most (precedence_of (first_of (xs ++ ys))) (precedence_of (first_of ys)) all.0 (length xs + least.0)
    (all.2 (length xs + least.0) (first_of ys) (get_behind xs ys least.0 ∙ least.1))
  where
    nothing_behind : (xs ys : List ℕ) → xs ++ ys ≡ [] → ys ≡ []
    nothing_behind [] ys e = e
    nothing_behind (x ∷ xs) ys e = cc

values-append : (xs ys : List (List Insn)) (call : Record) → values_of (xs ++ ys) call ≡ values_of xs call ++ values_of ys call
values-append [] ys call = refl
values-append (x ∷ xs) ys call = ap (λ vs. meaning_value (meaning_of x call) ∷ vs) (values-append xs ys call)

-- no filter refuses nothing
some_values : (filters : List (List Insn)) (call : Record) → precedence_of (verdict_of filters call) <ℤ precedence_of 0x7ffc0000 → values_of filters call ≢ []
some_values [] call less is = absurd (omega (arith, ints, less))
some_values (newest ∷ older) call less is = cc

refuses_more : (newer older : List (List Insn)) → RefusesKill older → RefusesKill (newer ++ older)
refuses_more newer older refuses call is_native is =
    let before = refuses call is_native is in
    let least : precedence_of (verdict_of (newer ++ older) call) ≤ℤ precedence_of (verdict_of older call) =
    subst (λ vs. precedence_of (first_of vs) ≤ℤ precedence_of (first_of (values_of older call))) (sym (values-append newer older call))
    (first_of_more (values_of newer call) (values_of older call) (some_values older call before)) in
    omega (arith, ints, before, least)

-- calls that a lineage adds leave it refusing
refuses_later : (declared : Images) (calls : List Record) (o : Option Authority) → IfSome o (λ a. RefusesKill a.filters) → IfSome (option_map (authority_after_calls declared calls) o) (λ a. RefusesKill a.filters)
refuses_later declared calls None refuses = tt
refuses_later declared calls (Some a) refuses =
    let grows = grows_calls declared calls a in
    subst RefusesKill (sym grows.filters) (refuses_more grows.newer a.filters refuses)

of_those_there : (o : Option Proc) → (IsTrue (is_some o) → IfSome (authority_in o) (λ a. RefusesKill a.filters)) → IfSome (authority_in o) (λ a. RefusesKill a.filters)
of_those_there None is = tt
of_those_there (Some p) is = is refl

init_there : (o : Option Proc) → IsTrue (is_init o) → IsTrue (is_some o)
init_there None init = init
init_there (Some p) init = refl

no_parent : (o : Option Proc) → IsTrue (is_init o) → parent_of o ≡ 0
no_parent None init = refl
no_parent (Some p) init = eqb-true p.links.parent 0 (and_parts (p.links.parent == 0) _ init).0

-- nobody is forked at a number that is taken, or below 2
not_forked : (declared : Images) (w : World) (event : Event) (k : ℕ) → IsWorld w → IsTrue (is_some (at w k)) → is_fork_of k (happening declared w event) ≡ false
not_forked declared w event k rules there =
    elim (is_fork_of k (happening declared w event)) as (λ b. is_fork_of k (happening declared w event) ≡ b → b ≡ false) [
      | true ↦ λ is. absurd (false≢true (sym (ap is_some ((comes_step declared w event k rules).0 is).free) ∙ there))
      | false ↦ λ _. refl
    ] refl

zero_not_forked : (declared : Images) (w : World) (event : Event) (k : ℕ) → IsWorld w → k ≡ 0 → is_fork_of k (happening declared w event) ≡ false
zero_not_forked declared w event k rules none =
    elim (is_fork_of k (happening declared w event)) as (λ b. is_fork_of k (happening declared w event) ≡ b → b ≡ false) [
      | true ↦ λ is. let low = ((comes_step declared w event k rules).0 is).low in absurd (omega arith)
      | false ↦ λ _. refl
    ] refl

halted_not_forked : (declared : Images) (w : World) (event : Event) (k : ℕ) → is_halted w ≡ true → is_fork_of k (happening declared w event) ≡ false
halted_not_forked declared w event k halted =
    let reason : reason_of w event ≡ Some Halted = cond-true (is_halted w) (Some Halted) _ halted in
    ap (λ (s : Stepped). is_fork_of k (event, s.answer)) (impossible_changes_nothing declared w event Halted reason)

-- nobody is forked at the number of a parent
parent_not_forked : (declared : Images) (w : World) (event : Event) (q : ℕ) → IsWorld w → IsTrue (is_some (at w q)) → is_fork_of (parent_of (at w q)) (happening declared w event) ≡ false
parent_not_forked declared w event q rules there =
    elim (is_halted w) as (λ b. is_halted w ≡ b → is_fork_of (parent_of (at w q)) (happening declared w event) ≡ false) [
      | true ↦ λ halted. halted_not_forked declared w event (parent_of (at w q)) halted
      | false ↦ λ going. elim (q == INIT) as (λ b. (q == INIT) ≡ b → is_fork_of (parent_of (at w q)) (happening declared w event) ≡ false) [
        | true ↦ λ is. zero_not_forked declared w event (parent_of (at w q)) rules (ap (λ k. parent_of (at w k)) (eqb-true q INIT is) ∙ no_parent (at w INIT) rules.init)
        | false ↦ λ other. not_forked declared w event (parent_of (at w q)) rules (alive_is_there (at w (parent_of (at w q))) (rules.parents going q (eqb-false q INIT other) there))
      ] refl
    ] refl

-- whose lineage goes on
goes_on : (declared : Images) (w : World) (event : Event) (k : ℕ) (b : Bool) → is_fork_of k (happening declared w event) ≡ b → lineage_before k (happening declared w event) ≡ cond b (pid_of event) k
goes_on declared w event k b is = ap (λ b. cond b (pid_of event) k) is

pub confinement_stays : ConfinementStays
confinement_stays declared w event inside rules confined =
    let x : Happening = happening declared w event in
    let after : World = (step_of declared w event).world in
    let init : inside (lineage_before INIT x) ≡ false = ap inside (goes_on declared w event INIT false (not_forked declared w event INIT rules (init_there (at w INIT) rules.init))) ∙ confined.init in
    record {
      init = init;
      children = λ q there within. elim (is_fork_of q x) as (λ b. is_fork_of q x ≡ b → IsTrue (inside (lineage_before q x))) [
        | true ↦ λ is.
            let new = (comes_step declared w event q rules).0 is in
            ap inside (goes_on declared w event q true is)
            ∙ ap inside (sym (goes_on declared w event (pid_of event) false (not_forked declared w event (pid_of event) rules new.caller_there)))
            ∙ ap (λ k. inside (lineage_before k x)) (sym new.parent) ∙ within
        | false ↦ λ is.
            let moved = (comes_step declared w event q rules).1 is there in
            ap inside (goes_on declared w event q false is) ∙ elim moved.1 [
              | inl same ↦ confined.children q moved.0
                  (ap inside (sym (goes_on declared w event (parent_of (at w q)) false (parent_not_forked declared w event q rules moved.0)))
                  ∙ ap (λ k. inside (lineage_before k x)) (sym same) ∙ within)
              | inr (inl first) ↦ absurd (false≢true (sym init ∙ ap (λ k. inside (lineage_before k x)) (sym first) ∙ within))
              | inr (inr (known, below)) ↦ below inside confined.init confined.children
                  (ap inside (sym (goes_on declared w event (parent_of (at after q)) false (not_forked declared w event (parent_of (at after q)) rules known))) ∙ within)
            ]
      ] refl;
      refuses = λ q within. of_those_there (at after q) (λ there.
          subst (λ o. IfSome o (λ a. RefusesKill a.filters)) (sym (event_changes_authority declared w event q there).1)
          (refuses_later declared (calls_added q x) (authority_at w (lineage_before q x)) (confined.refuses (lineage_before q x) within)));
    }

-- ---- over a list of events
abbrev from_root : List Happening → ℕ → ℕ → Bool
from_root history root q = (lineage_of history q).root == root

confined_after : (declared : Images) (w : World) (events : List Event) (history : List Happening) (root : ℕ) → IsWorld w → IsConfined w (from_root history root)
    → IsWorld (world_after declared w events) × IsConfined (world_after declared w events) (from_root (history_after declared w events history) root)
confined_after declared w [] history root rules confined = (rules, confined)
confined_after declared w (event ∷ events) history root rules confined =
    confined_after declared (step_of declared w event).world events (happening declared w event ∷ history) root (kept_step declared w event rules)
    (confinement_stays declared w event (from_root history root) rules confined)

pub lineage_is_confined : LineageIsConfined
lineage_is_confined declared w events event root q rules other alone refuses within outside there =
    let start : IsConfined w (from_root [] root) = record {
      init = ne_eqb INIT root (λ is. other (sym is));
      children = λ k there is. absurd (alone k there (eqb-true (parent_of (at w k)) root is));
      refuses = λ k is. subst (λ k. IfSome (authority_at w k) (λ a. RefusesKill a.filters)) (sym (eqb-true k root is)) refuses;
    } in
    let now = confined_after declared w events [] root rules start in
    event_is_confined declared (world_after declared w events) event (from_root (history_after declared w events []) root) q now.0 now.1
    (eq-eqb (lineage_after declared w events (pid_of event)).root root within) (ne_eqb (lineage_after declared w events q).root root outside) there
