-- Walks from one process that a signal is meant for to the next.
use Rattle.std.proofs.Common.{◌≡◌, ◌∙◌, ◌<◌, ◌≤◌, ◌==◌, ⊎_elim, ℕ, ℤ, arith, ap, sym, refl, subst, Bool, true, false, cond, not, ◌&&◌, ◌||◌, IsTrue, [], ◌∷◌, filter, length, Option, None, Some, Ok, Err, nat_le, is_some, option_map, eq-eqb, ne_eqb}
use Rattle.std.proofs.lemmas.Bool.Decides.{nat_tests}
use Rattle.sk_kernel.proofs.Common.{option_map_or, list_any, and_parts, cases_eq, cond_both, Eperm, Esrch, Einval, Creds, may_signal, SIGCHLD, SIGCONT, generated, INIT, Running, Links, Body, Proc, Who, pids, World, at, has_ended, has_stopped, is_stopped, is_member_of, parent_of, body_changed, IsNext, IsWorld, continued, signalled, generated_at, sent, sent_to_each, everywhere, above, none_above, next_above, all_above, none_any, any_here, beyond, group_of, session_of, nobody_at_0, who_meant, killed, after_kill, is_target, meant, reached, is_reached, after_kill_of, after_kill_of_one}
use Rattle.sk_world.specs.declared.process.Note.TheVariants.{Continued}
use Rattle.sk_machine.specs.Killing.{is_meant, is_open_to, may_kill}
use Rattle.sk_kernel.proofs.Listing.{kept_there, kept_both, some_kept}
use Rattle.sk_world.specs.declared.request.Who.TheVariants as who

-- nobody has the pid 0
no_target_at_0 : (w : World) (caller : ℕ) (who : Who) → IsWorld w → is_target w caller who 0 ≡ false
no_target_at_0 w caller who rules = ap (λ o. is_some o && is_meant w caller who 0) (nobody_at_0 w rules)

low_targets : (w : World) (caller : ℕ) (who : Who) → IsWorld w → (q : ℕ) → q ≤ 0 → is_target w caller who q ≡ false
low_targets w caller who rules q le = subst (λ k. is_target w caller who k ≡ false) (zero_is q le) (no_target_at_0 w caller who rules)
  where
    zero_is : (q : ℕ) → q ≤ 0 → 0 ≡ q
    zero_is q le = omega arith

-- ---- whether there is any

meant_as_any : (w : World) (caller : ℕ) (who : Who) → not (length (meant w caller who) == 0) ≡ list_any (is_target w caller who) (pids w.procs)
meant_as_any w caller who =
    ap (λ xs. not (length xs == 0)) (kept_there (λ k. is_some (at w k)) (is_meant w caller who) w.procs.entries (λ k is. is))
    ∙ some_kept (is_target w caller who) (pids w.procs)

-- the first of those that are meant says whether any is
pub meant_found : (w : World) (caller : ℕ) (who : Who) (found : Option ℕ) → IsWorld w → IsNext (is_target w caller who) 0 found
    → is_some found ≡ not (length (meant w caller who) == 0)
meant_found w caller who None rules none =
    sym (meant_as_any w caller who ∙ none_any (is_target w caller who) (pids w.procs) (beyond (is_target w caller who) (is_target w caller who) 0 (λ _ h. h) (low_targets w caller who rules) none))
meant_found w caller who (Some pid) rules next =
    sym (meant_as_any w caller who ∙ any_here (is_target w caller who) w.procs.entries pid (and_parts (is_some (at w pid)) (is_meant w caller who pid) next.1).0 next.1)

-- they are the keys that pass
reached_is : (w : World) (caller : ℕ) (creds : Creds) (who : Who) (n : ℕ) → reached w caller creds who n ≡ filter (is_reached w caller creds who n) (pids w.procs)
reached_is w caller creds who n =
    ap (filter (may_kill w caller creds n)) (kept_there (λ k. is_some (at w k)) (is_meant w caller who) w.procs.entries (λ k is. is))
    ∙ kept_both (is_target w caller who) (may_kill w caller creds n) (pids w.procs)

reached_as_any : (w : World) (caller : ℕ) (creds : Creds) (who : Who) (n : ℕ) → not (length (reached w caller creds who n) == 0) ≡ list_any (is_reached w caller creds who n) (pids w.procs)
reached_as_any w caller creds who n = ap (λ xs. not (length xs == 0)) (reached_is w caller creds who n) ∙ some_kept (is_reached w caller creds who n) (pids w.procs)

-- who is not meant is not reached
no_target : (w : World) (caller : ℕ) (creds : Creds) (who : Who) (n q : ℕ) → is_target w caller who q ≡ false → is_reached w caller creds who n q ≡ false
no_target w caller creds who n q none = ap (λ b. b && may_kill w caller creds n q) none

none_low : (w : World) (caller : ℕ) (creds : Creds) (who : Who) (n : ℕ) → IsWorld w → (q : ℕ) → q ≤ 0 → is_reached w caller creds who n q ≡ false
none_low w caller creds who n rules q le = no_target w caller creds who n q (low_targets w caller who rules q le)

-- who is reached is there
reached_there : (w : World) (caller : ℕ) (creds : Creds) (who : Who) (n q : ℕ) → IsTrue (is_reached w caller creds who n q) → IsTrue (is_some (at w q))
reached_there w caller creds who n q is =
    (and_parts (is_some (at w q)) (is_meant w caller who q) (and_parts (is_target w caller who q) (may_kill w caller creds n q) is).0).0

-- the first of those that are reached says whether any is
pub reached_found : (w : World) (caller : ℕ) (creds : Creds) (who : Who) (n : ℕ) (found : Option ℕ) → IsWorld w → IsNext (is_reached w caller creds who n) 0 found
    → is_some found ≡ not (length (reached w caller creds who n) == 0)
reached_found w caller creds who n None rules none =
    sym (reached_as_any w caller creds who n ∙ none_any (is_reached w caller creds who n) (pids w.procs) (beyond (is_reached w caller creds who n) (is_reached w caller creds who n) 0 (λ _ h. h) (none_low w caller creds who n rules) none))
reached_found w caller creds who n (Some pid) rules next =
    sym (reached_as_any w caller creds who n ∙ any_here (is_reached w caller creds who n) w.procs.entries pid (reached_there w caller creds who n pid next.1) next.1)

-- ---- one that is meant

and_none : (b : Bool) → (b && false) ≡ false
and_none true = refl
and_none false = refl

if_not : (b : Bool) → not b ≡ false → b ≡ true
if_not true e = refl
if_not false e = sym e

if_so : (b : Bool) → not b ≡ true → b ≡ false
if_so true e = sym e
if_so false e = refl

module _ (w : World) (caller : ℕ) (creds : Creds) (pid n : ℕ) (rules : IsWorld w) where
  another : (q : ℕ) → (q ≡ pid → ⊥) → is_target w caller (who.Child pid) q ≡ false
  another q other = ap (λ b. is_some (at w q) && b) (ne_eqb q pid other) ∙ and_none (is_some (at w q))

  another_reached : (q : ℕ) → (q ≡ pid → ⊥) → is_reached w caller creds (who.Child pid) n q ≡ false
  another_reached q other = no_target w caller creds (who.Child pid) n q (another q other)

  nobody_meant : is_some (at w pid) ≡ false → (length (meant w caller (who.Child pid)) == 0) ≡ true
  nobody_meant gone = if_not (length (meant w caller (who.Child pid)) == 0) (meant_as_any w caller (who.Child pid) ∙ none_any (is_target w caller (who.Child pid)) (pids w.procs) (λ q.
      ⊎_elim (λ is. ap (λ k. is_some (at w k) && (k == pid)) is ∙ ap (λ b. b && (pid == pid)) gone) (another q) (cases_eq q pid)))

  nobody_reached : may_kill w caller creds n pid ≡ false → (length (reached w caller creds (who.Child pid) n) == 0) ≡ true
  nobody_reached refused = if_not (length (reached w caller creds (who.Child pid) n) == 0) (reached_as_any w caller creds (who.Child pid) n ∙ none_any (is_reached w caller creds (who.Child pid) n) (pids w.procs) (λ q.
      ⊎_elim (λ is. ap (is_reached w caller creds (who.Child pid) n) is ∙ ap (λ b. is_target w caller (who.Child pid) pid && b) refused ∙ and_none (is_target w caller (who.Child pid) pid)) (another_reached q) (cases_eq q pid)))

  module _ (there : is_some (at w pid) ≡ true) where
    here : is_target w caller (who.Child pid) pid ≡ true
    here = λ i. there i && eq-eqb pid pid refl i

    one_meant : (length (meant w caller (who.Child pid)) == 0) ≡ false
    one_meant = if_so (length (meant w caller (who.Child pid)) == 0) (meant_as_any w caller (who.Child pid) ∙ any_here (is_target w caller (who.Child pid)) w.procs.entries pid there here)

    one_reached : may_kill w caller creds n pid ≡ true → reached w caller creds (who.Child pid) n ≡ pid ∷ []
    one_reached may =
        let test : ℕ → Bool = is_reached w caller creds (who.Child pid) n in
        reached_is w caller creds (who.Child pid) n
        ∙ sym (all_above test w.procs.entries (none_low w caller creds (who.Child pid) n rules 0 (omega arith)))
        ∙ next_above test 0 pid w.procs.entries w.procs.rising there (rules.pids pid there).0 (λ i. here i && may i) (λ q _ lt. another_reached q (λ is. below q lt is))
        ∙ ap (λ xs. pid ∷ xs) (none_above test pid w.procs.entries (λ q lt. another_reached q (λ is. above_it q lt is)))
      where
        below : (q : ℕ) → q < pid → q ≡ pid → ⊥
        below q lt is = omega arith

        above_it : (q : ℕ) → pid < q → q ≡ pid → ⊥
        above_it q lt is = omega arith

  -- what is done where this one process is meant
  pub one_is : after_kill_of_one w caller creds pid n ≡ after_kill_of w caller creds (who.Child pid) n
  one_is = by_there (is_some (at w pid)) refl
    where
      if_permitted : (b : Bool) → may_kill w caller creds n pid ≡ b → is_some (at w pid) ≡ true
          → cond (not b) (Err Eperm) (Ok (cond (n == 0) w (sent w pid n)))
          ≡ cond (length (reached w caller creds (who.Child pid) n) == 0) (Err Eperm) (Ok (killed w (reached w caller creds (who.Child pid) n) n))
      if_permitted true may there = sym (ap (λ xs. cond (length xs == 0) (Err Eperm) (Ok (killed w xs n))) (one_reached there may))
      if_permitted false may there = sym (ap (λ b. cond b (Err Eperm) (Ok (killed w (reached w caller creds (who.Child pid) n) n))) (nobody_reached may))

      by_there : (b : Bool) → is_some (at w pid) ≡ b → after_kill_of_one w caller creds pid n ≡ after_kill_of w caller creds (who.Child pid) n
      by_there true there =
          ap (λ b. cond (not b) (Err Esrch) (cond (not (may_kill w caller creds n pid)) (Err Eperm) (Ok (cond (n == 0) w (sent w pid n))))) there
          ∙ if_permitted (may_kill w caller creds n pid) refl there
          ∙ sym (ap (λ b. cond b (Err Esrch) (cond (length (reached w caller creds (who.Child pid) n) == 0) (Err Eperm) (Ok (killed w (reached w caller creds (who.Child pid) n) n)))) (one_meant there))
      by_there false gone =
          ap (λ b. cond (not b) (Err Esrch) (cond (not (may_kill w caller creds n pid)) (Err Eperm) (Ok (cond (n == 0) w (sent w pid n))))) gone
          ∙ sym (ap (λ b. cond b (Err Esrch) (cond (length (reached w caller creds (who.Child pid) n) == 0) (Err Eperm) (Ok (killed w (reached w caller creds (who.Child pid) n) n)))) (nobody_meant gone))

-- what is done where those are meant that the argument means
pub as_meant : (w : World) (caller : ℕ) (creds : Creds) (who : Who) (argument : ℤ) (n : ℕ) → who ≡ who_meant (group_of (at w caller)) argument → n ≤ 31
    → after_kill_of w caller creds who n ≡ after_kill w caller creds argument n
as_meant w caller creds who argument n is within =
    ap (λ x. after_kill_of w caller creds x n) is
    ∙ sym (ap (λ b. cond (not b) (Err Einval) (after_kill_of w caller creds (who_meant (group_of (at w caller)) argument) n)) (in_range within))
  where
    in_range : n ≤ 31 → nat_le n 31 ≡ true
    in_range h = grind (arith, nat_tests)

-- ---- what a signal leaves

-- what kill(2) asks of a process
abbrev pub seen : Option Proc → Option (Links × Creds)
seen o = option_map (λ p. (p.links, p.body.creds)) o

-- a signal changes no ids
signalled_creds : (n : ℕ) (init : Bool) (body : Body) → (signalled n init body).creds ≡ body.creds
signalled_creds n init body =
    let after : Body = record body { signals = generated n init body.signals } in
    cond_both (has_ended body.life) body (cond (n == SIGCONT) (continued after) after) (λ x. x.creds ≡ body.creds) (λ _. refl)
    (λ _. cond_both (n == SIGCONT) (continued after) after (λ x. x.creds ≡ body.creds)
    (λ _. cond_both (has_stopped body.life) (record after { life = Running; note = Continued }) after (λ x. x.creds ≡ body.creds) (λ _. refl) (λ _. refl))
    (λ _. refl))

signalled_seen : (n : ℕ) (init : Bool) (o : Option Proc) → seen (option_map (body_changed (signalled n init)) o) ≡ seen o
signalled_seen n init None = refl
signalled_seen n init (Some p) = ap (λ creds. Some (p.links, creds)) (signalled_creds n init p.body)

generated_seen : (w : World) (pid n q : ℕ) → seen (at (generated_at w pid n) q) ≡ seen (at w q)
generated_seen w pid n = everywhere w pid (option_map (body_changed (signalled n (pid == INIT))) (at w pid)) (λ q x. seen x ≡ seen (at w q)) (signalled_seen n (pid == INIT) (at w pid)) (λ q ne. refl)

sent_seen : (w : World) (pid n q : ℕ) → seen (at (sent w pid n) q) ≡ seen (at w q)
sent_seen w pid n q =
    cond_both ((n == SIGCONT) && is_stopped (at w pid)) (generated_at (generated_at w pid n) (parent_of (at w pid)) SIGCHLD) (generated_at w pid n) (λ v. seen (at v q) ≡ seen (at w q))
    (λ _. generated_seen (generated_at w pid n) (parent_of (at w pid)) SIGCHLD q ∙ generated_seen w pid n q)
    (λ _. generated_seen w pid n q)

-- what is asked of a process is asked of what is seen of it
there_by_seen : (o : Option Proc) → is_some o ≡ is_some (seen o)
there_by_seen None = refl
there_by_seen (Some p) = refl

member_by_seen : (group : ℕ) (o : Option Proc) → is_member_of group o ≡ option_map_or (λ x. x.0.group == group) (seen o) false
member_by_seen group None = refl
member_by_seen group (Some p) = refl

session_by_seen : (o : Option Proc) → session_of o ≡ option_map_or (λ x. x.0.session) (seen o) 0
session_by_seen None = refl
session_by_seen (Some p) = refl

open_by_seen : (creds : Creds) (o : Option Proc) → is_open_to creds o ≡ option_map_or (λ x. may_signal creds x.1) (seen o) false
open_by_seen creds None = refl
open_by_seen creds (Some p) = refl

-- worlds that show the same of each process
abbrev pub LooksAs : World → World → Type 0
LooksAs now before = (q : ℕ) → seen (at now q) ≡ seen (at before q)

module _ (now before : World) (same : LooksAs now before) where
  same_meant : (caller : ℕ) (whom : Who) (q : ℕ) → is_meant now caller whom q ≡ is_meant before caller whom q
  same_meant caller (who.Child child) q = refl
  same_meant caller who.Any q = refl
  same_meant caller (who.Group group) q = member_by_seen group (at now q) ∙ ap (λ x. option_map_or (λ x. x.0.group == group) x false) (same q) ∙ sym (member_by_seen group (at before q))

  same_there : (q : ℕ) → is_some (at now q) ≡ is_some (at before q)
  same_there q = there_by_seen (at now q) ∙ ap is_some (same q) ∙ sym (there_by_seen (at before q))

  pub same_target : (caller : ℕ) (whom : Who) (q : ℕ) → is_target now caller whom q ≡ is_target before caller whom q
  same_target caller whom q = (λ i. same_there q i && same_meant caller whom q i)

  same_session : (q : ℕ) → session_of (at now q) ≡ session_of (at before q)
  same_session q = session_by_seen (at now q) ∙ ap (λ x. option_map_or (λ x. x.0.session) x 0) (same q) ∙ sym (session_by_seen (at before q))

  same_open : (creds : Creds) (q : ℕ) → is_open_to creds (at now q) ≡ is_open_to creds (at before q)
  same_open creds q = open_by_seen creds (at now q) ∙ ap (λ x. option_map_or (λ x. may_signal creds x.1) x false) (same q) ∙ sym (open_by_seen creds (at before q))

  pub same_permission : (caller : ℕ) (creds : Creds) (n q : ℕ) → may_kill now caller creds n q ≡ may_kill before caller creds n q
  same_permission caller creds n q = (λ i. same_open creds q i || ((n == SIGCONT) && (same_session q i == same_session caller i)))

-- ---- to each that is meant and may be sent to

-- what is still to be sent to those that were reached before the walk comes to what is sent in all
pub record IsSentTo (before now : World) (caller : ℕ) (creds : Creds) (who : Who) (signal after : ℕ) : Type 0 where
  pub rules : IsWorld now
  pub same : LooksAs now before
  pub world : sent_to_each now (above (is_reached before caller creds who signal) after before.procs.entries) signal ≡ sent_to_each before (reached before caller creds who signal) signal

pub sending_begins : (w : World) (caller : ℕ) (creds : Creds) (who : Who) (signal : ℕ) → IsWorld w → IsSentTo w w caller creds who signal 0
sending_begins w caller creds who signal rules = record {
  rules = rules;
  same = λ q. refl;
  world = ap (λ xs. sent_to_each w xs signal) (all_above (is_reached w caller creds who signal) w.procs.entries (no_target w caller creds who signal 0 (no_target_at_0 w caller who rules)) ∙ sym (reached_is w caller creds who signal));
}

module _ (before now : World) (caller : ℕ) (creds : Creds) (who : Who) (signal after : ℕ) (is : IsSentTo before now caller creds who signal after) where
  same_reached : (q : ℕ) → is_reached now caller creds who signal q ≡ is_reached before caller creds who signal q
  same_reached q = λ i. same_target now before is.same caller who q i && same_permission now before is.same caller creds signal q i

  pub sent_further : (next : ℕ) (then : World) → IsNext (is_reached now caller creds who signal) after (Some next) → IsWorld then → then ≡ sent now next signal
      → IsSentTo before then caller creds who signal next
  sent_further next then found rules e = record {
    rules = rules;
    same = λ q. ap (λ v. seen (at v q)) e ∙ sent_seen now next signal q ∙ is.same q;
    world =
        ap (λ v. sent_to_each v (above (is_reached before caller creds who signal) next before.procs.entries) signal) e
        ∙ ap (λ xs. sent_to_each now xs signal)
        (sym (next_above (is_reached before caller creds who signal) after next before.procs.entries before.procs.rising (reached_there before caller creds who signal next passes) found.0 passes
        (λ q beyond below. sym (same_reached q) ∙ found.2 q beyond below)))
        ∙ is.world;
  }
    where
      passes : is_reached before caller creds who signal next ≡ true
      passes = sym (same_reached next) ∙ found.1

  pub sending_ends : IsNext (is_reached now caller creds who signal) after None → now ≡ sent_to_each before (reached before caller creds who signal) signal
  sending_ends none =
      ap (λ xs. sent_to_each now xs signal) (sym (none_above (is_reached before caller creds who signal) after before.procs.entries (λ q lt. sym (same_reached q) ∙ none q lt)))
      ∙ is.world
