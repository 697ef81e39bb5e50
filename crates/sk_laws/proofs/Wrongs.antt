-- Each wrong machine is refused by a run.
use Rattle.std.proofs.Common.{◌≡◌, ◌∙◌, ◌<ℤ◌, ℕ, ◌==◌, ◌||◌, arith, ap, sym, refl, subst, cond, Bool, true, false, length, IsTrue, IfSome, List, [], ◌∷◌, Option, None, Some}
use Rattle.sk_laws.specs.Common.{is_some, option_map, option_map_or, list_all, nat_cmp, Insn, Record, architecture, image_of, verdict_of, precedence_of, contains, SIGHUP, SIGCHLD, INIT, Proc, World, at, parent_of, body_changed, opening, signalled, Event, Deliver, Images, Authority, world_after, authority_at}
use Rattle.std.specs.FinMap.Entries.{find}
use Rattle.sk_world.proofs.Common.{ints, false≢true, eqb-true, and_parts}
use Rattle.sk_world.proofs.Maps.{same_number}
use Rattle.sk_laws.specs.AnyMachine.{GivesAuthorityByLineage, TellsEndsOnce, KeepsToConfined}
use Rattle.sk_laws.specs.ConfinementLaws.{RefusesKill, IsConfined, after_signals, is_of_stop, is_of_end}
use Rattle.sk_laws.proofs.LineageSteps.{authority_in}
use Rattle.sk_laws.proofs.KeptEvents.{kept_reached}
use Rattle.sk_laws.specs.Scripts.{nothing_given, given, plain, always, fork, execve, exit, wait4, kill, setuid, seccomp}
use Rattle.sk_laws.specs.WrongMachines.{forks_bare, forks_into_old, executes_bare, orphans_with_first_ids, leaves_zombies, performs_refused, stops_with_hangup, ends_with_hangup, WrongsAreRefused}
use Rattle.sk_laws.proofs.Computing.{worked_runs}

-- a filter that allows everything, and a program
allowing : Images
allowing = given (always 0x7fff0000 ∷ []) (plain ∷ [])

bare_forks : GivesAuthorityByLineage forks_bare → ⊥
unfolding allowing worked_runs
bare_forks law =
    let filters : 0 ≡ 1 = ap (λ (o : Option Authority). option_map_or (λ a. length a.filters) o 0) (law allowing opening (seccomp 1 1 0 0 ∷ fork 1 ∷ []) 2 refl) in
    absurd (omega (arith, filters))

forks_old : GivesAuthorityByLineage forks_into_old → ⊥
unfolding allowing worked_runs
forks_old law =
    let filters : 1 ≡ 0 = ap (λ (o : Option Authority). option_map_or (λ a. length a.filters) o 0) (law allowing opening (fork 1 ∷ seccomp 1 1 0 0 ∷ fork 2 ∷ []) 3 refl) in
    absurd (omega (arith, filters))

bare_executes : GivesAuthorityByLineage executes_bare → ⊥
unfolding allowing worked_runs
bare_executes law =
    let filters : 0 ≡ 1 = ap (λ (o : Option Authority). option_map_or (λ a. length a.filters) o 0) (law allowing opening (seccomp 1 1 0 0 ∷ execve 1 0 ∷ []) 1 refl) in
    absurd (omega (arith, filters))

orphans_first : GivesAuthorityByLineage orphans_with_first_ids → ⊥
unfolding worked_runs
orphans_first law =
    let id : 0 ≡ 5 = ap (λ (o : Option Authority). option_map_or (λ a. a.creds.real) o 0) (law nothing_given opening (fork 1 ∷ fork 2 ∷ setuid 3 5 ∷ exit 2 0 ∷ []) 3 refl) in
    absurd (omega (arith, id))

zombies_left : TellsEndsOnce leaves_zombies → ⊥
unfolding worked_runs
zombies_left law =
    false≢true (law nothing_given (world_after nothing_given opening (fork 1 ∷ exit 2 0 ∷ [])) (wait4 1 2 0) [] (wait4 1 2 0) 2 0 0 refl (omega arith) refl)

-- ---- confined processes
-- what holds of each process of a list holds of each that is in it
abbrev All : (ℕ → Type 0) → List (ℕ × Proc) → Type 0
All P [] = Unit {0}
All P (e ∷ es) = P e.0 × All P es

of_all : (P : ℕ → Type 0) (es : List (ℕ × Proc)) → All P es → (q : ℕ) → IsTrue (is_some (find nat_cmp q es)) → P q
of_all P [] all q there = absurd (false≢true there)
of_all P (e ∷ es) all q there =
    elim (q == e.0) as (λ b. (q == e.0) ≡ b → IsTrue (is_some (cond b (Some e.1) (find nat_cmp q es))) → P q) [
      | true ↦ λ is _. subst P (sym (eqb-true q e.0 is)) all.0
      | false ↦ λ _ there. of_all P es all.1 q there
    ] refl (ap (λ b. is_some (cond b (Some e.1) (find nat_cmp q es))) (sym (same_number q e.0)) ∙ there)

-- a filter that answers kill(2) of x86-64 with EPERM and allows all else, kill(2) of another architecture too
abbrev native_kill : List Insn
native_kill =
    record { code = 0x20; jt = 0; jf = 0; k = 4 }
    ∷ record { code = 0x15; jt = 0; jf = 3; k = architecture }
    ∷ record { code = 0x20; jt = 0; jf = 0; k = 0 }
    ∷ record { code = 0x15; jt = 0; jf = 1; k = 62 }
    ∷ record { code = 0x06; jt = 0; jf = 0; k = 0x00050001 }
    ∷ record { code = 0x06; jt = 0; jf = 0; k = 0x7fff0000 }
    ∷ []

-- that is enough
abbrev IsRefused : Record → Type 0
IsRefused call = precedence_of (verdict_of (native_kill ∷ []) call) <ℤ precedence_of 0x7ffc0000

refuses_kill : RefusesKill (native_kill ∷ [])
unfolding worked_runs
refuses_kill call is_native is =
    subst (λ arch. IsRefused (record call { arch = arch })) (sym is_native)
    (subst (λ nr. IsRefused (record call { nr = nr; arch = architecture })) (sym is) (omega (arith, ints)))

refusing : Images
refusing = given (image_of native_kill ∷ []) []

-- what confinement asks of one process
Fits : World → (ℕ → Bool) → ℕ → Type 0
Fits w inside q = (IsTrue (inside (parent_of (at w q))) → IsTrue (inside q)) × (IsTrue (inside q) → IfSome (authority_at w q) (λ a. RefusesKill a.filters))

if_there : (o : Option Proc) → (IsTrue (is_some o) → IfSome (authority_in o) (λ a. RefusesKill a.filters)) → IfSome (authority_in o) (λ a. RefusesKill a.filters)
if_there None refuses = tt
if_there (Some p) refuses = refuses refl

confined_by : (w : World) (inside : ℕ → Bool) → inside INIT ≡ false → All (Fits w inside) w.procs.entries → IsConfined w inside
unfolding Fits
confined_by w inside init fits = record {
  init = init;
  children = λ q there within. (of_all (Fits w inside) w.procs.entries fits q there).0 within;
  refuses = λ q within. if_there (at w q) (λ there. (of_all (Fits w inside) w.procs.entries fits q there).1 within);
}

-- ---- process 2 is confined beside process 3
beside : List Event
beside = fork 1 ∷ fork 1 ∷ seccomp 2 1 0 0 ∷ []

abbrev two : ℕ → Bool
two q = q == 2

two_fits : All (Fits (world_after refusing opening beside) two) (world_after refusing opening beside).procs.entries
unfolding Fits refusing beside worked_runs
two_fits = (
  (λ h. absurd (false≢true h), λ h. absurd (false≢true h)),
  (
    (λ h. refl, λ _. refuses_kill),
    (
      (λ h. absurd (false≢true h), λ h. absurd (false≢true h)),
      tt,
    ),
  ),
)

refused_performs : KeepsToConfined performs_refused → ⊥
unfolding refusing beside worked_runs
refused_performs law =
    let world : World = world_after refusing opening beside in
    let alone = law refusing world (kill 2 3 9) two 3 (kept_reached refusing beside) (confined_by world two refl two_fits) refl refl refl in
    let pending : true ≡ false = ap (λ o. option_map_or (λ p. contains p.body.signals.pending 9) o false) (alone.same refl refl) in
    false≢true (sym pending)

-- ---- process 3 is confined below process 2, and signal n is sent to it
below : ℕ → List Event
below n = fork 1 ∷ fork 2 ∷ seccomp 3 1 0 0 ∷ kill 1 3 n ∷ []

abbrev three : ℕ → Bool
three q = q == 3

stopping_fits : All (Fits (world_after refusing opening (below 19)) three) (world_after refusing opening (below 19)).procs.entries
unfolding Fits refusing below worked_runs
stopping_fits = (
  (λ h. absurd (false≢true h), λ h. absurd (false≢true h)),
  (
    (λ h. absurd (false≢true h), λ h. absurd (false≢true h)),
    (
      (λ h. refl, λ _. refuses_kill),
      tt,
    ),
  ),
)

killing_fits : All (Fits (world_after refusing opening (below 9)) three) (world_after refusing opening (below 9)).procs.entries
unfolding Fits refusing below worked_runs
killing_fits = (
  (λ h. absurd (false≢true h), λ h. absurd (false≢true h)),
  (
    (λ h. absurd (false≢true h), λ h. absurd (false≢true h)),
    (
      (λ h. refl, λ _. refuses_kill),
      tt,
    ),
  ),
)

-- a process after a signal, and whether SIGHUP is pending for it
abbrev after_signal : ℕ → Option Proc → Option Proc
after_signal n o = option_map (body_changed (signalled n false)) o

abbrev has_hangup : Option Proc → Bool
has_hangup o = option_map_or (λ p. contains p.body.signals.pending SIGHUP) o false

one_more : (n : ℕ) (rest : List ℕ) (o : Option Proc) → option_map (body_changed (after_signals false (n ∷ rest))) o ≡ option_map (body_changed (after_signals false rest)) (after_signal n o)
one_more n rest None = refl
one_more n rest (Some p) = refl

-- a process that one SIGCHLD more leaves as it is
still_told : (may_come : ℕ → Bool) → ((n : ℕ) → IsTrue (may_come n) → n ≡ SIGCHLD) → (o : Option Proc) → after_signal SIGCHLD o ≡ o → (signals : List ℕ) → IsTrue (list_all may_come signals)
    → option_map (body_changed (after_signals false signals)) o ≡ o
still_told may_come only None same signals all = refl
still_told may_come only (Some p) same [] all = refl
still_told may_come only (Some p) same (n ∷ rest) all =
    let both = and_parts (may_come n) (list_all may_come rest) all in
    one_more n rest (Some p)
    ∙ ap (option_map (body_changed (after_signals false rest))) (ap (λ n. after_signal n (Some p)) (only n both.0) ∙ same)
    ∙ still_told may_come only (Some p) same rest both.1

-- however often it gets SIGCHLD, no SIGHUP is pending
no_hangup : (may_come : ℕ → Bool) → ((n : ℕ) → IsTrue (may_come n) → n ≡ SIGCHLD) → (o now : Option Proc) → has_hangup o ≡ false → has_hangup (after_signal SIGCHLD o) ≡ false
    → after_signal SIGCHLD (after_signal SIGCHLD o) ≡ after_signal SIGCHLD o → (signals : List ℕ) → IsTrue (list_all may_come signals)
    → now ≡ option_map (body_changed (after_signals false signals)) o → has_hangup now ≡ false
no_hangup may_come only o now first then same [] all is = ap has_hangup (is ∙ nothing o) ∙ first
  where
    nothing : (o : Option Proc) → option_map (body_changed (λ body. body)) o ≡ o
    nothing None = refl
    nothing (Some p) = refl
no_hangup may_come only o now first then same (n ∷ rest) all is =
    let both = and_parts (may_come n) (list_all may_come rest) all in
    ap has_hangup (is ∙ one_more n rest o ∙ ap (option_map (body_changed (after_signals false rest))) (ap (λ n. after_signal n o) (only n both.0))
    ∙ still_told may_come only (after_signal SIGCHLD o) same rest both.1)
    ∙ then

only_of_stop : (to_parent : Bool) (n : ℕ) → IsTrue (is_of_stop to_parent n) → n ≡ SIGCHLD
only_of_stop true n is = eqb-true n SIGCHLD is
only_of_stop false n is = absurd (false≢true is)

only_of_end : (n : ℕ) → IsTrue (is_of_end false n) → n ≡ SIGCHLD
only_of_end n is = elim (n == SIGCHLD) as (λ b. (n == SIGCHLD) ≡ b → IsTrue (b || false) → n ≡ SIGCHLD) [
  | true ↦ λ same _. eqb-true n SIGCHLD same
  | false ↦ λ _ is. absurd (false≢true is)
] refl is

stop_hangs_up : KeepsToConfined stops_with_hangup → ⊥
unfolding refusing below worked_runs
stop_hangs_up law =
    let world : World = world_after refusing opening (below 19) in
    let alone = law refusing world (Deliver 3) three 2 (kept_reached refusing (below 19)) (confined_by world three refl stopping_fits) refl refl refl in
    let told = alone.stop refl in
    false≢true (sym (no_hangup (is_of_stop true) (only_of_stop true) (at world 2) _ refl refl refl told.0 told.1 told.2))

end_hangs_up : KeepsToConfined ends_with_hangup → ⊥
unfolding refusing below worked_runs
end_hangs_up law =
    let world : World = world_after refusing opening (below 9) in
    let alone = law refusing world (Deliver 3) three 2 (kept_reached refusing (below 9)) (confined_by world three refl killing_fits) refl refl refl in
    let told = alone.end refl in
    false≢true (sym (no_hangup (is_of_end false) only_of_end (at world 2) _ refl refl refl told.0 told.1 told.2))

pub wrongs_are_refused : WrongsAreRefused
wrongs_are_refused = record {
  forks_bare = bare_forks;
  forks_into_old = forks_old;
  executes_bare = bare_executes;
  orphans_with_first_ids = orphans_first;
  leaves_zombies = zombies_left;
  performs_refused = refused_performs;
  stops_with_hangup = stop_hangs_up;
  ends_with_hangup = end_hangs_up;
}
