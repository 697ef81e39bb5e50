-- What a change of one process gives, pid by pid, and which of them keep the rules of the world.
use Rattle.std.proofs.Common.{◌≡◌, ◌≢◌, ◌∙◌, ◌+◌, ◌-◌, ◌≤◌, ◌==◌, ℕ, arith, ap, sym, refl, subst, Bool, true, false, cond, not, ◌&&◌, IsTrue, IsFalse, Option, None, Some}
use Rattle.sk_world.specs.Common.{is_some, option_map, INIT, Links, Body, Proc, count, store, World, at, has_ended, has_stopped, is_zombie, is_alive, is_halted, parent_of, stored, body_changed, changed, links_changed, IsWorld, is_init, has_links_within}
use Rattle.sk_world.proofs.Common.{eq-eqb, ne_eqb, eqb-true, eqb-false, false≢true, and_parts, and_from, not-true}
use Rattle.sk_world.specs.laws.WorldLaws.{KeepsGoing, Regroups, ChangeKeepsRules, LinksKeepRules, RemovalKeepsRules}
use Rattle.sk_world.proofs.Maps.{get_store, store_twice, count_put, count_gone}

-- what holds of the process that is put at a pid, and of every other, holds of each
pub everywhere : (w : World) (pid : ℕ) (o : Option Proc) (P : ℕ → Option Proc → Type 0)
    → P pid o → ((q : ℕ) → q ≢ pid → P q (at w q)) → (q : ℕ) → P q (at (stored w pid o) q)
everywhere w pid o P here there q =
    subst (P q) (sym (get_store w.procs pid o q)) (elim (q == pid) as (λ b. (q == pid) ≡ b → P q (cond b o (at w q))) [
      | true ↦ λ is. subst (λ k. P k o) (sym (eqb-true q pid is)) here
      | false ↦ λ is. there q (eqb-false q pid is)
    ] refl)

pub at_here : (w : World) (pid : ℕ) (o : Option Proc) → at (stored w pid o) pid ≡ o
at_here w pid o = get_store w.procs pid o pid ∙ ap (λ b. cond b o (at w pid)) (eq-eqb pid pid refl)

pub at_other : (w : World) (pid : ℕ) (o : Option Proc) (q : ℕ) → q ≢ pid → at (stored w pid o) q ≡ at w q
at_other w pid o q ne = get_store w.procs pid o q ∙ ap (λ b. cond b o (at w q)) (ne_eqb q pid ne)

-- the later of two changes of one process stands
pub stored_twice : (w : World) (pid : ℕ) (o later : Option Proc) → stored (stored w pid o) pid later ≡ stored w pid later
stored_twice w pid o later = λ i. record { procs = store_twice w.procs pid o later i; last = w.last }

both : (f g : Body → Body) (o : Option Proc) → option_map (body_changed g) (option_map (body_changed f) o) ≡ option_map (body_changed (λ body. g (f body))) o
both f g None = refl
both f g (Some p) = refl

-- two changes of one body are one
pub changed_twice : (w : World) (pid : ℕ) (f g : Body → Body) → changed (changed w pid f) pid g ≡ changed w pid (λ body. g (f body))
changed_twice w pid f g =
    let once : Option Proc = option_map (body_changed f) (at w pid) in
    ap (λ o. stored (stored w pid once) pid (option_map (body_changed g) o)) (at_here w pid once)
    ∙ stored_twice w pid once (option_map (body_changed g) once)
    ∙ ap (stored w pid) (both f g (at w pid))

pub fewer : (b : Bool) (n : ℕ) → cond b (n - 1) n ≤ n
fewer true n = omega arith
fewer false n = omega arith

pub no_more : (w : World) (pid : ℕ) (o : Option Proc) → (IsTrue (is_some o) → IsTrue (is_some (at w pid))) → count (store w.procs pid o) ≤ count w.procs
no_more w pid None known = subst (λ n. n ≤ count w.procs) (sym (count_gone w.procs pid)) (fewer (is_some (at w pid)) (count w.procs))
no_more w pid (Some p) known =
    let same : count (store w.procs pid (Some p)) ≡ count w.procs = count_put w.procs pid p ∙ ap (λ b. cond b (count w.procs) (count w.procs + 1)) (known refl) in
    omega (arith, same)

-- the process that can be put at a pid so that the rules stay
pub record Fits (w : World) (pid : ℕ) (o : Option Proc) : Type 0 where
  pub known : IsTrue (is_some o) → IsTrue (is_some (at w pid))
  pub within : IsTrue (has_links_within o)
  pub parent : IsTrue (is_some o) → parent_of o ≡ parent_of (at w pid)
  pub init : pid ≡ INIT → IsTrue (is_init o)
  pub halted : pid ≡ INIT → is_zombie o ≡ false → is_zombie (at w INIT) ≡ false
  pub children : IsFalse (is_halted w) → IsFalse (is_halted (stored w pid o)) → (q : ℕ) → q ≢ INIT → IsTrue (is_some (at w q)) → parent_of (at w q) ≡ pid → IsTrue (is_alive o)

going : (w : World) (pid : ℕ) (o : Option Proc) → Fits w pid o → IsFalse (is_halted (stored w pid o)) → IsFalse (is_halted w)
going w pid o fits now =
    everywhere w pid o (λ k x. k ≡ INIT → is_zombie x ≡ false → is_zombie (at w INIT) ≡ false) fits.halted
    (λ q ne is h. ap (λ k. is_zombie (at w k)) (sym is) ∙ h) INIT refl now

was_there : (w : World) (pid : ℕ) (o : Option Proc) → Fits w pid o → (q : ℕ) → IsTrue (is_some (at (stored w pid o) q)) → IsTrue (is_some (at w q))
was_there w pid o fits = everywhere w pid o (λ k x. IsTrue (is_some x) → IsTrue (is_some (at w k))) fits.known (λ q ne h. h)

same_parent : (w : World) (pid : ℕ) (o : Option Proc) → Fits w pid o → (q : ℕ) → IsTrue (is_some (at (stored w pid o) q)) → parent_of (at (stored w pid o) q) ≡ parent_of (at w q)
same_parent w pid o fits = everywhere w pid o (λ k x. IsTrue (is_some x) → parent_of x ≡ parent_of (at w k)) fits.parent (λ q ne h. refl)

pub kept_stored : (w : World) (pid : ℕ) (o : Option Proc) → IsWorld w → Fits w pid o → IsWorld (stored w pid o)
kept_stored w pid o rules fits = record {
  init = everywhere w pid o (λ k x. k ≡ INIT → IsTrue (is_init x)) fits.init (λ q ne is. ap (λ k. is_init (at w k)) is ∙ rules.init) INIT refl;
  room = let fewer = no_more w pid o fits.known in let room = rules.room in omega arith;
  pids = λ q there. rules.pids q (was_there w pid o fits q there);
  links = everywhere w pid o (λ k x. IsTrue (has_links_within x)) fits.within (λ q ne. rules.links q);
  last = rules.last;
  parents = λ now q ne there.
      let before = was_there w pid o fits q there in
      let was_going = going w pid o fits now in
      ap (λ k. is_alive (at (stored w pid o) k)) (same_parent w pid o fits q there)
      ∙ everywhere w pid o (λ k x. k ≡ parent_of (at w q) → IsTrue (is_alive x))
      (λ is. fits.children was_going now q ne before (sym is))
      (λ k other is. ap (λ k. is_alive (at w k)) is ∙ rules.parents was_going q ne before)
      (parent_of (at w q)) refl;
}

-- the parent of a process lives
pub parent_lives : (w : World) (pid : ℕ) (o : Option Proc) → at w pid ≡ o → IsWorld w → IsFalse (is_halted w)
    → (q : ℕ) → q ≢ INIT → IsTrue (is_some (at w q)) → parent_of (at w q) ≡ pid → IsTrue (is_alive o)
parent_lives w pid o is rules now q ne there parent =
    ap is_alive (sym is) ∙ ap (λ k. is_alive (at w k)) (sym parent) ∙ rules.parents now q ne there

init_is : (w : World) (pid : ℕ) (o : Option Proc) → at w pid ≡ o → IsWorld w → pid ≡ INIT → IsTrue (is_init o)
init_is w pid o is rules e = ap is_init (sym is) ∙ ap (λ k. is_init (at w k)) e ∙ rules.init

pub nobody_fits : (w : World) (pid : ℕ) → at w pid ≡ None → IsWorld w → Fits w pid None
nobody_fits w pid is rules = record {
  known = λ h. absurd (false≢true h);
  within = refl;
  parent = λ h. absurd (false≢true h);
  init = init_is w pid None is rules;
  halted = λ e h. absurd (false≢true (init_is w pid None is rules e));
  children = λ before now. parent_lives w pid None is rules before;
}

-- process 1 is still never stopped
init_with : (a b c : Bool) → IsTrue (a && not b) → (IsTrue c → IsTrue b) → IsTrue (a && not c)
init_with a b true h keeps = absurd (false≢true (sym (not-true b (and_parts a (not b) h).1) ∙ keeps refl))
init_with a b false h keeps = and_from a true (and_parts a (not b) h).0 refl

fits_changed : (w : World) (pid : ℕ) (f : Body → Body) (o : Option Proc) → at w pid ≡ o → IsWorld w → ((p : Proc) → o ≡ Some p → KeepsGoing pid f p.body) → Fits w pid (option_map (body_changed f) o)
fits_changed w pid f None is rules keeps = nobody_fits w pid is rules
fits_changed w pid f (Some p) is rules keeps =
    let kept = keeps p refl in
    record {
      known = λ h. ap is_some is;
      within = ap has_links_within (sym is) ∙ rules.links pid;
      parent = λ h. ap parent_of (sym is);
      init = λ e. init_with (p.links.parent == 0) (has_stopped p.body.life) (has_stopped (f p.body).life) (init_is w pid (Some p) is rules e) (kept.init e);
      halted = λ e h. ap (λ k. is_zombie (at w k)) (sym e) ∙ ap is_zombie is ∙ sym kept.ended ∙ h;
      children = λ before now q ne there parent. ap not kept.ended ∙ parent_lives w pid (Some p) is rules before q ne there parent;
    }

pub kept_changed : ChangeKeepsRules
kept_changed w pid f rules keeps = kept_stored w pid _ rules (fits_changed w pid f (at w pid) refl rules keeps)

fits_links : (w : World) (pid : ℕ) (f : Links → Links) (o : Option Proc) → at w pid ≡ o → IsWorld w → ((p : Proc) → o ≡ Some p → Regroups f p.links) → Fits w pid (option_map (links_changed f) o)
fits_links w pid f None is rules regroups = nobody_fits w pid is rules
fits_links w pid f (Some p) is rules regroups =
    let kept = regroups p refl in
    record {
      known = λ h. ap is_some is;
      within = kept.within;
      parent = λ h. kept.parent ∙ ap parent_of (sym is);
      init = λ e. ap (λ n. (n == 0) && not (has_stopped p.body.life)) kept.parent ∙ init_is w pid (Some p) is rules e;
      halted = λ e h. ap (λ k. is_zombie (at w k)) (sym e) ∙ ap is_zombie is ∙ h;
      children = λ before now. parent_lives w pid (Some p) is rules before;
    }

pub kept_links : LinksKeepRules
kept_links w pid f rules regroups = kept_stored w pid _ rules (fits_links w pid f (at w pid) refl rules regroups)

-- a process that has ended is not alive
not_alive : (o : Option Proc) → IsTrue (is_zombie o) → IsTrue (is_alive o) → ⊥
not_alive None ended alive = false≢true ended
not_alive (Some p) ended alive = false≢true (sym (not-true (has_ended p.body.life) alive) ∙ ended)

-- a process without children can go
fits_none : (w : World) (pid : ℕ) → pid ≢ INIT
    → (IsFalse (is_halted w) → (q : ℕ) → q ≢ INIT → IsTrue (is_some (at w q)) → parent_of (at w q) ≢ pid) → Fits w pid None
fits_none w pid ne alone = record {
  known = λ h. absurd (false≢true h);
  within = refl;
  parent = λ h. absurd (false≢true h);
  init = λ e. absurd (ne e);
  halted = λ e. absurd (ne e);
  children = λ before now q other there parent. absurd (alone before q other there parent);
}

pub kept_gone : (w : World) (pid : ℕ) → IsWorld w → pid ≢ INIT
    → (IsFalse (is_halted w) → (q : ℕ) → q ≢ INIT → IsTrue (is_some (at w q)) → parent_of (at w q) ≢ pid) → IsWorld (stored w pid None)
kept_gone w pid rules ne alone = kept_stored w pid None rules (fits_none w pid ne alone)

pub kept_removed : RemovalKeepsRules
kept_removed w pid rules ne zombie =
    kept_gone w pid rules ne (λ now q other there parent. not_alive (at w pid) zombie (parent_lives w pid (at w pid) refl rules now q other there parent))

-- a process without children can end
fits_alone : (w : World) (pid : ℕ) (f : Body → Body) (o : Option Proc) → at w pid ≡ o → IsWorld w → pid ≢ INIT
    → (IsFalse (is_halted w) → (q : ℕ) → q ≢ INIT → IsTrue (is_some (at w q)) → parent_of (at w q) ≢ pid) → Fits w pid (option_map (body_changed f) o)
fits_alone w pid f None is rules ne alone = nobody_fits w pid is rules
fits_alone w pid f (Some p) is rules ne alone = record {
  known = λ h. ap is_some is;
  within = ap has_links_within (sym is) ∙ rules.links pid;
  parent = λ h. ap parent_of (sym is);
  init = λ e. absurd (ne e);
  halted = λ e. absurd (ne e);
  children = λ before now q other there parent. absurd (alone before q other there parent);
}

pub kept_alone : (w : World) (pid : ℕ) (f : Body → Body) → IsWorld w → pid ≢ INIT
    → (IsFalse (is_halted w) → (q : ℕ) → q ≢ INIT → IsTrue (is_some (at w q)) → parent_of (at w q) ≢ pid) → IsWorld (changed w pid f)
kept_alone w pid f rules ne alone = kept_stored w pid _ rules (fits_alone w pid f (at w pid) refl rules ne alone)
