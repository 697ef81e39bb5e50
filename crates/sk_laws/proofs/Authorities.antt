-- Who comes from whom, with which authority.
use Rattle.std.proofs.Common.{◌≡◌, ◌∙◌, ℕ, ap, sym, refl, subst, Option, None, Some}
use Rattle.sk_laws.specs.Common.{is_some, unwrap_or, option_map, Links, Body, Proc, Poll, World, at, body_changed, changed, links_changed, relinked, sent, ended, told, Authority, authority_of}
use Rattle.sk_world.proofs.Common.{false≢true}
use Rattle.sk_laws.specs.ChangeLaws.{StaysInRights, KeepsRights}
use Rattle.sk_world.proofs.Stored.{everywhere, at_here}
use Rattle.sk_laws.proofs.Rights.{sent_rights, told_rights, ended_rights}
use Rattle.sk_laws.proofs.Carrying.{Carries}

-- a process that is here now was there before, with another authority
abbrev pub CameBy : (Authority → Authority) → Option Proc → Option Proc → Type 0
CameBy f now before = (p : Proc) → now ≡ Some p → (old : Proc) × (before ≡ Some old) × (authority_of p.body ≡ f (authority_of old.body))

-- with the same
abbrev pub Came : Option Proc → Option Proc → Type 0
Came now before = CameBy (λ a. a) now before

-- nobody's authority has changed
abbrev pub Keeps : World → World → Type 0
Keeps w after = (q : ℕ) → Came (at after q) (at w q)

pub came_still : (o : Option Proc) → Came o o
came_still o = λ p is. (p, is, refl)

pub nobody_came : (f : Authority → Authority) (o : Option Proc) → CameBy f None o
nobody_came f o = λ p is. absurd (false≢true (ap is_some is))

-- the process that an option holds
held : (now p : Proc) → Some now ≡ Some p → now ≡ p
held now p is = ap (λ o. unwrap_or o now) is

pub came_one : (f : Authority → Authority) (now old : Proc) → authority_of now.body ≡ f (authority_of old.body) → CameBy f (Some now) (Some old)
came_one f now old same = λ p is. (old, refl, ap (λ (x : Proc). authority_of x.body) (sym (held now p is)) ∙ same)

pub came_twice : (a b c : Option Proc) → Came b a → Came c b → Came c a
came_twice a b c first later = λ p is.
    let middle = later p is in
    let old = first middle.0 middle.1 in
    (old.0, old.1, middle.2 ∙ old.2)

pub came_by_rights : (now before : Option Proc) → StaysInRights now before → Came now before
came_by_rights now before rights = λ p is.
    let old = rights p is in
    (old.0, old.1, λ i. record { filters = old.2.filters i; creds = old.2.creds i })

pub keeps_by_rights : (w after : World) → KeepsRights w after → Keeps w after
keeps_by_rights w after rights q = came_by_rights (at after q) (at w q) (rights q)

pub keeps_still : (w : World) → Keeps w w
keeps_still w q = came_still (at w q)

pub keeps_twice : (v w x : World) → Keeps v w → Keeps w x → Keeps v x
keeps_twice v w x first later q = came_twice (at v q) (at w q) (at x q) (first q) (later q)

came_changed : (f : Authority → Authority) (g : Body → Body) (o : Option Proc) → ((p : Proc) → o ≡ Some p → authority_of (g p.body) ≡ f (authority_of p.body)) → CameBy f (option_map (body_changed g) o) o
came_changed f g None same = nobody_came f None
came_changed f g (Some old) same = came_one f (body_changed g old) old (same old refl)

-- a change of one body that leaves its authority
pub keeps_changed : (w : World) (pid : ℕ) (g : Body → Body) → ((body : Body) → authority_of (g body) ≡ authority_of body) → Keeps w (changed w pid g)
keeps_changed w pid g same =
    everywhere w pid (option_map (body_changed g) (at w pid)) (λ k x. Came x (at w k)) (came_changed (λ a. a) g (at w pid) (λ p _. same p.body)) (λ q ne. came_still (at w q))

-- a change of one body to another authority
pub came_at : (w : World) (pid : ℕ) (f : Authority → Authority) (g : Body → Body) → ((p : Proc) → at w pid ≡ Some p → authority_of (g p.body) ≡ f (authority_of p.body)) → CameBy f (at (changed w pid g) pid) (at w pid)
came_at w pid f g same = subst (λ x. CameBy f x (at w pid)) (sym (at_here w pid (option_map (body_changed g) (at w pid)))) (came_changed f g (at w pid) same)

keeps_links : (w : World) (pid : ℕ) (f : Links → Links) → Keeps w (relinked w pid f)
keeps_links w pid f = everywhere w pid (option_map (links_changed f) (at w pid)) (λ k x. Came x (at w k)) (same (at w pid)) (λ q ne. came_still (at w q))
  where
    same : (o : Option Proc) → Came (option_map (links_changed f) o) o
    same None = nobody_came (λ a. a) None
    same (Some old) = came_one (λ a. a) (links_changed f old) old refl

pub keeps_sent : (w : World) (pid n : ℕ) → Keeps w (sent w pid n)
keeps_sent w pid n = keeps_by_rights w (sent w pid n) (sent_rights w pid n)

pub keeps_ended : (w : World) (pid status : ℕ) → Keeps w (ended w pid status)
keeps_ended w pid status = keeps_by_rights w (ended w pid status) (ended_rights w pid status)

keeps_told : (w : World) (child status : ℕ) → Keeps w (told w (Poll.Told child status))
keeps_told w child status = keeps_by_rights w (told w (Poll.Told child status)) (told_rights w child status)

-- so every call, delivery and resumption that does no more leaves every authority
pub keeps : Carries Keeps
keeps = record {
  still = keeps_still;
  twice = keeps_twice;
  changed = λ w pid g ordinary. keeps_changed w pid g (λ body. (ordinary body).0);
  links = λ w pid f _. keeps_links w pid f;
  sent = keeps_sent;
  ended = λ w pid status _. keeps_ended w pid status;
  telling = keeps_told;
}
