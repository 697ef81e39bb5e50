-- One SIGCHLD for all the zombies that are handed on.
use Rattle.std.proofs.Common.{◌≡◌, ◌∙◌, ℕ, ap, sym, refl, Bool, true, false, cond, not, ◌&&◌, ◌||◌, List, [], ◌∷◌, map, filter}
use Rattle.sk_laws.specs.Common.{list_any, SIGCHLD, pids, World, at, is_zombie, is_child_of, sent, sent_to_each, new_parent, with_children_handed_on, has_zombie_child}
use Rattle.sk_laws.specs.ChangeLaws.{EachZombieIsAnnounced}
use Rattle.sk_laws.proofs.Locality.{not_queued}

has_some : List ℕ → Bool
has_some [] = false
has_some (x ∷ xs) = true

-- sent as often as there are numbers, or once
sent_for_each : (w : World) (pid n : ℕ) (xs : List ℕ) → sent_to_each w (map (λ x. pid) xs) n ≡ cond (has_some xs) (sent w pid n) w
unfolding has_some
sent_for_each w pid n [] = refl
sent_for_each w pid n (x ∷ xs) = sent_for_each (sent w pid n) pid n xs ∙ same (has_some xs)
  where
    same : (b : Bool) → cond b (sent (sent w pid n) pid n) (sent w pid n) ≡ sent w pid n
    same true = not_queued w pid n
    same false = refl

-- some pass where some are left
some_left : (t : ℕ → Bool) (xs : List ℕ) → has_some (filter t xs) ≡ list_any t xs
unfolding has_some
some_left t [] = refl
some_left t (x ∷ xs) = elim (t x) as (λ b. has_some (cond b (x ∷ filter t xs) (filter t xs)) ≡ (b || list_any t xs)) [
  | true ↦ refl
  | false ↦ some_left t xs
]

pub each_announced : EachZombieIsAnnounced
each_announced w pid stay =
    let handed : World = with_children_handed_on w pid in
    let parent : ℕ = new_parent w pid in
    let is_zombie_child : ℕ → Bool = λ k. is_child_of pid (at w k) && is_zombie (at w k) in
    ap (λ b. cond (has_zombie_child w pid && not b) (sent handed parent SIGCHLD) handed) stay
    ∙ shown (has_zombie_child w pid)
    ∙ ap (λ b. cond b (sent handed parent SIGCHLD) handed) (sym (some_left is_zombie_child (pids w.procs)))
    ∙ sym (sent_for_each handed parent SIGCHLD (filter is_zombie_child (pids w.procs)))
  where
    shown : (b : Bool) → cond (b && true) (sent (with_children_handed_on w pid) (new_parent w pid) SIGCHLD) (with_children_handed_on w pid)
        ≡ cond b (sent (with_children_handed_on w pid) (new_parent w pid) SIGCHLD) (with_children_handed_on w pid)
    shown true = refl
    shown false = refl
