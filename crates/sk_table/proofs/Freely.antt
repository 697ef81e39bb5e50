-- The search for the next free number.
use Rattle.std.proofs.Common.{◌≡◌, ◌∙◌, ◌<◌, ℕ, zero, suc, ap, sym, refl, Bool, true, false, cond, List, get_or, Option, None, Some, nat_lt}
use Rattle.sk_table.proofs.Common.{is_used, next_number, free_from, fresh_of, World, IsNext, IsLeastAbove, uses_in, first_unused, NUMBERS}
use Rattle.sk_table.proofs.Indexing.{used_counts}

pub free_here : (used : ℕ → Bool) (more n : ℕ) → used n ≡ false → first_unused used more n ≡ n
unfolding first_unused
free_here used zero n e = refl
free_here used (suc more) n e = ap (λ b. cond b (first_unused used more (next_number n)) n) e

pub free_later : (used : ℕ → Bool) (more rest n : ℕ) → more ≡ suc rest → used n ≡ true → first_unused used more n ≡ first_unused used rest (next_number n)
unfolding first_unused
free_later used more rest n is e =
    ap (λ (m : ℕ). first_unused used m n) is ∙ ap (λ b. cond b (first_unused used rest (next_number n)) n) e

pub free_last : (used : ℕ → Bool) (n : ℕ) → first_unused used 0 n ≡ n
unfolding first_unused
free_last used n = refl

unused_is : (used : ℕ → Bool) (w : World) → ((n : ℕ) → used n ≡ is_used w n) → (more n : ℕ) → first_unused used more n ≡ free_from more w n
unfolding first_unused
unused_is used w same zero n = refl
unused_is used w same (suc more) n =
    ap (λ b. cond b (first_unused used more (next_number n)) n) (same n)
    ∙ ap (λ (m : ℕ). cond (is_used w n) m n) (unused_is used w same more (next_number n))

-- in a world where these are in use it is the next pid
pub fresh_is : (used : ℕ → Bool) (w : World) (last : ℕ) → last ≡ w.last → ((n : ℕ) → used n ≡ is_used w n) → first_unused used NUMBERS (next_number last) ≡ fresh_of w
unfolding fresh_of
fresh_is used w last is same = ap (λ (n : ℕ). first_unused used NUMBERS (next_number n)) is ∙ unused_is used w same NUMBERS (next_number w.last)

-- the counts of uses tell which are used
pub used_is : (w : World) (counts : List ℕ) → ((n : ℕ) → get_or counts n 0 ≡ uses_in n w.procs.entries) → (n : ℕ) → nat_lt 0 (get_or counts n 0) ≡ is_used w n
used_is w counts uses n = ap (nat_lt 0) (uses n) ∙ sym (used_counts n w.procs.entries)

-- the least number above another one, by a test that says the same
pub next_is : (test same : ℕ → Bool) (after : ℕ) (next : Option ℕ) → ((n : ℕ) → after < n → same n ≡ test n) → IsLeastAbove test after next → IsNext same after next
next_is test same after None agrees least = λ n above. agrees n above ∙ least n above
next_is test same after (Some next) agrees least =
    (least.0, agrees next least.0 ∙ least.1, λ n above below. agrees n above ∙ least.2 n above below)
