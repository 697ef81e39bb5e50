-- What the operations on sets leave as members.
use Rattle.std.specs.Prelude.{◌≡◌, ℕ, ◌==◌, Bool, true, false, cond, not, ◌&&◌, ◌||◌, List, [], ◌∷◌, Option, None, Some}
use Rattle.std.proofs.Common.{◌∙◌, ap, sym, refl}
use Rattle.std.specs.List.{list_any}
use Rattle.std.specs.Option.{is_some}
use Rattle.std.specs.Ordering.{nat_cmp, eq_by_cmp}
use Rattle.std.specs.Cmp.{nat_cmp_total, nat_eq_equiv, unsigned_tied}
use Rattle.std.specs.FinMap.{nat_cmp-IsAntisymmetric}
use Rattle.std.specs.FinMap.Entries.{find, find-put, find-where_key, same_entries}
use Rattle.sk_world.specs.Sets as set

-- ---- lemmas on truth values

some_or : (b : Bool) (x : Option (Unit {0})) → is_some (cond b (Some tt) x) ≡ (b || is_some x)
some_or true x = refl
some_or false x = refl

or_none : (b : Bool) (x : Option (Unit {0})) → is_some (cond b x None) ≡ (is_some x && b)
or_none true None = refl
or_none true (Some u) = refl
or_none false None = refl
or_none false (Some u) = refl

and_swap : (a b : Bool) → (a && b) ≡ (b && a)
and_swap true true = refl
and_swap true false = refl
and_swap false true = refl
and_swap false false = refl

or_swap : (a b c : Bool) → (a || (b || c)) ≡ (b || (a || c))
or_swap true true c = refl
or_swap true false c = refl
or_swap false b c = refl

or_false : (a : Bool) → a ≡ (a || false)
or_false true = refl
or_false false = refl

turned : (a b : ℕ) → (a == b) ≡ (b == a)
turned a b = nat_eq_equiv.symm a b

-- what a member has beside it, and what a number that is none has
abbrev marked : Bool → Option (Unit {0})
marked b = cond b (Some tt) None

-- nothing else is beside a number than what says whether it is a member
marks : (x : Option (Unit {0})) → x ≡ marked (is_some x)
marks None = refl
marks (Some u) = refl

-- ---- what they contain

-- the empty set has no member
pub contains-empty : (n : ℕ) → set.contains set.empty n ≡ false
unfolding set.contains set.empty
contains-empty n = refl

-- a member of a set with k is k, or one of the set
pub contains-insert : (s : set.NumberSet) (k n : ℕ) → set.contains (set.insert s k) n ≡ ((n == k) || set.contains s n)
unfolding set.contains set.insert
contains-insert s k n =
    ap is_some (find-put nat_cmp nat_cmp_total n k tt s.entries)
    ∙ some_or (eq_by_cmp nat_cmp n k) (find nat_cmp n s.entries)
    ∙ ap (λ b. b || is_some (find nat_cmp n s.entries)) (unsigned_tied n k)

-- those are left that pass the test
pub contains-retain : (s : set.NumberSet) (p : ℕ → Bool) (n : ℕ) → set.contains (set.retain s p) n ≡ (set.contains s n && p n)
unfolding set.contains set.retain
contains-retain s p n =
    ap is_some (find-where_key nat_cmp p n (λ x t. ap p (sym (nat_cmp-IsAntisymmetric n x t))) s.entries)
    ∙ or_none (p n) (find nat_cmp n s.entries)

-- all but k are left
pub contains-remove : (s : set.NumberSet) (k n : ℕ) → set.contains (set.remove s k) n ≡ (not (n == k) && set.contains s n)
unfolding set.remove
contains-remove s k n = contains-retain s (λ x. not (x == k)) n ∙ and_swap (set.contains s n) (not (n == k))

-- those are left that the other set has not
pub contains-difference : (s t : set.NumberSet) (n : ℕ) → set.contains (set.difference s t) n ≡ (set.contains s n && not (set.contains t n))
unfolding set.difference
contains-difference s t n = contains-retain s (λ k. not (set.contains t k)) n

-- the numbers of the list come to those of the set
contains-with_each : (s : set.NumberSet) (es : List (ℕ × Unit {0})) (n : ℕ) → set.contains (set.with_each s es) n ≡ (set.contains s n || is_some (find nat_cmp n es))
contains-with_each s [] n = or_false (set.contains s n)
contains-with_each s (e ∷ es) n =
    contains-insert (set.with_each s es) e.0 n
    ∙ ap (λ b. (n == e.0) || b) (contains-with_each s es n)
    ∙ or_swap (n == e.0) (set.contains s n) (is_some (find nat_cmp n es))
    ∙ ap (λ b. set.contains s n || (b || is_some (find nat_cmp n es))) (sym (unsigned_tied n e.0))
    ∙ ap (λ b. set.contains s n || b) (sym (some_or (eq_by_cmp nat_cmp n e.0) (find nat_cmp n es)))

-- a member of a union is one of either set
pub contains-union : (s t : set.NumberSet) (n : ℕ) → set.contains (set.union s t) n ≡ (set.contains s n || set.contains t n)
unfolding set.union set.contains
contains-union s t n = contains-with_each s t.entries n

-- the members are the numbers of the list
pub contains-from_list : (ns : List ℕ) (n : ℕ) → set.contains (set.from_list ns) n ≡ list_any (λ y. y == n) ns
unfolding set.from_list
contains-from_list [] n = contains-empty n
contains-from_list (k ∷ ns) n =
    contains-insert (set.from_list ns) k n
    ∙ ap (λ b. (n == k) || b) (contains-from_list ns n)
    ∙ ap (λ b. b || list_any (λ y. y == n) ns) (turned n k)

-- sets with the same members are the same
pub same_set : (s t : set.NumberSet) → ((n : ℕ) → set.contains s n ≡ set.contains t n) → s ≡ t
unfolding set.contains
same_set s t is =
    set.same_list s t (same_entries nat_cmp nat_cmp_total nat_cmp-IsAntisymmetric s.entries t.entries s.rising t.rising
    (λ n. marks _ ∙ ap marked (is n) ∙ sym (marks _)))
