-- What the words on the map of processes give, pid by pid.
use Rattle.std.proofs.Common.{◌≡◌, ◌∙◌, ◌+◌, ◌-◌, ◌==◌, ℕ, arith, ap, sym, refl, Bool, true, false, cond, not, List, [], ◌∷◌, length, Option, None, Some}
use Rattle.sk_world.specs.Common.{is_some, option_and_then, nat_cmp, eq_by_cmp, nat_cmp_total, find, where_key, find-put, find-where_key, length-put, length_without, same_entries, Proc, Processes, get, count, store, each_of, each, same_processes}
use Rattle.std.specs.FinMap.{nat_cmp-IsAntisymmetric}
use Rattle.sk_world.proofs.Common.{nat_tests}

pub same_number : (a b : ℕ) → eq_by_cmp nat_cmp a b ≡ (a == b)
same_number a b = grind (arith, nat_tests)

pub equal_numbers : (a b : ℕ) → (a == b) ≡ true → a ≡ b
equal_numbers a b h = grind (arith, nat_tests, h)

turned : (a b : ℕ) → (a == b) ≡ (b == a)
turned a b = grind (arith, nat_tests)

cond_not : {A : Type 0} (b : Bool) (x y : A) → cond (not b) x y ≡ cond b y x
cond_not true x y = refl
cond_not false x y = refl

-- after a change of one pid it leads to what it was given, and each other pid to what it led to
pub get_store : (m : Processes) (k : ℕ) (o : Option Proc) (q : ℕ) → get (store m k o) q ≡ cond (q == k) o (get m q)
get_store m k None q =
    find-where_key nat_cmp (λ x. not (x == k)) q (λ x t. ap (λ y. not (y == k)) (sym (nat_cmp-IsAntisymmetric q x t))) m.entries
    ∙ cond_not (q == k) (get m q) None
get_store m k (Some p) q =
    find-put nat_cmp nat_cmp_total q k p m.entries ∙ ap (λ b. cond b (Some p) (get m q)) (same_number q k)

-- maps with the same processes are the same
pub same_map : (m n : Processes) → ((q : ℕ) → get m q ≡ get n q) → m ≡ n
same_map m n is =
    same_processes m n (same_entries nat_cmp nat_cmp_total nat_cmp-IsAntisymmetric m.entries n.entries m.rising n.rising is)

shadowed : {A : Type 0} (b : Bool) (x y z : A) → cond b x (cond b y z) ≡ cond b x z
shadowed true x y z = refl
shadowed false x y z = refl

-- the later of two changes of one pid stands
pub store_twice : (m : Processes) (k : ℕ) (o later : Option Proc) → store (store m k o) k later ≡ store m k later
store_twice m k o later =
    same_map _ _
    (λ q. get_store (store m k o) k later q ∙ ap (cond (q == k) later) (get_store m k o q)
    ∙ shadowed (q == k) later o (get m q) ∙ sym (get_store m k later q))

-- an entry more
each_more : (f : ℕ → Proc → Option Proc) (k : ℕ) (p : Proc) (q : ℕ) (rest : Option Proc)
    → cond (q == k) (f k p) (option_and_then (f q) rest) ≡ option_and_then (f q) (cond (q == k) (Some p) rest)
each_more f k p q rest =
    elim (q == k) as (λ b. (q == k) ≡ b → cond b (f k p) (option_and_then (f q) rest) ≡ option_and_then (f q) (cond b (Some p) rest)) [
      | true ↦ λ is. ap (λ n. f n p) (sym (equal_numbers q k is))
      | false ↦ λ is. refl
    ] refl

get_each_of : (f : ℕ → Proc → Option Proc) (es : List (ℕ × Proc)) (q : ℕ) → get (each_of f es) q ≡ option_and_then (f q) (find nat_cmp q es)
get_each_of f [] q = refl
get_each_of f (e ∷ es) q =
    get_store (each_of f es) e.0 (f e.0 e.1) q
    ∙ ap (cond (q == e.0) (f e.0 e.1)) (get_each_of f es q)
    ∙ each_more f e.0 e.1 q (find nat_cmp q es)
    ∙ ap (λ b. option_and_then (f q) (cond b (Some e.1) (find nat_cmp q es))) (sym (same_number q e.0))

-- after a change of every process each pid leads to what its process became
pub get_each : (f : ℕ → Proc → Option Proc) (m : Processes) (q : ℕ) → get (each f m) q ≡ option_and_then (f q) (get m q)
get_each f m q = get_each_of f m.entries q

one_less : (b : Bool) (a n : ℕ) → cond b 1 0 + a ≡ n → a ≡ cond b (n - 1) n
one_less true a n e = omega (arith, e)
one_less false a n e = omega (arith, e)

-- how many processes there are after a change of one
pub count_put : (m : Processes) (k : ℕ) (p : Proc) → count (store m k (Some p)) ≡ cond (is_some (get m k)) (count m) (count m + 1)
count_put m k p = length-put nat_cmp nat_cmp_total k p m.entries m.rising

same_tests : (k x : ℕ) → not (x == k) ≡ not (eq_by_cmp nat_cmp k x)
same_tests k x = ap not (turned x k ∙ sym (same_number k x))

pub count_gone : (m : Processes) (k : ℕ) → count (store m k None) ≡ cond (is_some (get m k)) (count m - 1) (count m)
count_gone m k =
    (λ i. length (where_key nat_cmp (λ x. same_tests k x i) m.entries))
    ∙ one_less (is_some (get m k)) _ _ (length_without nat_cmp nat_cmp_total k m.entries m.rising)
