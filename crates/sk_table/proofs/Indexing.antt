-- What stands beside the slots after a process came, went or changed.
use Rattle.std.proofs.Common.{◌≡◌, ◌∙◌, ◌+◌, ◌*◌, ◌≤◌, ◌==◌, ◌||◌, ◌&&◌, ℕ, zero, suc, arith, ap, sym, subst, refl, Bool, true, false, cond, not, List, [], ◌∷◌, length, get_or, replicate, Option, None, Some, nat_lt, is_some, nat_cmp, is_eq, eq-eqb}
use Rattle.sk_world.specs.Common.{get}
use Rattle.sk_table.proofs.Common.{list_any, option_map_or, Less, Equal, Greater, find, put, by_order, nat_tests, Proc, Links, Processes, none, store, count, has_number, get_store, same_map, store_twice, count_put, equal_numbers, has_pair, uses_in, IsRow, IsBeside}
use Rattle.sk_table.specs.Weights.{one, weight}

-- ---- the processes

pub gone_here : (m : Processes) (k : ℕ) → get (store m k None) k ≡ None
gone_here m k = get_store m k None k ∙ ap (λ b. cond b None (get m k)) (eq-eqb k k refl)

-- a process put where it was changes nothing
pub put_back : (m : Processes) (k : ℕ) (p : Proc) → get m k ≡ Some p → store m k (Some p) ≡ m
put_back m k p is = same_map _ _ (λ q. get_store m k (Some p) q ∙ kept q)
  where
    kept : (q : ℕ) → cond (q == k) (Some p) (get m q) ≡ get m q
    kept q =
        elim (q == k) as (λ b. (q == k) ≡ b → cond b (Some p) (get m q) ≡ get m q) [
          | true ↦ λ e. sym is ∙ ap (get m) (sym (equal_numbers q k e))
          | false ↦ λ _. refl
        ] refl

-- nothing is taken out where there is nothing
pub none_back : (m : Processes) (k : ℕ) → get m k ≡ None → store m k None ≡ m
none_back m k is = same_map _ _ (λ q. get_store m k None q ∙ kept q)
  where
    kept : (q : ℕ) → cond (q == k) None (get m q) ≡ get m q
    kept q =
        elim (q == k) as (λ b. (q == k) ≡ b → cond b None (get m q) ≡ get m q) [
          | true ↦ λ e. sym is ∙ ap (get m) (sym (equal_numbers q k e))
          | false ↦ λ _. refl
        ] refl

pub count_entered : (m : Processes) (k : ℕ) (p : Proc) → get m k ≡ None → count (store m k (Some p)) ≡ count m + 1
count_entered m k p free = count_put m k p ∙ ap (λ o. cond (is_some o) (count m) (count m + 1)) free

pub count_left : (m : Processes) (k : ℕ) (p : Proc) → get m k ≡ Some p → count (store m k None) + 1 ≡ count m
count_left m k p is =
    sym (count_entered (store m k None) k p (gone_here m k)) ∙ ap count (store_twice m k None (Some p) ∙ put_back m k p is)

pub count_kept : (m : Processes) (k : ℕ) (p p' : Proc) → get m k ≡ Some p → count (store m k (Some p')) ≡ count m
count_kept m k p p' is = count_put m k p' ∙ ap (λ o. cond (is_some o) (count m) (count m + 1)) is

-- ---- the uses of a number

uses_put : (n k : ℕ) (p : Proc) (es : List (ℕ × Proc)) → find nat_cmp k es ≡ None → uses_in n (put nat_cmp k p es) ≡ weight n k p.links + uses_in n es
uses_put n k p [] e = refl
uses_put n k p (entry ∷ es) e =
    elim (nat_cmp k entry.0) as (λ o. cond (is_eq o) (Some entry.1) (find nat_cmp k es) ≡ None → uses_in n (by_order o ((k, p) ∷ entry ∷ es) ((entry.0, p) ∷ es) (entry ∷ put nat_cmp k p es)) ≡ weight n k p.links + (weight n entry.0 entry.1.links + uses_in n es)) [
      | Less ↦ λ _. refl
      | Equal ↦ λ found. cc
      | Greater ↦ λ rest. swapped _ _ _ _ (uses_put n k p es rest)
    ] e
  where
    swapped : (a b c d : ℕ) → d ≡ b + c → a + d ≡ b + (a + c)
    swapped a b c d e = omega (arith, e)

pub uses_entered : (n : ℕ) (m : Processes) (k : ℕ) (p : Proc) → get m k ≡ None → uses_in n (store m k (Some p)).entries ≡ weight n k p.links + uses_in n m.entries
uses_entered n m k p free = uses_put n k p m.entries free

pub uses_left : (n : ℕ) (m : Processes) (k : ℕ) (p : Proc) → get m k ≡ Some p → weight n k p.links + uses_in n (store m k None).entries ≡ uses_in n m.entries
uses_left n m k p is =
    sym (uses_entered n (store m k None) k p (gone_here m k)) ∙ ap (λ (m : Processes). uses_in n m.entries) (store_twice m k None (Some p) ∙ put_back m k p is)

pub uses_kept : (n : ℕ) (m : Processes) (k : ℕ) (p p' : Proc) → get m k ≡ Some p → p'.links ≡ p.links → uses_in n (store m k (Some p')).entries ≡ uses_in n m.entries
uses_kept n m k p p' is same =
    ap (λ (m : Processes). uses_in n m.entries) (sym (store_twice m k None (Some p')))
    ∙ uses_entered n (store m k None) k p' (gone_here m k)
    ∙ ap (λ l. weight n k l + uses_in n (store m k None).entries) same
    ∙ uses_left n m k p is

at_most_one : (b : Bool) → one b ≤ 1
at_most_one true = omega arith
at_most_one false = omega arith

at_most : (n : ℕ) (es : List (ℕ × Proc)) → uses_in n es ≤ 3 * length es
at_most n [] = omega arith
at_most n (e ∷ es) = omega (arith, at_most n es, at_most_one (e.0 == n), at_most_one (e.1.links.group == n), at_most_one (e.1.links.session == n))

pub few_uses : (n : ℕ) (m : Processes) → uses_in n m.entries ≤ 3 * count m
few_uses n m = at_most n m.entries

some_use : (a b c d : Bool) (m : ℕ) → d ≡ nat_lt 0 m → ((a || b || c) || d) ≡ nat_lt 0 (one a + one b + one c + m)
some_use a b c d m e = grind (arith, nat_tests, e)

-- a number is used where it is counted
pub used_counts : (n : ℕ) (es : List (ℕ × Proc)) → list_any (has_number n) es ≡ nat_lt 0 (uses_in n es)
used_counts n [] = refl
used_counts n (e ∷ es) = some_use (e.0 == n) (e.1.links.group == n) (e.1.links.session == n) (list_any (has_number n) es) (uses_in n es) (used_counts n es)

-- ---- a row

abbrev pub numbered : (Proc → ℕ) → ℕ → Option Proc → Bool
numbered number a o = option_map_or (λ p. number p == a) o false

with_pair : (x y : ℕ) (v : Bool) → (x == y) ≡ true → ((v && (y == x)) || false) ≡ v
with_pair x y true e = grind (arith, nat_tests, e)
with_pair x y false e = refl

without_pair : (x y : ℕ) (v w : Bool) → (x == y) ≡ false → ((v && (y == x)) || w) ≡ w
without_pair x y v w e = grind (arith, nat_tests, e)

taken_pair : (x y : ℕ) (v : Bool) → (x == y) ≡ true → (not (v && (y == x)) && v) ≡ false
taken_pair x y true e = grind (arith, nat_tests, e)
taken_pair x y false e = refl

kept_pair : (x y : ℕ) (v w : Bool) → (x == y) ≡ false → (not (v && (y == x)) && w) ≡ w
kept_pair x y v w e = grind (arith, nat_tests, e)

module _ (number : Proc → ℕ) (m : Processes) (row row' : List (ℕ × ℕ)) (k : ℕ) (p : Proc) (is : IsRow number m row) where
  at_pid : (o : Option Proc) → get m k ≡ o → (a b : ℕ) → (b == k) ≡ true → has_pair row a b ≡ numbered number a o
  at_pid o e a b same = is.pairs a b ∙ ap (numbered number a) (ap (get m) (equal_numbers b k same) ∙ e)

  pub row_entered : get m k ≡ None → ((a b : ℕ) → has_pair row' a b ≡ (((number p == a) && (k == b)) || has_pair row a b)) → length row' ≡ length row + 1 → IsRow number (store m k (Some p)) row'
  row_entered free pairs len = record {
    pairs = λ a b. pairs a b ∙ more a b ∙ ap (numbered number a) (sym (get_store m k (Some p) b));
    len = len ∙ ap (λ n. n + 1) is.len ∙ sym (count_entered m k p free);
  }
    where
      more : (a b : ℕ) → (((number p == a) && (k == b)) || has_pair row a b) ≡ numbered number a (cond (b == k) (Some p) (get m b))
      more a b =
          elim (b == k) as (λ v. (b == k) ≡ v → (((number p == a) && (k == b)) || has_pair row a b) ≡ numbered number a (cond v (Some p) (get m b))) [
            | true ↦ λ e. ap (λ v. ((number p == a) && (k == b)) || v) (at_pid None free a b e) ∙ with_pair b k (number p == a) e
            | false ↦ λ e. without_pair b k (number p == a) (has_pair row a b) e ∙ is.pairs a b
          ] refl

  pub row_left : get m k ≡ Some p → ((a b : ℕ) → has_pair row' a b ≡ (not ((number p == a) && (k == b)) && has_pair row a b)) → length row' + 1 ≡ length row → IsRow number (store m k None) row'
  row_left there pairs len = record {
    pairs = λ a b. pairs a b ∙ fewer a b ∙ ap (numbered number a) (sym (get_store m k None b));
    len = omega (arith, len, is.len, count_left m k p there);
  }
    where
      fewer : (a b : ℕ) → (not ((number p == a) && (k == b)) && has_pair row a b) ≡ numbered number a (cond (b == k) None (get m b))
      fewer a b =
          elim (b == k) as (λ v. (b == k) ≡ v → (not ((number p == a) && (k == b)) && has_pair row a b) ≡ numbered number a (cond v None (get m b))) [
            | true ↦ λ e. ap (λ v. not ((number p == a) && (k == b)) && v) (at_pid (Some p) there a b e) ∙ taken_pair b k (number p == a) e
            | false ↦ λ e. kept_pair b k (number p == a) (has_pair row a b) e ∙ is.pairs a b
          ] refl

  pub row_kept : get m k ≡ Some p → (p' : Proc) → number p' ≡ number p → IsRow number (store m k (Some p')) row
  row_kept there p' same = record {
    pairs = λ a b. kept a b ∙ ap (numbered number a) (sym (get_store m k (Some p') b));
    len = is.len ∙ sym (count_kept m k p p' there);
  }
    where
      kept : (a b : ℕ) → has_pair row a b ≡ numbered number a (cond (b == k) (Some p') (get m b))
      kept a b =
          elim (b == k) as (λ v. (b == k) ≡ v → has_pair row a b ≡ numbered number a (cond v (Some p') (get m b))) [
            | true ↦ λ e. at_pid (Some p) there a b e ∙ ap (λ n. n == a) (sym same)
            | false ↦ λ e. is.pairs a b
          ] refl

-- no process has no pair
pub no_row : (number : Proc → ℕ) → IsRow number none []
no_row number = record { pairs = λ a b. refl; len = refl }

-- ---- all that stands beside the slots

pub nothing_beside : (rows groups : List (ℕ × ℕ)) (counts : List ℕ) → rows ≡ [] → groups ≡ [] → ((n : ℕ) → get_or counts n 0 ≡ 0) → IsBeside none rows groups counts
nothing_beside rows groups counts no_rows no_groups zeros = record {
  by_parent = subst (IsRow (λ p. p.links.parent) none) (sym no_rows) (no_row (λ p. p.links.parent));
  by_group = subst (IsRow (λ p. p.links.group) none) (sym no_groups) (no_row (λ p. p.links.group));
  uses = zeros;
}

pub beside_kept : (m : Processes) (rows groups : List (ℕ × ℕ)) (counts : List ℕ) (k : ℕ) (p p' : Proc) → IsBeside m rows groups counts → get m k ≡ Some p → p'.links ≡ p.links
    → IsBeside (store m k (Some p')) rows groups counts
beside_kept m rows groups counts k p p' is there same = record {
  by_parent = row_kept (λ p. p.links.parent) m rows [] k p is.by_parent there p' (ap (λ (l : Links). l.parent) same);
  by_group = row_kept (λ p. p.links.group) m groups [] k p is.by_group there p' (ap (λ (l : Links). l.group) same);
  uses = λ n. is.uses n ∙ sym (uses_kept n m k p p' there same);
}

module _ (m : Processes) (rows rows' groups groups' : List (ℕ × ℕ)) (counts counts' : List ℕ) (k : ℕ) (p : Proc) (links : Links) (same : p.links ≡ links) (is : IsBeside m rows groups counts) where
  pub beside_entered : get m k ≡ None
      → ((a b : ℕ) → has_pair rows' a b ≡ (((links.parent == a) && (k == b)) || has_pair rows a b)) → length rows' ≡ length rows + 1
      → ((a b : ℕ) → has_pair groups' a b ≡ (((links.group == a) && (k == b)) || has_pair groups a b)) → length groups' ≡ length groups + 1
      → ((n : ℕ) → get_or counts' n 0 ≡ weight n k links + get_or counts n 0)
      → IsBeside (store m k (Some p)) rows' groups' counts'
  beside_entered free parent more group more_groups uses = record {
    by_parent = row_entered (λ p. p.links.parent) m rows rows' k p is.by_parent free
        (λ a b. parent a b ∙ ap (λ (l : Links). ((l.parent == a) && (k == b)) || has_pair rows a b) (sym same)) more;
    by_group = row_entered (λ p. p.links.group) m groups groups' k p is.by_group free
        (λ a b. group a b ∙ ap (λ (l : Links). ((l.group == a) && (k == b)) || has_pair groups a b) (sym same)) more_groups;
    uses = λ n. uses n ∙ ap (λ x. weight n k links + x) (is.uses n) ∙ ap (λ (l : Links). weight n k l + uses_in n m.entries) (sym same) ∙ sym (uses_entered n m k p free);
  }

  pub beside_left : get m k ≡ Some p
      → ((a b : ℕ) → has_pair rows' a b ≡ (not ((links.parent == a) && (k == b)) && has_pair rows a b)) → length rows' + 1 ≡ length rows
      → ((a b : ℕ) → has_pair groups' a b ≡ (not ((links.group == a) && (k == b)) && has_pair groups a b)) → length groups' + 1 ≡ length groups
      → ((n : ℕ) → weight n k links + get_or counts' n 0 ≡ get_or counts n 0)
      → IsBeside (store m k None) rows' groups' counts'
  beside_left there parent fewer_rows group fewer_groups uses = record {
    by_parent = row_left (λ p. p.links.parent) m rows rows' k p is.by_parent there
        (λ a b. parent a b ∙ ap (λ (l : Links). not ((l.parent == a) && (k == b)) && has_pair rows a b) (sym same)) fewer_rows;
    by_group = row_left (λ p. p.links.group) m groups groups' k p is.by_group there
        (λ a b. group a b ∙ ap (λ (l : Links). not ((l.group == a) && (k == b)) && has_pair groups a b) (sym same)) fewer_groups;
    uses = λ n. fewer (weight n k links) _ _ (uses n ∙ is.uses n ∙ sym (uses_left n m k p there) ∙ ap (λ (l : Links). weight n k l + uses_in n (store m k None).entries) same);
  }
    where
      fewer : (a b c : ℕ) → a + b ≡ a + c → b ≡ c
      fewer a b c e = omega (arith, e)

  pub weight_there : get m k ≡ Some p → (n : ℕ) → weight n k links ≤ get_or counts n 0
  weight_there there n = omega (arith, is.uses n, uses_left n m k p there, ap (λ (l : Links). weight n k l) same)

-- a list of zeros
pub zeros : (n i : ℕ) → ◌≡◌ {A = ℕ} (get_or (replicate n 0) i 0) 0
zeros zero i = refl
zeros (suc n) zero = refl
zeros (suc n) (suc i) = zeros n i
