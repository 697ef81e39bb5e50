-- The least pid that is sought among the rows.
use Rattle.std.proofs.Common.{◌≡◌, ◌≢◌, ◌∙◌, ◌+◌, ◌<◌, ◌≤◌, ◌==◌, ℕ, zero, suc, arith, ap, sym, refl, Bool, true, false, cond, List, [], ◌∷◌, ◌++◌, length, get_or, take, Option, None, Some, min, nat_lt, is_some}
use Rattle.sk_table.proofs.Common.{option_map_or, take_more, nat_tests, Proc, World, at, IsNext, Row, Anyone, proc_of, Distinct, is_sought, is_sought_pid}
use Rattle.sk_table.specs.declared.scan.Sought.{Sought}
use Rattle.sk_table.proofs.Keeping.{world, get_rows, not_here, turned, proc_pushed}

other_number : (a b : ℕ) → a ≢ b → (a == b) ≡ false
other_number a b ne = grind (arith, nat_tests, ne)

-- ---- one more pid k, of which the test says b

module _ (t u : ℕ → Bool) (after k : ℕ) (b : Bool) (more : (q : ℕ) → u q ≡ cond (q == k) b (t q)) where
  elsewhere : (q : ℕ) → (q == k) ≡ false → u q ≡ t q
  elsewhere q e = more q ∙ ap (λ c. cond c b (t q)) e

  here : u k ≡ b
  here = let e : (k == k) ≡ true = grind (arith, nat_tests) in more k ∙ ap (λ c. cond c b (t k)) e

  passed_one : (after < k → b ≡ false) → (q : ℕ) → after < q → t q ≡ false → u q ≡ false
  passed_one out q l f =
      more q ∙ elim (q == k) as (λ c. (q == k) ≡ c → cond c b (t q) ≡ false) [
        | true ↦ λ e. out (grind (arith, nat_tests, e, l))
        | false ↦ λ e. f
      ] refl

  below : (q : ℕ) → q < k → u q ≡ t q
  below q l = elsewhere q (grind (arith, nat_tests, l))

  next_passed : (after < k → b ≡ false) → t k ≡ false → (least : Option ℕ) → IsNext t after least → IsNext u after least
  next_passed out new None h = λ q l. passed_one out q l (h q l)
  next_passed out new (Some next) h =
      let other : (next == k) ≡ false = other_number next k (λ e. let both : true ≡ false = sym h.1 ∙ ap t e ∙ new in cc) in
      (h.0, elsewhere next other ∙ h.1, λ q l m. passed_one out q l (h.2 q l m))

  next_taken : after < k → b ≡ true → (least : Option ℕ) → IsNext t after least → IsNext u after (Some (option_map_or (λ found. min found k) least k))
  next_taken l agreed None h = (l, here ∙ agreed, λ q a m. below q m ∙ h q a)
  next_taken l agreed (Some next) h =
      elim (nat_lt next k) as (λ v. nat_lt next k ≡ v → IsNext u after (Some (min next k))) [
        | true ↦ λ e.
            let lower : next < k = grind (arith, nat_tests, e) in
            let lesser : min next k ≡ next = omega arith in
            rw lesser (h.0, below next lower ∙ h.1, λ q a m. below q (omega arith) ∙ h.2 q a m)
        | false ↦ λ e.
            let upper : k ≤ next = grind (arith, nat_tests, e) in
            let lesser : min next k ≡ k = omega arith in
            rw lesser (l, here ∙ agreed, λ q a m. below q m ∙ h.2 q a (omega arith))
      ] refl

-- ---- one more row

absent_at : (k : ℕ) (rows : List Row) (i : ℕ) (d : Row) → proc_of k rows ≡ None → i < length rows → ((get_or rows i d).pid == k) ≡ false
absent_at k [] i d free h = absurd (omega arith)
absent_at k (row ∷ rows) zero d free h = turned k row.pid false (not_here (k == row.pid) row.proc (proc_of k rows) free).0
absent_at k (row ∷ rows) (suc i) d free h = absent_at k rows i d (not_here (k == row.pid) row.proc (proc_of k rows) free).1 (omega arith)

new_row : (rows : List Row) (i : ℕ) (d : Row) → Distinct rows → i < length rows → proc_of (get_or rows i d).pid (take i rows) ≡ None
new_row [] i d h l = absurd (omega arith)
new_row (row ∷ rows) zero d h l = refl
new_row (row ∷ rows) (suc i) d h l =
    ap (λ b. cond b (Some row.proc) (proc_of (get_or rows i d).pid (take i rows))) (absent_at row.pid rows i d h.0 (omega arith))
    ∙ new_row rows i d h.1 (omega arith)

asked : (f : Proc → Bool) (b : Bool) (p : Proc) (o : Option Proc) → option_map_or f (cond b (Some p) o) false ≡ cond b (f p) (option_map_or f o false)
asked f true p o = refl
asked f false p o = refl

module _ (sought : Sought) (rows : List Row) (after i : ℕ) (row : Row) (h : Distinct rows) (l : i < length rows) (this : row ≡ get_or rows i row) where
  fresh_row : proc_of row.pid (take i rows) ≡ None
  fresh_row = ap (λ (r : Row). proc_of r.pid (take i rows)) this ∙ new_row rows i row h l

  one_more_row : (q : ℕ) → is_sought_pid sought (take (i + 1) rows) q ≡ cond (q == row.pid) (is_sought sought row.proc) (is_sought_pid sought (take i rows) q)
  one_more_row q =
      ap (λ rs. is_sought_pid sought rs q) (take_more rows i row l ∙ ap (λ r. take i rows ++ r ∷ []) (sym this))
      ∙ ap (λ o. option_map_or (is_sought sought) o false) (proc_pushed (take i rows) row fresh_row q)
      ∙ asked (is_sought sought) (q == row.pid) row.proc (proc_of q (take i rows))

  pub row_taken : after < row.pid → is_sought sought row.proc ≡ true → (least : Option ℕ) → IsNext (is_sought_pid sought (take i rows)) after least
      → IsNext (is_sought_pid sought (take (i + 1) rows)) after (Some (option_map_or (λ found. min found row.pid) least row.pid))
  row_taken =
      next_taken (is_sought_pid sought (take i rows)) (is_sought_pid sought (take (i + 1) rows)) after row.pid (is_sought sought row.proc) one_more_row

  pub row_passed : (after < row.pid → is_sought sought row.proc ≡ false) → (least : Option ℕ) → IsNext (is_sought_pid sought (take i rows)) after least
      → IsNext (is_sought_pid sought (take (i + 1) rows)) after least
  row_passed out =
      next_passed (is_sought_pid sought (take i rows)) (is_sought_pid sought (take (i + 1) rows)) after row.pid (is_sought sought row.proc) one_more_row out
      (ap (λ o. option_map_or (is_sought sought) o false) fresh_row)

-- ---- the rows and the world

same_next : (t u : ℕ → Bool) (after : ℕ) (next : Option ℕ) → ((q : ℕ) → u q ≡ t q) → IsNext t after next → IsNext u after next
same_next t u after None same h = λ q l. same q ∙ h q l
same_next t u after (Some next) same h = (h.0, same next ∙ h.1, λ q l m. same q ∙ h.2 q l m)

-- what the test says of the process of each pid
pub next_of_rows : (test : Option Proc → Bool) (sought : Sought) (rows seen : List Row) (last : ℕ) (w : World) (after : ℕ) (next : Option ℕ)
    → ((o : Option Proc) → test o ≡ option_map_or (is_sought sought) o false) → seen ≡ rows → world rows last ≡ w
    → IsNext (is_sought_pid sought seen) after next → IsNext (λ pid. test (at w pid)) after next
next_of_rows test sought rows seen last w after next same these is =
    same_next (is_sought_pid sought seen) (λ pid. test (at w pid)) after next
    (λ q.
    ap (λ v. test (at v q)) (sym is) ∙ ap test (get_rows q rows)
    ∙ same (proc_of q rows)
    ∙ ap (λ rs. is_sought_pid sought rs q) (sym these))

-- every process is sought
pub anyone : (o : Option Proc) → is_some o ≡ option_map_or (is_sought Anyone) o false
anyone None = refl
anyone (Some p) = refl
