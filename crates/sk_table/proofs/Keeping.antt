-- What the rows say of the world after a row was replaced, taken out or put in.
use Rattle.std.proofs.Common.{◌≡◌, ◌∙◌, ◌+◌, ◌<◌, ◌==◌, ℕ, zero, suc, arith, ap, sym, refl, Bool, true, false, cond, List, [], ◌∷◌, ◌++◌, length, get_or, set, Option, None, Some, position, is_some, option_map, remove}
use Rattle.std.proofs.lemmas.List.Quantifiers.{position-Some}
use Rattle.std.proofs.lemmas.Iterator.Adapters.{position_from-zero}
use Rattle.sk_world.specs.Common.{get}
use Rattle.sk_table.proofs.Common.{position_from, nat_tests, Proc, Body, Links, Processes, store, count, World, at, stored, body_changed, links_changed, with_body, with_links, inserted, get_store, same_map, count_put, equal_numbers, Row, processes_of, proc_of, Distinct}

-- the world of a store with these fields
abbrev pub world : List Row → ℕ → World
world rows last = record { procs = processes_of rows; last = last }

pub get_rows : (q : ℕ) (rows : List Row) → get (processes_of rows) q ≡ proc_of q rows
get_rows q [] = refl
get_rows q (row ∷ rows) =
    get_store (processes_of rows) row.pid (Some row.proc) q ∙ ap (cond (q == row.pid) (Some row.proc)) (get_rows q rows)

one_more : (b : Bool) (m n : ℕ) → b ≡ false → m ≡ n → cond b m (m + 1) ≡ suc n
one_more true m n is e = cc
one_more false m n is e = omega (arith, e)

pub count_rows : (rows : List Row) → Distinct rows → count (processes_of rows) ≡ length rows
count_rows [] h = refl
count_rows (row ∷ rows) h =
    count_put (processes_of rows) row.pid row.proc
    ∙ one_more _ _ _ (ap is_some (get_rows row.pid rows ∙ h.0)) (count_rows rows h.1)

-- ---- the place of a pid

-- the first row of the pid stands at this place
pub AtPlace : ℕ → List Row → ℕ → Type 0
AtPlace pid [] i = ⊥
AtPlace pid (row ∷ rows) zero = (pid == row.pid) ≡ true
AtPlace pid (row ∷ rows) (suc i) = ((pid == row.pid) ≡ false) × AtPlace pid rows i

pub turned : (a b : ℕ) (v : Bool) → (a == b) ≡ v → (b == a) ≡ v
turned a b true h = grind (arith, nat_tests, h)
turned a b false h = grind (arith, nat_tests, h)

at_place : (pid : ℕ) (rows : List Row) (i : ℕ) (d : Row) → i < length rows → ((get_or rows i d).pid == pid) ≡ true → ((k : ℕ) → k < i → ((get_or rows k d).pid == pid) ≡ false) → AtPlace pid rows i
unfolding AtPlace
at_place pid [] i d h here before = absurd (omega arith)
at_place pid (row ∷ rows) zero d h here before = turned row.pid pid true here
at_place pid (row ∷ rows) (suc i) d h here before =
    (turned row.pid pid false (before 0 (omega arith)), at_place pid rows i d (omega arith) here (λ k l. before (suc k) (omega arith)))

-- the place that a scan of the rows answers
pub placed : (pid : ℕ) (rows seen : List Row) (i : ℕ) (d : Row) → seen ≡ rows → Some i ≡ position (λ row. row.pid == pid) seen → AtPlace pid rows i
placed pid rows seen i d same e =
    let found = position-Some (λ row. row.pid == pid) rows i d (ap (position (λ (row : Row). row.pid == pid)) (sym same) ∙ sym e) in
    at_place pid rows i d found.0 found.1 found.2

absent_from : (pid : ℕ) (rows : List Row) (i : ℕ) → position_from (λ row. row.pid == pid) i rows ≡ None → proc_of pid rows ≡ None
absent_from pid [] i e = refl
absent_from pid (row ∷ rows) i e =
    elim (row.pid == pid) as (λ b. (row.pid == pid) ≡ b → cond b (Some i) (position_from (λ row. row.pid == pid) (i + 1) rows) ≡ None → proc_of pid (row ∷ rows) ≡ None) [
      | true ↦ λ is n. cc
      | false ↦ λ is n. ap (λ b. cond b (Some row.proc) (proc_of pid rows)) (turned row.pid pid false is) ∙ absent_from pid rows (i + 1) n
    ] refl e

absent : (pid : ℕ) (rows : List Row) → position (λ row. row.pid == pid) rows ≡ None → proc_of pid rows ≡ None
absent pid rows e = absent_from pid rows 0 (sym (position_from-zero (λ row. row.pid == pid) rows) ∙ e)

pid_at : (pid : ℕ) (rows : List Row) (i : ℕ) (d : Row) → AtPlace pid rows i → (get_or rows i d).pid ≡ pid
unfolding AtPlace
pid_at pid [] i d at = absurd at
pid_at pid (row ∷ rows) zero d at = sym (equal_numbers pid row.pid at)
pid_at pid (row ∷ rows) (suc i) d at = pid_at pid rows i d at.1

proc_at : (pid : ℕ) (rows : List Row) (i : ℕ) (d : Row) → AtPlace pid rows i → proc_of pid rows ≡ Some (get_or rows i d).proc
unfolding AtPlace
proc_at pid [] i d at = absurd at
proc_at pid (row ∷ rows) zero d at = ap (λ b. cond b (Some row.proc) (proc_of pid rows)) at
proc_at pid (row ∷ rows) (suc i) d at = ap (λ b. cond b (Some row.proc) (proc_of pid rows)) at.0 ∙ proc_at pid rows i d at.1

-- ---- a row is replaced

proc_set : (pid : ℕ) (rows : List Row) (i : ℕ) (r : Row) → AtPlace pid rows i → r.pid ≡ pid → (q : ℕ) → proc_of q (set rows i r) ≡ cond (q == pid) (Some r.proc) (proc_of q rows)
unfolding AtPlace
proc_set pid [] i r at is q = absurd at
proc_set pid (row ∷ rows) zero r at is q =
    let same : row.pid ≡ pid = sym (equal_numbers pid row.pid at) in
    ap (λ k. cond (q == k) (Some r.proc) (proc_of q rows)) is
    ∙ elim (q == pid) as (λ b. cond b (Some r.proc) (proc_of q rows) ≡ cond b (Some r.proc) (cond b (Some row.proc) (proc_of q rows))) [ true ↦ refl | false ↦ refl ]
    ∙ ap (λ k. cond (q == pid) (Some r.proc) (cond (q == k) (Some row.proc) (proc_of q rows))) (sym same)
proc_set pid (row ∷ rows) (suc i) r at is q =
    ap (cond (q == row.pid) (Some row.proc)) (proc_set pid rows i r at.1 is q)
    ∙ elim (q == row.pid) as (λ b. (q == row.pid) ≡ b → cond b (Some row.proc) (cond (q == pid) (Some r.proc) (proc_of q rows)) ≡ cond (q == pid) (Some r.proc) (cond b (Some row.proc) (proc_of q rows))) [
      | true ↦ λ e. ap (λ b. cond b (Some r.proc) (Some row.proc)) (sym (turned pid q false (ap (λ k. pid == k) (equal_numbers q row.pid e) ∙ at.0)))
      | false ↦ λ e. refl
    ] refl

distinct_set : (pid : ℕ) (rows : List Row) (i : ℕ) (r : Row) → AtPlace pid rows i → r.pid ≡ pid → Distinct rows → Distinct (set rows i r)
unfolding AtPlace
distinct_set pid [] i r at is h = absurd at
distinct_set pid (row ∷ rows) zero r at is h =
    (ap (λ k. proc_of k rows) (is ∙ equal_numbers pid row.pid at) ∙ h.0, h.1)
distinct_set pid (row ∷ rows) (suc i) r at is h = (
  proc_set pid rows i r at.1 is row.pid
      ∙ ap (λ b. cond b (Some r.proc) (proc_of row.pid rows)) (turned pid row.pid false at.0)
      ∙ h.0,
  distinct_set pid rows i r at.1 is h.1,
)

same_world : (m n : Processes) (last : ℕ) → ((q : ℕ) → get m q ≡ get n q) → record { procs = m; last = last } ≡ let w : World = record { procs = n; last = last } in w
same_world m n last is = ap (λ procs. let w : World = record { procs = procs; last = last } in w) (same_map m n is)

-- the rows' process of one pid is another
stored_rows : (rows after : List Row) (last pid : ℕ) (o : Option Proc) → ((q : ℕ) → proc_of q after ≡ cond (q == pid) o (proc_of q rows)) → world after last ≡ stored (world rows last) pid o
stored_rows rows after last pid o is =
    same_world (processes_of after) (store (processes_of rows) pid o) last
    (λ q. get_rows q after ∙ is q ∙ ap (cond (q == pid) o) (sym (get_rows q rows)) ∙ sym (get_store (processes_of rows) pid o q))

module _ (rows : List Row) (last : ℕ) (w : World) (pid i : ℕ) (row : Row) (is : world rows last ≡ w) (at_row : AtPlace pid rows i) (this : row ≡ get_or rows i row) where
  pub distinct_replaced : (p : Proc) → Distinct rows → Distinct (set rows i (record row { proc = p }))
  distinct_replaced p h = distinct_set pid rows i (record row { proc = p }) at_row (ap (λ r. r.pid) this ∙ pid_at pid rows i row at_row) h

  pub replaced : (p : Proc) → world (set rows i (record row { proc = p })) last ≡ stored w pid (Some p)
  replaced p =
      stored_rows rows (set rows i (record row { proc = p })) last pid (Some p)
      (proc_set pid rows i (record row { proc = p }) at_row (ap (λ r. r.pid) this ∙ pid_at pid rows i row at_row))
      ∙ ap (λ v. stored v pid (Some p)) is

  pub read : at w pid ≡ Some row.proc
  read =
      ap (λ v. at v pid) (sym is) ∙ get_rows pid rows ∙ proc_at pid rows i row at_row ∙ ap (λ (r : Row). Some r.proc) (sym this)

  pub body_replaced : (body : Body) → world (set rows i (record row { proc = record row.proc { body = body } })) last ≡ with_body w pid body
  body_replaced body =
      replaced (record row.proc { body = body })
      ∙ ap (λ o. stored w pid (option_map (body_changed (λ old. body)) o)) (sym read)

  pub links_replaced : (links : Links) → world (set rows i (record row { proc = record row.proc { links = links } })) last ≡ with_links w pid links
  links_replaced links =
      replaced (record row.proc { links = links })
      ∙ ap (λ o. stored w pid (option_map (links_changed (λ old. links)) o)) (sym read)

module _ (rows seen : List Row) (last : ℕ) (w : World) (pid : ℕ) (is : world rows last ≡ w) (same : seen ≡ rows) (nowhere : None ≡ position (λ row. row.pid == pid) seen) where
  pub unread : at w pid ≡ None
  unread =
      ap (λ v. at v pid) (sym is) ∙ get_rows pid rows
      ∙ absent pid rows (ap (position (λ (row : Row). row.pid == pid)) (sym same) ∙ sym nowhere)

  -- nothing is stored where there is nothing
  pub nothing_stored : stored w pid None ≡ w
  nothing_stored =
      same_world (store w.procs pid None) w.procs w.last
      (λ q. get_store w.procs pid None q ∙ kept q)
    where
      kept : (q : ℕ) → cond (q == pid) None (get w.procs q) ≡ get w.procs q
      kept q =
          elim (q == pid) as (λ b. (q == pid) ≡ b → cond b None (get w.procs q) ≡ get w.procs q) [
            | true ↦ λ e. sym unread ∙ ap (get w.procs) (sym (equal_numbers q pid e))
            | false ↦ λ e. refl
          ] refl

-- ---- a row is taken out

swapped : (a b : Bool) (x y z : Option Proc) → (a ≡ true → b ≡ false) → cond a x (cond b y z) ≡ cond b y (cond a x z)
swapped true true x y z apart = let e : true ≡ false = apart refl in cc
swapped true false x y z apart = refl
swapped false b x y z apart = refl

-- what differs from the one of two equal numbers differs from the other
differs : (a b c : ℕ) → (b == c) ≡ false → (a == c) ≡ true → (a == b) ≡ false
differs a b c d e = grind (arith, nat_tests, d, e)

proc_removed : (pid : ℕ) (rows : List Row) (i : ℕ) → AtPlace pid rows i → Distinct rows → (q : ℕ) → proc_of q (remove rows i) ≡ cond (q == pid) None (proc_of q rows)
unfolding AtPlace
proc_removed pid [] i at h q = absurd at
proc_removed pid (row ∷ rows) zero at h q =
    let same = equal_numbers pid row.pid at in
    elim (q == pid) as (λ b. (q == pid) ≡ b → proc_of q rows ≡ cond b None (cond (q == row.pid) (Some row.proc) (proc_of q rows))) [
      | true ↦ λ e. ap (λ k. proc_of k rows) (equal_numbers q pid e ∙ same) ∙ h.0
      | false ↦ λ e. sym (ap (λ b. cond b (Some row.proc) (proc_of q rows)) (ap (λ k. q == k) (sym same) ∙ e))
    ] refl
proc_removed pid (row ∷ rows) (suc i) at h q =
    ap (cond (q == row.pid) (Some row.proc)) (proc_removed pid rows i at.1 h.1 q)
    ∙ swapped (q == row.pid) (q == pid) (Some row.proc) None (proc_of q rows) (λ e. differs q pid row.pid at.0 e)

distinct_removed : (pid : ℕ) (rows : List Row) (i : ℕ) → AtPlace pid rows i → Distinct rows → Distinct (remove rows i)
unfolding AtPlace
distinct_removed pid [] i at h = absurd at
distinct_removed pid (row ∷ rows) zero at h = h.1
distinct_removed pid (row ∷ rows) (suc i) at h = (
  proc_removed pid rows i at.1 h.1 row.pid
      ∙ ap (λ b. cond b None (proc_of row.pid rows)) (turned pid row.pid false at.0)
      ∙ h.0,
  distinct_removed pid rows i at.1 h.1,
)

pub without_row : (rows : List Row) (last : ℕ) (w : World) (pid i : ℕ) → world rows last ≡ w → AtPlace pid rows i → Distinct rows → (world (remove rows i) last ≡ stored w pid None) × Distinct (remove rows i)
without_row rows last w pid i is at_row h = (
  stored_rows rows (remove rows i) last pid None (proc_removed pid rows i at_row h) ∙ ap (λ v. stored v pid None) is,
  distinct_removed pid rows i at_row h,
)

-- ---- a row is put in

pub not_here : (b : Bool) (p : Proc) (o : Option Proc) → cond b (Some p) o ≡ None → (b ≡ false) × (o ≡ None)
not_here true p o e = cc
not_here false p o e = (refl, e)

pub proc_pushed : (rows : List Row) (r : Row) → proc_of r.pid rows ≡ None → (q : ℕ) → proc_of q (rows ++ r ∷ []) ≡ cond (q == r.pid) (Some r.proc) (proc_of q rows)
proc_pushed [] r free q = refl
proc_pushed (row ∷ rows) r free q =
    let apart = not_here (r.pid == row.pid) row.proc (proc_of r.pid rows) free in
    ap (cond (q == row.pid) (Some row.proc)) (proc_pushed rows r apart.1 q)
    ∙ swapped (q == row.pid) (q == r.pid) (Some row.proc) (Some r.proc) (proc_of q rows) (λ e. differs q r.pid row.pid apart.0 e)

distinct_pushed : (rows : List Row) (r : Row) → proc_of r.pid rows ≡ None → Distinct rows → Distinct (rows ++ r ∷ [])
distinct_pushed [] r free h = (refl, tt)
distinct_pushed (row ∷ rows) r free h =
    let apart = not_here (r.pid == row.pid) row.proc (proc_of r.pid rows) free in (
      proc_pushed rows r apart.1 row.pid
          ∙ ap (λ b. cond b (Some r.proc) (proc_of row.pid rows)) (turned r.pid row.pid false apart.0)
          ∙ h.0,
      distinct_pushed rows r apart.1 h.1,
    )

pub with_row : (rows : List Row) (last : ℕ) (w : World) (pid : ℕ) (p : Proc) → world rows last ≡ w → at w pid ≡ None → Distinct rows → (world (rows ++ record { pid = pid; proc = p } ∷ []) pid ≡ inserted w pid p) × Distinct (rows ++ record { pid = pid; proc = p } ∷ [])
with_row rows last w pid p is free h =
    let row : Row = record { pid = pid; proc = p } in
    let gone : proc_of pid rows ≡ None = sym (get_rows pid rows) ∙ ap (λ v. at v pid) is ∙ free in (
      stored_rows rows (rows ++ row ∷ []) pid pid (Some p) (proc_pushed rows row gone)
          ∙ ap (λ (v : World). inserted v pid p) is,
      distinct_pushed rows row gone h,
    )
