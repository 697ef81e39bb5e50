-- What the slots say of the processes, before and after a slot was filled, emptied or written.
use Rattle.std.proofs.Common.{◌≡◌, ◌≢◌, ◌∙◌, ◌-◌, ◌<◌, ◌==◌, ◌||◌, ◌&&◌, ℕ, suc, arith, ap, sym, refl, Bool, true, false, cond, not, List, [], ◌∷◌, length, get_or, set, Option, None, Some, inl, inr, get_or-set_same, get_or-set_other, nat_lt, is_some, eqb-true, eq-eqb, ne_eqb, lt-ltb, le-ltb, true≢false}
use Rattle.sk_world.specs.Common.{get}
use Rattle.sk_table.proofs.Common.{eqb-false, cases_eq, cases_order, none-some, same_Some, Slab, get as slot_get, Updates, contains, Proc, none, store, get_store, same_map, slot, in_slot, processes_from}

-- ---- what the processes of the slots are

nothing_either : (b : Bool) → ◌≡◌ {A = Option Proc} None (cond b None None)
nothing_either true = refl
nothing_either false = refl

get_from : (slots : Slab Proc) (pid : ℕ) (os : List (Option ℕ)) (q : ℕ) → get (processes_from slots pid os) q ≡ cond (nat_lt q pid) None (in_slot slots (get_or os (q - pid) None))
unfolding processes_from
get_from slots pid [] q = nothing_either (nat_lt q pid)
get_from slots pid (o ∷ os) q =
    get_store (processes_from slots (suc pid) os) pid (in_slot slots o) q
    ∙ ap (cond (q == pid) (in_slot slots o)) (get_from slots (suc pid) os q)
    ∙ elim (cases_order q pid) [
      | inl e ↦
          let there : (q == pid) ≡ true = eq-eqb q pid e in
          let from : nat_lt q pid ≡ false = le-ltb q pid (omega (arith, e)) in
          let at : q - pid ≡ 0 = omega (arith, e) in
          (λ i. cond (there i) (in_slot slots o) (cond (nat_lt q (suc pid)) None (in_slot slots (get_or os (q - suc pid) None))))
          ∙ sym (λ i. cond (from i) None (in_slot slots (get_or (o ∷ os) (at i) None)))
      | inr (inl l) ↦
          let other : (q == pid) ≡ false = ne_eqb q pid (λ e. omega (arith, e, l)) in
          let before : nat_lt q pid ≡ true = lt-ltb q pid l in
          let next : nat_lt q (suc pid) ≡ true = lt-ltb q (suc pid) (omega (arith, l)) in
          (λ i. cond (other i) (in_slot slots o) (cond (next i) None (in_slot slots (get_or os (q - suc pid) None))))
          ∙ sym (λ i. cond (before i) None (in_slot slots (get_or (o ∷ os) (q - pid) None)))
      | inr (inr l) ↦
          let other : (q == pid) ≡ false = ne_eqb q pid (λ e. omega (arith, e, l)) in
          let from : nat_lt q pid ≡ false = le-ltb q pid (omega (arith, l)) in
          let next : nat_lt q (suc pid) ≡ false = le-ltb q (suc pid) (omega (arith, l)) in
          let at : q - pid ≡ suc (q - suc pid) = omega (arith, l) in
          (λ i. cond (other i) (in_slot slots o) (cond (next i) None (in_slot slots (get_or os (q - suc pid) None))))
          ∙ sym (λ i. cond (from i) None (in_slot slots (get_or (o ∷ os) (at i) None)))
    ]

-- the process of a pid is the one in its slot
pub read : (slots : Slab Proc) (table : List (Option ℕ)) (q : ℕ) → get (processes_from slots 0 table) q ≡ in_slot slots (slot table q)
read slots table q =
    let from : nat_lt q 0 ≡ false = le-ltb q 0 (omega arith) in
    let at : q - 0 ≡ q = omega arith in
    get_from slots 0 table q ∙ (λ i. cond (from i) None (in_slot slots (get_or table (at i) None)))

pub nothing_there : (slots : Slab Proc) → processes_from slots 0 [] ≡ none
unfolding processes_from
nothing_there slots = refl

-- ---- one entry of the table is written

pub slot_set : (table : List (Option ℕ)) (pid : ℕ) (o : Option ℕ) → pid < length table → (q : ℕ) → slot (set table pid o) q ≡ cond (q == pid) o (slot table q)
slot_set table pid o within q =
    elim (q == pid) as (λ b. (q == pid) ≡ b → slot (set table pid o) q ≡ cond b o (slot table q)) [
      | true ↦ λ e. ap (slot (set table pid o)) (eqb-true q pid e) ∙ get_or-set_same table pid o None within
      | false ↦ λ e. get_or-set_other table pid q o None (eqb-false q pid e)
    ] refl

-- an entry is what it is
pub slot_kept : (table : List (Option ℕ)) (pid : ℕ) (o : Option ℕ) → slot table pid ≡ o → (q : ℕ) → slot table q ≡ cond (q == pid) o (slot table q)
slot_kept table pid o is q =
    elim (q == pid) as (λ b. (q == pid) ≡ b → slot table q ≡ cond b o (slot table q)) [
      | true ↦ λ e. ap (slot table) (eqb-true q pid e) ∙ is
      | false ↦ λ e. refl
    ] refl

-- ---- which slots the other pids do not have

module _ (slots : Slab Proc) (table : List (Option ℕ)) (pid i : ℕ) where
  -- an empty one
  pub not_empty : ((q : ℕ) → is_some (in_slot slots (slot table q)) ≡ is_some (slot table q)) → slot_get slots i ≡ None → (q : ℕ) → q ≢ pid → slot table q ≢ Some i
  not_empty live empty q ne has =
      true≢false (sym (ap is_some has) ∙ sym (live q) ∙ ap (λ o. is_some (in_slot slots o)) has ∙ ap is_some empty)

  -- the one of a pid
  pub not_its : ((p q i : ℕ) → slot table p ≡ Some i → slot table q ≡ Some i → p ≡ q) → slot table pid ≡ Some i → (q : ℕ) → q ≢ pid → slot table q ≢ Some i
  not_its apart its q ne has = ne (apart q pid i has its)

-- ---- one slot and one entry of the table are written

module _ (slots slots' : Slab Proc) (table table' : List (Option ℕ)) (pid i : ℕ) (o : Option ℕ) (v : Option Proc)
    (updates : Updates slots slots' i v) (there : (q : ℕ) → slot table' q ≡ cond (q == pid) o (slot table q))
    (free : (q : ℕ) → q ≢ pid → slot table q ≢ Some i) (own : in_slot slots' o ≡ v) where
  others : (q : ℕ) → q ≢ pid → (x : Option ℕ) → slot table q ≡ x → in_slot slots' x ≡ in_slot slots x
  others q ne None e = refl
  others q ne (Some j) e = updates.others j (λ same. free q ne (e ∙ ap Some same))

  in_slots : (q : ℕ) → in_slot slots' (slot table' q) ≡ cond (q == pid) v (in_slot slots (slot table q))
  in_slots q =
      ap (in_slot slots') (there q)
      ∙ elim (q == pid) as (λ b. (q == pid) ≡ b → in_slot slots' (cond b o (slot table q)) ≡ cond b v (in_slot slots (slot table q))) [
        | true ↦ λ _. own
        | false ↦ λ e. others q (eqb-false q pid e) (slot table q) refl
      ] refl

  -- the process of one pid is another
  pub processes_changed : processes_from slots' 0 table' ≡ store (processes_from slots 0 table) pid v
  processes_changed =
      same_map _ _
      (λ q. read slots' table' q ∙ in_slots q
      ∙ ap (cond (q == pid) v) (sym (read slots table q))
      ∙ sym (get_store (processes_from slots 0 table) pid v q))

  pub live_changed : ((q : ℕ) → is_some (in_slot slots (slot table q)) ≡ is_some (slot table q)) → is_some v ≡ is_some o → (q : ℕ) → is_some (in_slot slots' (slot table' q)) ≡ is_some (slot table' q)
  live_changed live both q =
      ap is_some (in_slots q)
      ∙ elim (q == pid) as (λ b. is_some (cond b v (in_slot slots (slot table q))) ≡ is_some (cond b o (slot table q))) [ true ↦ both | false ↦ live q ]
      ∙ ap is_some (sym (there q))

  here : (q : ℕ) → q ≡ pid → slot table' q ≡ o
  here q e = there q ∙ ap (λ b. cond b o (slot table q)) (eq-eqb q pid e)

  elsewhere : (q : ℕ) → q ≢ pid → slot table' q ≡ slot table q
  elsewhere q ne = there q ∙ ap (λ b. cond b o (slot table q)) (ne_eqb q pid ne)

  pub apart_changed : ((p q j : ℕ) → slot table p ≡ Some j → slot table q ≡ Some j → p ≡ q) → ((j : ℕ) → o ≡ Some j → j ≡ i)
      → (p q j : ℕ) → slot table' p ≡ Some j → slot table' q ≡ Some j → p ≡ q
  apart_changed apart only p q j at_p at_q =
      elim (cases_eq p pid) [
        | inl e ↦ elim (cases_eq q pid) [
          | inl f ↦ e ∙ sym f
          | inr g ↦ absurd (free q g (sym (elsewhere q g) ∙ at_q ∙ ap Some (only j (sym (here p e) ∙ at_p))))
        ]
        | inr d ↦ elim (cases_eq q pid) [
          | inl f ↦ absurd (free p d (sym (elsewhere p d) ∙ at_p ∙ ap Some (only j (sym (here q f) ∙ at_q))))
          | inr g ↦ apart p q j (sym (elsewhere p d) ∙ at_p) (sym (elsewhere q g) ∙ at_q)
        ]
      ]

  module _ (numbers numbers' : List ℕ) (are : (q : ℕ) → contains numbers q ≡ is_some (slot table q)) where
    pub numbers_inserted : ((q : ℕ) → contains numbers' q ≡ ((q == pid) || contains numbers q)) → is_some o ≡ true → (q : ℕ) → contains numbers' q ≡ is_some (slot table' q)
    numbers_inserted more some q =
        more q ∙ ap (λ b. (q == pid) || b) (are q)
        ∙ elim (q == pid) as (λ b. (b || is_some (slot table q)) ≡ is_some (cond b o (slot table q))) [ true ↦ sym some | false ↦ refl ]
        ∙ ap is_some (sym (there q))

    pub numbers_removed : ((q : ℕ) → contains numbers' q ≡ (not (q == pid) && contains numbers q)) → is_some o ≡ false → (q : ℕ) → contains numbers' q ≡ is_some (slot table' q)
    numbers_removed less gone q =
        less q ∙ ap (λ b. not (q == pid) && b) (are q)
        ∙ elim (q == pid) as (λ b. (not b && is_some (slot table q)) ≡ is_some (cond b o (slot table q))) [ true ↦ sym gone | false ↦ refl ]
        ∙ ap is_some (sym (there q))

pub only_it : (i j : ℕ) → Some i ≡ Some j → j ≡ i
only_it i j e = sym (same_Some i j e)

pub only_none : (i j : ℕ) → None ≡ Some j → j ≡ i
only_none i j e = absurd (none-some j e)
