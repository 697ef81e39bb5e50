use Rattle.std.proofs.Common.{◌≡◌, ◌∙◌, ℕ, ap, sym, subst, refl, arith, false, [], length, None, Some, count_by, is_some}
use Rattle.sk_world.specs.Common.{get}
use Rattle.sk_table.proofs.Common.{none-some, contains, none, store, count, World, IsBeside, slot, in_slot, processes_from}
use Rattle.sk_table.proofs.Slotting.{nothing_there}
use Rattle.sk_table.proofs.slot_store.SlotStoreProcStore.new.Goals.{In_ok-table}
use Rattle.sk_table.proofs.slot_store.SlotStoreProcStore.new.Goals as goal

contains_none : (q : ℕ) → contains [] q ≡ false
unfolding contains
contains_none q = refl

nothing : (c : In_ok-table) → processes_from c.in_ok-slots.slots 0 c.in_ok-table.table.items ≡ none
nothing c = ap (processes_from c.in_ok-slots.slots 0) c.in_ok-table.ensures.items ∙ nothing_there c.in_ok-slots.slots

pub invariant_of-store : goal.invariant_of-store
invariant_of-store c =
    let none_there = nothing (goal.at.invariant_of-store c).In_ok-table in
    let slots = c.in_ok-slots.slots in
    let table = c.in_ok-table.table in
    let index = c.in_ok-index.index in
    let empty : (q : ℕ) → slot table.items q ≡ None = λ q. ap (λ t. slot t q) c.in_ok-table.ensures.items in
    let few = ap count none_there in
    record {
      wide = omega (arith, c.in_ok-table.ensures.capacity);
      narrow = omega (arith, ap length c.in_ok-table.ensures.items);
      capacity = c.in_ok-slots.ensures.capacity;
      len = ap (count_by is_some) c.in_ok-slots.ensures.empty ∙ sym few;
      few = omega (arith, few);
      live = λ q. ap (λ o. is_some (in_slot slots o)) (empty q) ∙ sym (ap is_some (empty q));
      apart = λ p q i e _. absurd (none-some i (sym (empty p) ∙ e));
      numbers = λ q. ap (λ s. contains s q) c.empty.ensures ∙ contains_none q ∙ sym (ap is_some (empty q));
      beside = subst (λ m. IsBeside m index.children index.members index.uses) (sym none_there) c.in_ok-index.ensures;
      given = omega arith;
    }

pub put-requires-clause-room : goal.put-requires-clause-room
put-requires-clause-room c = omega (arith, ap count (nothing (goal.at.put-requires-clause-room c).In_ok-table))

pub put-requires-clause-free : goal.put-requires-clause-free
put-requires-clause-free c = ap (λ m. get m 1) (nothing (goal.at.put-requires-clause-free c).In_ok-table)

pub returns : goal.returns
returns c = record {
  opening = c.put.ensures ∙ (λ i. let w : World = record { procs = store (nothing (goal.at.returns c).In_ok-table i) 1 (Some (c.first_process.ensures i)); last = 1 } in w);
}
