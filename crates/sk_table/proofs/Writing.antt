-- What a store of slots says of the world after the process of one pid was written, or taken out.
use Rattle.std.proofs.Common.{◌≡◌, ◌∙◌, ◌<◌, ℕ, arith, ap, sym, refl, cond, List, length, Option, None, Some, inl, inr, is_some, option_map}
use Rattle.std.proofs.lemmas.List.Sums.{sum_by-set}
use Rattle.sk_world.specs.Common.{get}
use Rattle.sk_table.proofs.Common.{cases_lt, get_or_past, none-some, Slab, get as slot_get, Updates, slab_len, with_value, Body, Links, Proc, store, World, at, stored, body_changed, links_changed, with_body, with_links, slot, in_slot, processes_from}
use Rattle.slab.proofs.SlabLemmas.{Updates-with_value, ContainsKey-within}
use Rattle.sk_table.proofs.Indexing.{none_back}
use Rattle.sk_table.proofs.Slotting.{read, slot_kept, not_its, processes_changed, live_changed}

-- the world of a store with these fields
abbrev pub world : Slab Proc → List (Option ℕ) → ℕ → World
world slots table last = record { procs = processes_from slots 0 table; last = last }

-- what the table answers
pub entry_is : (table seen : List (Option ℕ)) (pid : ℕ) (o : Option ℕ) → o ≡ slot seen pid → seen ≡ table → slot table pid ≡ o
entry_is table seen pid o is same = ap (λ t. slot t pid) (sym same) ∙ sym is

pub entry_within : (table : List (Option ℕ)) (pid i : ℕ) → slot table pid ≡ Some i → pid < length table
entry_within table pid i its =
    elim (cases_lt pid (length table)) [
      | inl l ↦ l
      | inr l ↦ absurd (none-some i (sym (get_or_past table pid None l) ∙ its))
    ]

one_each : (p : Proc) (o : Option Proc) → o ≡ Some p → ◌≡◌ {A = ℕ} (cond (is_some o) 1 0) 1
one_each p o e = ap (λ o. cond (is_some o) 1 0) e

pub len_written : (slots : Slab Proc) (i : ℕ) (p p' : Proc) → slot_get slots i ≡ Some p → slab_len (with_value slots i p') ≡ slab_len slots
len_written slots i p p' has =
    omega (arith, sum_by-set (λ o. cond (is_some o) 1 0) slots.slots i (Some p') None (ContainsKey-within slots i (ap is_some has)), one_each p _ has)

module _ (slots : Slab Proc) (table : List (Option ℕ)) (last : ℕ) (w : World) (pid : ℕ) (is : world slots table last ≡ w) where
  pub absent : slot table pid ≡ None → at w pid ≡ None
  absent its = ap (λ v. at v pid) (sym is) ∙ read slots table pid ∙ ap (in_slot slots) its

  pub nothing_stored : slot table pid ≡ None → stored w pid None ≡ w
  nothing_stored its = ap (λ m. let v : World = record { procs = m; last = w.last } in v) (none_back w.procs pid (absent its))

  module _ (i : ℕ) (p : Proc) (its : slot table pid ≡ Some i) (has : slot_get slots i ≡ Some p) where
    pub here : get (processes_from slots 0 table) pid ≡ Some p
    here = read slots table pid ∙ ap (in_slot slots) its ∙ has

    pub found : at w pid ≡ Some p
    found = ap (λ v. at v pid) (sym is) ∙ here

    module _ (apart : (p q i : ℕ) → slot table p ≡ Some i → slot table q ≡ Some i → p ≡ q) where
      module _ (p' : Proc) where
        updates : Updates slots (with_value slots i p') i (Some p')
        updates = Updates-with_value slots i p' (ap is_some has)

        pub written : processes_from (with_value slots i p') 0 table ≡ store (processes_from slots 0 table) pid (Some p')
        written =
            processes_changed slots (with_value slots i p') table table pid i (Some i) (Some p') updates
            (slot_kept table pid (Some i) its) (not_its slots table pid i apart its) updates.changed

        pub live_written : ((q : ℕ) → is_some (in_slot slots (slot table q)) ≡ is_some (slot table q)) → (q : ℕ) → is_some (in_slot (with_value slots i p') (slot table q)) ≡ is_some (slot table q)
        live_written live =
            live_changed slots (with_value slots i p') table table pid i (Some i) (Some p') updates
            (slot_kept table pid (Some i) its) (not_its slots table pid i apart its) updates.changed live refl

        pub world_written : world (with_value slots i p') table last ≡ stored w pid (Some p')
        world_written = ap (λ m. let v : World = record { procs = m; last = last } in v) written ∙ ap (λ v. stored v pid (Some p')) is

      pub body_written : (body : Body) → world (with_value slots i (record p { body = body })) table last ≡ with_body w pid body
      body_written body =
          world_written (record p { body = body })
          ∙ ap (λ o. stored w pid (option_map (body_changed (λ old. body)) o)) (sym found)

      pub links_written : (links : Links) → world (with_value slots i (record p { links = links })) table last ≡ with_links w pid links
      links_written links =
          world_written (record p { links = links })
          ∙ ap (λ o. stored w pid (option_map (links_changed (λ old. links)) o)) (sym found)
