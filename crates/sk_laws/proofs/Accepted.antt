-- Every filter in force was accepted by the rules.
use Rattle.std.proofs.Common.{◌≡◌, ℕ, ◌+◌, ◌==◌, arith, sym, refl, subst, cond, Bool, true, false, nat_lt, length, IsTrue, List, [], ◌∷◌, Option, None, Some, IfSome}
use Rattle.sk_laws.specs.Common.{Proc, is_some, option_map, Insn, Record, first_fault, cost_of, StepsAreBounded, AllValid, INIT, none, first_process, opening, at, Images, Authority, step_of, world_after, lineage_before, calls_added, authority_after_calls, authority_at}
use Rattle.sk_world.proofs.Common.{true≢false, ltb-false}
use Rattle.sk_filter.specs.declared.fault.CheckFault.{CheckFault}
use Rattle.sk_filter.proofs.FirstFaults.{first_fault-None}
use Rattle.sk_filter.proofs.ValidMeanings.{valid_returns}
use Rattle.sk_filter.proofs.Bounds.{bounded}
use Rattle.sk_world.proofs.Maps.{get_store}
use Rattle.sk_laws.specs.LineageLaws.{happening}
use Rattle.sk_laws.specs.FilterLaws.{AreAccepted, HasAccepted, EventKeepsAccepted, RunKeepsAccepted, AllReturn, AcceptedReturn, AcceptedAreBounded, FiltersInForceAreAccepted, StepsInForceAreBounded}
use Rattle.sk_laws.proofs.EachChange.{Changes, after_calls}
use Rattle.sk_laws.proofs.LineageSteps.{event_changes_authority, authority_in}

-- accepted filters stay so
abbrev Keeps : Authority → Authority → Type 0
Keeps old new = AreAccepted old.filters → AreAccepted new.filters

no_fault : (o : Option CheckFault) → is_some o ≡ false → o ≡ None
no_fault None is = refl
no_fault (Some fault) is = absurd (true≢false is)

with_newest : (a : Authority) (insns : List Insn) → is_some (first_fault insns) ≡ false → nat_lt 32768 (length insns + cost_of a.filters) ≡ false
    → Keeps a (record a { filters = insns ∷ a.filters })
with_newest a insns sound fits accepted =
    let limit = ltb-false 32768 (length insns + cost_of a.filters) fits in
    record {
      valid = (first_fault-None insns (no_fault (first_fault insns) sound), accepted.valid);
      limited = omega arith;
    }

accepted_each : Changes Keeps
accepted_each = record {
  stays = λ a accepted. accepted;
  ids = λ a creds _ accepted. accepted;
  marks = λ a accepted. accepted;
  attaches = with_newest;
  follows = λ a b c first later accepted. later (first accepted);
}

of_those_there : (o : Option Proc) → (IsTrue (is_some o) → IfSome (authority_in o) (λ a. AreAccepted a.filters)) → IfSome (authority_in o) (λ a. AreAccepted a.filters)
of_those_there None is = tt
of_those_there (Some p) is = is refl

accepted_later : (declared : Images) (calls : List Record) (o : Option Authority) → IfSome o (λ a. AreAccepted a.filters) → IfSome (option_map (authority_after_calls declared calls) o) (λ a. AreAccepted a.filters)
accepted_later declared calls None accepted = tt
accepted_later declared calls (Some a) accepted = after_calls Keeps accepted_each declared calls a accepted

pub event_keeps_accepted : EventKeepsAccepted
event_keeps_accepted declared w event accepted pid =
    of_those_there (at (step_of declared w event).world pid) (λ there.
    let from : ℕ = lineage_before pid (happening declared w event) in
    let calls : List Record = calls_added pid (happening declared w event) in
    subst (λ o. IfSome o (λ a. AreAccepted a.filters)) (sym (event_changes_authority declared w event pid there).1)
    (accepted_later declared calls (authority_at w from) (accepted from)))

pub run_keeps_accepted : RunKeepsAccepted
run_keeps_accepted declared w [] accepted = accepted
run_keeps_accepted declared w (event ∷ events) accepted =
    run_keeps_accepted declared (step_of declared w event).world events (event_keeps_accepted declared w event accepted)

all_return : (filters : List (List Insn)) → AllValid filters → (call : Record) → AllReturn filters call
all_return [] valid call = tt
all_return (newest ∷ older) valid call = (valid_returns newest valid.0 call, all_return older valid.1 call)

pub accepted_return : AcceptedReturn
accepted_return filters accepted call = all_return filters accepted.valid call

pub accepted_are_bounded : AcceptedAreBounded
accepted_are_bounded filters accepted = bounded filters accepted.limited

-- process 1 starts without filters, and there is nobody else
only_init : (b : Bool) → IfSome (authority_in (cond b (Some first_process) None)) (λ a. AreAccepted a.filters)
only_init true = record { valid = tt; limited = omega arith }
only_init false = tt

accepted_opening : HasAccepted opening
accepted_opening pid =
    subst (λ o. IfSome (authority_in o) (λ a. AreAccepted a.filters)) (sym (get_store none INIT (Some first_process) pid)) (only_init (pid == INIT))

pub filters_in_force_are_accepted : FiltersInForceAreAccepted
filters_in_force_are_accepted declared events = run_keeps_accepted declared opening events accepted_opening

pub steps_in_force_are_bounded : StepsInForceAreBounded
steps_in_force_are_bounded declared events pid = each (authority_at (world_after declared opening events) pid) (filters_in_force_are_accepted declared events pid)
  where
    each : (o : Option Authority) → IfSome o (λ a. AreAccepted a.filters) → IfSome o (λ a. StepsAreBounded a.filters)
    each None accepted = tt
    each (Some a) accepted = accepted_are_bounded a.filters accepted
