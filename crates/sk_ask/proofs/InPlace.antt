-- One filter in place of a chain, or none, from what an analysis answers.
use Rattle.std.proofs.Common.{◌≡◌, ℕ, ◌^◌, Bool, false, List, Result, Ok, Err, Vec}
use Rattle.std.specs.Prelude.{IfOk, IfErr}
use Rattle.std.specs.Global.{Global}
use Rattle.sk_insn.specs.declared.insn.Insn.{Insn}
use Rattle.sk_conditions.specs.Steps.{NeverPart}
use Rattle.sk_filter.specs.Valid.{IsValid}
use Rattle.sk_policy_when.specs.declared.smaller.OneFilterFault.{OneFilterFault}
use Rattle.sk_policy_when.specs.Smaller.{AnswersAs, IsNoFilter}
use Rattle.sk_ask.specs.Smaller.{HasNone, IsInPlaceOf}
use Rattle.sk_ask.specs.Steps.{MayBeSpent, when_steps}

pub is_there : (programs : List (List Insn)) (result : Result (Vec Insn Global) OneFilterFault) → IfOk result (λ insns. AnswersAs programs insns.items)
    → IfOk result (λ insns. IsValid insns.items) → IfOk result (λ insns. IsInPlaceOf programs insns.items)
is_there programs (Ok insns) answers valid = record { valid = valid; answers = answers }
is_there programs (Err fault) answers valid = tt

pub is_none : {T : Type 0} (may_spend : ℕ → Bool) (programs : List (List Insn)) (is_spent : Bool) (result : Result T OneFilterFault)
    → IfErr result (IsNoFilter programs is_spent) → MayBeSpent may_spend when_steps is_spent → (NeverPart 0 (2 ^ 32) programs → is_spent ≡ false)
    → IfErr result (HasNone may_spend programs)
is_none may_spend programs is_spent (Ok value) none spent one_way = tt
is_none may_spend programs is_spent (Err fault) none spent one_way = (is_spent, none, spent, one_way)
