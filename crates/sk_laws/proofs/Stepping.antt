-- What a call comes to by its verdict, in a world that is not computed.
use Rattle.std.proofs.Common.{◌≡◌, ℕ, ap, sym, subst, Option, None, Some}
use Rattle.sk_laws.specs.Common.{option_map, unwrap_or, Record, verdict_of, Body, Proc, World, at, Event, recorded, Images, Stepped, called_with, reason_of, happened_to, stepped, step_of}
use Rattle.sk_names.specs.declared.call.Call.{Call}

-- the verdict of a process on a call, if the process is there
abbrev pub verdict_by : Record → Option Proc → Option ℕ
verdict_by call o = option_map (λ p. verdict_of p.body.chain call) o

of_process : (declared : Images) (w : World) (pid ip : ℕ) (asked : Call) (verdict : ℕ) (P : Stepped → Type 0) (o : Option Proc)
    → verdict_by (recorded ip asked) o ≡ Some verdict
    → ((body : Body) → P (called_with declared w pid body (recorded ip asked) verdict)) → P (happened_to declared w (Event.Call pid ip asked) o)
of_process declared w pid ip asked verdict P None is holds = cc
of_process declared w pid ip asked verdict P (Some p) is holds =
    let call : Record = recorded ip asked in
    let same : verdict_of p.body.chain call ≡ verdict = ap (λ o. unwrap_or o verdict) is in
    subst (λ v. P (called_with declared w pid p.body call v)) (sym same) (holds p.body)

-- what holds of a call with this verdict, whoever makes it, holds of the step
pub by_verdict : (declared : Images) (w : World) (pid ip : ℕ) (asked : Call) (verdict : ℕ) (P : Stepped → Type 0) → reason_of w (Event.Call pid ip asked) ≡ None
    → verdict_by (recorded ip asked) (at w pid) ≡ Some verdict
    → ((body : Body) → P (called_with declared w pid body (recorded ip asked) verdict)) → P (step_of declared w (Event.Call pid ip asked))
unfolding step_of
by_verdict declared w pid ip asked verdict P possible is holds =
    subst (λ r. P (stepped declared w (Event.Call pid ip asked) r)) (sym possible) (of_process declared w pid ip asked verdict P (at w pid) is holds)
