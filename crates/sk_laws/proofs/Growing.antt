-- A lineage keeps its filters, and its verdicts are theirs.
use Rattle.std.proofs.Common.{◌≡◌, ◌∙◌, ℕ, ◌==◌, ℤ, ◌≤ℤ◌, inl, inr, arith, slice_get, ap, sym, refl, subst, true, append_assoc, IsTrue, List, [], ◌∷◌, ◌++◌, Option, None, Some}
use Rattle.sk_laws.specs.Common.{is_some, unwrap_or, option_map, cast_signed, w32, Record, Action, action_of, action_part, performs, values_of, first_of, verdict_of, IsAtMost, precedence_of, World, at, Event, Answer, Outcome, recorded, Images, Authority, step_of, world_after, Stepped, Lineage, authority_after_calls, authority_of_lineage, authority_at}
use Rattle.sk_world.proofs.Common.{ints, false≢true, cond_both, eqb-true}
use Rattle.sk_filter.proofs.Verdicts.{first_of-least}
use Rattle.sk_names.specs.declared.call.Call.{Call}
use Rattle.sk_world.proofs.KeptEnd.{alive_is_there}
use Rattle.sk_laws.specs.LineageLaws.{lineage_after, judged_by, GrowsFrom, LineageKeepsFilters, EqualLineagesMayDoTheSame, EqualLineagesAreJudgedAlike, VerdictIsOfLineage, PerformedMeetsNoRefusal}
use Rattle.sk_laws.proofs.EachChange.{Changes, after_calls}
use Rattle.sk_laws.proofs.LineageSteps.{after_more, authority_is_of_lineage, authority_in}
use Rattle.sk_laws.proofs.Happened.{at_step}

grows_twice : (a b c : Authority) → GrowsFrom a b → GrowsFrom b c → GrowsFrom a c
grows_twice a b c first later = record {
  newer = later.newer ++ first.newer;
  filters = later.filters ∙ ap (λ ps. later.newer ++ ps) first.filters ∙ sym (append_assoc later.newer first.newer a.filters);
  no_new_privs = λ set. later.no_new_privs (first.no_new_privs set);
}

grows_each : Changes GrowsFrom
grows_each = record {
  stays = λ a. record { newer = []; filters = refl; no_new_privs = λ set. set };
  ids = λ a creds kept. record { newer = []; filters = refl; no_new_privs = λ set. kept ∙ set };
  marks = λ a. record { newer = []; filters = refl; no_new_privs = λ _. refl };
  attaches = λ a insns _ _. record { newer = insns ∷ []; filters = refl; no_new_privs = λ set. set };
  follows = grows_twice;
}

pub grows_calls : (declared : Images) (calls : List Record) (a : Authority) → GrowsFrom a (authority_after_calls declared calls a)
grows_calls = after_calls GrowsFrom grows_each

pub lineage_keeps_filters : LineageKeepsFilters
lineage_keeps_filters declared calls more a =
    subst (GrowsFrom (authority_after_calls declared calls a)) (sym (after_more declared calls more a)) (grows_calls declared more (authority_after_calls declared calls a))

-- ---- verdicts
-- the verdict in the answer to a call is that of the caller's filters
abbrev JudgedByFilters : World → ℕ → Record → ℕ → Outcome → Stepped → Type 0
JudgedByFilters w pid call verdict outcome s =
    s.answer ≡ Answer.Call verdict outcome → IsTrue (is_some (at w pid)) × (judged_by call (authority_at w pid) ≡ Some verdict)

pub judged_by_filters : (declared : Images) (w : World) (pid ip : ℕ) (asked : Call) (verdict : ℕ) (outcome : Outcome)
    → JudgedByFilters w pid (recorded ip asked) verdict outcome (step_of declared w (Event.Call pid ip asked))
judged_by_filters declared w pid ip asked verdict outcome =
    let call : Record = recorded ip asked in
    at_step declared w (Event.Call pid ip asked) (JudgedByFilters w pid call verdict outcome) (λ _ _ made. cc) (λ p there alive made.
    let same : verdict_of p.body.chain call ≡ verdict = cc in
    (alive_is_there (at w pid) alive, ap (λ o. judged_by call (authority_in o)) there ∙ ap (λ v. Some v) same))

pub verdict_is_of_lineage : VerdictIsOfLineage
verdict_is_of_lineage declared w events pid ip asked verdict outcome made =
    let judged = judged_by_filters declared (world_after declared w events) pid ip asked verdict outcome made in
    ap (judged_by (recorded ip asked)) (sym (authority_is_of_lineage declared w events pid judged.0).1) ∙ judged.1

pub equal_lineages_may_do_the_same : EqualLineagesMayDoTheSame
equal_lineages_may_do_the_same declared v w one other p q equal =
    let lineage : Lineage = lineage_after declared v one p in
    let same : authority_of_lineage declared v lineage ≡ authority_of_lineage declared w (lineage_after declared w other q) =
    (λ i. option_map (authority_after_calls declared (equal.calls i)) (equal.roots i)) in
    (authority_is_of_lineage declared v one p equal.p_there).1 ∙ same ∙ sym (authority_is_of_lineage declared w other q equal.q_there).1

pub equal_lineages_are_judged_alike : EqualLineagesAreJudgedAlike
equal_lineages_are_judged_alike declared v w one other p q call equal =
    ap (judged_by call) (equal_lineages_may_do_the_same declared v w one other p q equal)

-- ---- a verdict that lets a call through
-- an action that performs has no precedence over SECCOMP_RET_LOG
abbrev LetsThrough : ℕ → Option Action → Type 0
LetsThrough value o = IsTrue (performs (unwrap_or o Action.Unknown)) → precedence_of 0x7ffc0000 ≤ℤ precedence_of value

of_action : (value part : ℕ) → (part == action_part value) ≡ true → precedence_of 0x7ffc0000 ≤ℤ cast_signed w32 part → precedence_of 0x7ffc0000 ≤ℤ precedence_of value
of_action value part is later = subst (λ k. precedence_of 0x7ffc0000 ≤ℤ cast_signed w32 k) (eqb-true part (action_part value) is) later

pub lets_through : (value : ℕ) → IsTrue (performs (action_of value)) → precedence_of 0x7ffc0000 ≤ℤ precedence_of value
unfolding action_of
lets_through value =
    cond_both (0x80000000 == action_part value) (Some Action.KillProcess) _ (LetsThrough value) (λ _ h. absurd (false≢true h))
    (λ _. cond_both (0 == action_part value) (Some Action.KillThread) _ (LetsThrough value) (λ _ h. absurd (false≢true h))
    (λ _. cond_both (0x00030000 == action_part value) (Some Action.Trap) _ (LetsThrough value) (λ _ h. absurd (false≢true h))
    (λ _. cond_both (0x00050000 == action_part value) (Some Action.Errno) _ (LetsThrough value) (λ _ h. absurd (false≢true h))
    (λ _. cond_both (0x7fc00000 == action_part value) (Some Action.UserNotif) _ (LetsThrough value) (λ _ h. absurd (false≢true h))
    (λ _. cond_both (0x7ff00000 == action_part value) (Some Action.Trace) _ (LetsThrough value) (λ _ h. absurd (false≢true h))
    (λ _. cond_both (0x7ffc0000 == action_part value) (Some Action.Log) _ (LetsThrough value) (λ is _. of_action value 0x7ffc0000 is (omega (arith, ints)))
    (λ _. cond_both (0x7fff0000 == action_part value) (Some Action.Allow) None (LetsThrough value) (λ is _. of_action value 0x7fff0000 is (omega (arith, ints)))
    (λ _ h. absurd (false≢true h)))))))))

at_most_later : (a p q : ℤ) (m n : ℕ) → a ≤ℤ p → IsAtMost p m q n → a ≤ℤ q
at_most_later a p q m n below (inl less) = omega (arith, ints, below, less)
at_most_later a p q m n below (inr (same, place)) = subst (λ x. a ≤ℤ x) same below

no_refusal : (values : List ℕ) (place value : ℕ) → IsTrue (performs (action_of (first_of values))) → slice_get values place ≡ Some value → precedence_of 0x7ffc0000 ≤ℤ precedence_of value
no_refusal [] place value performed here = cc
no_refusal (first ∷ rest) place value performed here =
    let least = first_of-least (first ∷ rest) (λ e. cc) in
    at_most_later (precedence_of 0x7ffc0000) (precedence_of (first_of (first ∷ rest))) (precedence_of value) least.0 place
    (lets_through (first_of (first ∷ rest)) performed) (least.2 place value here)

pub performed_meets_no_refusal : PerformedMeetsNoRefusal
performed_meets_no_refusal declared w events pid ip asked verdict outcome a place value made performed known here =
    let call : Record = recorded ip asked in
    let same : verdict ≡ verdict_of a.filters call =
    ap (λ o. unwrap_or o verdict) (sym (verdict_is_of_lineage declared w events pid ip asked verdict outcome made) ∙ ap (judged_by call) known) in
    no_refusal (values_of a.filters call) place value (subst (λ v. IsTrue (performs (action_of v))) same performed) here
