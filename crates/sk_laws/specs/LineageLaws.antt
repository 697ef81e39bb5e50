-- Laws on lineages: what a process may do is what its lineage says.
use Rattle.std.specs.Prelude.{ℕ, ◌≡◌, ◌≤ℤ◌, ◌++◌, IsTrue, List, [], slice_get, Option, Some}
use Rattle.sk_laws.specs.Common.{is_some, option_map, Insn, Record, action_of, performs, values_of, verdict_of, precedence_of, INIT, World, at, opening, Event, Answer, Outcome, Authority, recorded, Images, step_of, world_after, Lineage, Happening, lineage_before, calls_added, lineage_of, authority_after_calls, authority_of_lineage, history_after, authority_at}
use Rattle.sk_names.specs.declared.call.Call.{Call}

-- an event with its answer
abbrev pub happening : Images → World → Event → Happening
happening declared w event = (event, (step_of declared w event).answer)

-- the lineage of a process after these events
abbrev pub lineage_after : Images → World → List Event → ℕ → Lineage
lineage_after declared w events pid = lineage_of (history_after declared w events []) pid

-- one event: a process that is there afterwards goes on from one that was there before, whose authority
-- the calls that the event adds to the lineage have changed, and nothing else
abbrev pub EventChangesAuthority : Type 0
EventChangesAuthority =
    (declared : Images) (w : World) (event : Event) (pid : ℕ) → IsTrue (is_some (at (step_of declared w event).world pid))
    → IsTrue (is_some (at w (lineage_before pid (happening declared w event))))
    × (authority_at (step_of declared w event).world pid
    ≡ option_map (authority_after_calls declared (calls_added pid (happening declared w event))) (authority_at w (lineage_before pid (happening declared w event))))

-- any list of events: a process that is there afterwards comes from one that was there before, and its
-- authority is that of its lineage
abbrev pub AuthorityIsOfLineage : Type 0
AuthorityIsOfLineage =
    (declared : Images) (w : World) (events : List Event) (pid : ℕ) → IsTrue (is_some (at (world_after declared w events) pid))
    → IsTrue (is_some (at w (lineage_after declared w events pid).root))
    × (authority_at (world_after declared w events) pid ≡ authority_of_lineage declared w (lineage_after declared w events pid))

-- from the opening every lineage comes from process 1
abbrev pub LineageComesFromInit : Type 0
LineageComesFromInit =
    (declared : Images) (events : List Event) (pid : ℕ) → IsTrue (is_some (at (world_after declared opening events) pid))
    → (lineage_after declared opening events pid).root ≡ INIT

-- an authority after another one of the same lineage: its filters are the older ones with newer ones in
-- front, and no_new_privs once set stays set
pub record GrowsFrom (old new : Authority) : Type 0 where
  pub newer : List (List Insn)
  pub filters : new.filters ≡ newer ++ old.filters
  pub no_new_privs : IsTrue old.creds.no_new_privs → IsTrue new.creds.no_new_privs

-- the longer a lineage, the more filters: an attached filter stays for good
abbrev pub LineageKeepsFilters : Type 0
LineageKeepsFilters =
    (declared : Images) (calls more : List Record) (a : Authority)
    → GrowsFrom (authority_after_calls declared calls a) (authority_after_calls declared (calls ++ more) a)

-- the verdict of an authority's filters on a call, if there is such an authority
abbrev pub judged_by : Record → Option Authority → Option ℕ
judged_by call o = option_map (λ a. verdict_of a.filters call) o

-- equal lineages from equal roots: the two processes have made the same calls, each with those that it was forked from,
-- and come from processes with the same authority
pub record HaveEqualLineages (declared : Images) (v w : World) (one other : List Event) (p q : ℕ) : Type 0 where
  pub p_there : IsTrue (is_some (at (world_after declared v one) p))
  pub q_there : IsTrue (is_some (at (world_after declared w other) q))
  pub roots : authority_at v (lineage_after declared v one p).root ≡ authority_at w (lineage_after declared w other q).root
  pub calls : (lineage_after declared v one p).calls ≡ (lineage_after declared w other q).calls

-- they have equal authority, whatever else happened in the two runs
abbrev pub EqualLineagesMayDoTheSame : Type 0
EqualLineagesMayDoTheSame =
    (declared : Images) (v w : World) (one other : List Event) (p q : ℕ) → HaveEqualLineages declared v w one other p q
    → authority_at (world_after declared v one) p ≡ authority_at (world_after declared w other) q

-- so their filters give equal verdicts on every record
abbrev pub EqualLineagesAreJudgedAlike : Type 0
EqualLineagesAreJudgedAlike =
    (declared : Images) (v w : World) (one other : List Event) (p q : ℕ) (call : Record) → HaveEqualLineages declared v w one other p q
    → judged_by call (authority_at (world_after declared v one) p) ≡ judged_by call (authority_at (world_after declared w other) q)

-- the verdict on a call is that of the filters that the caller's lineage has attached until then
abbrev pub VerdictIsOfLineage : Type 0
VerdictIsOfLineage =
    (declared : Images) (w : World) (events : List Event) (pid ip : ℕ) (call : Call) (verdict : ℕ) (outcome : Outcome)
    → (step_of declared (world_after declared w events) (Event.Call pid ip call)).answer ≡ Answer.Call verdict outcome
    → judged_by (recorded ip call) (authority_of_lineage declared w (lineage_after declared w events pid)) ≡ Some verdict

-- a call that is performed has met no filter of its lineage whose action has precedence over SECCOMP_RET_LOG
abbrev pub PerformedMeetsNoRefusal : Type 0
PerformedMeetsNoRefusal =
    (declared : Images) (w : World) (events : List Event) (pid ip : ℕ) (call : Call) (verdict : ℕ) (outcome : Outcome) (a : Authority) (place value : ℕ)
    → (step_of declared (world_after declared w events) (Event.Call pid ip call)).answer ≡ Answer.Call verdict outcome → IsTrue (performs (action_of verdict))
    → authority_of_lineage declared w (lineage_after declared w events pid) ≡ Some a
    → slice_get (values_of a.filters (recorded ip call)) place ≡ Some value
    → precedence_of 0x7ffc0000 ≤ℤ precedence_of value
