-- Lineages that are worked out by hand.
use Rattle.std.specs.Prelude.{Some, ℕ, ◌≡◌, true, [], ◌∷◌, List}
use Rattle.sk_laws.specs.Common.{Reason, Deliver, Einval, opening, Record, native, Event, Lineage, lineage_of, history_after, authority_of_lineage}
use Rattle.sk_laws.specs.Scripts.{nothing_given, given, for_number, getpid, fork, setuid, prctl, seccomp, gives, fails, refused, not_now, events_of}

-- a privileged process drops its ids after a fork, and so does its child: two lineages from one root
abbrev pub parting : List Event
parting = events_of ((prctl 1 38 1 0, gives 0) ∷ (fork 1, gives 2) ∷ (setuid 1 5, gives 0) ∷ (setuid 2 7, gives 0) ∷ [])

-- a call that passes two numbers, and no other
abbrev pub call_record : ℕ → ℕ → ℕ → Record
call_record nr a b = native nr 0 (a ∷ b ∷ 0 ∷ 0 ∷ 0 ∷ 0 ∷ [])

-- the lineage of a process after it
abbrev pub lineage_after_parting : ℕ → Lineage
lineage_after_parting pid = lineage_of (history_after nothing_given opening parting []) pid

-- refused calls, deliveries and calls that are not possible are in no lineage
abbrev pub lineage_refused : Lineage
lineage_refused =
    lineage_of (history_after (given (for_number 39 0x00050001 ∷ []) []) opening
    (events_of ((seccomp 1 1 0 0, gives 0) ∷ (getpid 1, refused 1) ∷ (Deliver 1, not_now Reason.NothingWaits) ∷ (setuid 1 4294967295, fails Einval) ∷ [])) []) 1

pub record WorkedLineages : Type 0 where
  -- the child has the calls before the fork and its own
  pub lineage_of_child : lineage_after_parting 2 ≡ record { root = 1; calls = call_record 157 38 1 ∷ call_record 105 7 0 ∷ [] }
  -- the parent has the fork as well, and its own
  pub lineage_of_parent :
      lineage_after_parting 1 ≡ record { root = 1; calls = call_record 157 38 1 ∷ call_record 57 0 0 ∷ call_record 105 5 0 ∷ [] }
  -- where nobody is, a lineage has no calls
  pub lineage_of_nobody : lineage_after_parting 9 ≡ record { root = 9; calls = [] }
  -- what the child may do is what its lineage says
  pub authority_of_child : authority_of_lineage nothing_given opening (lineage_after_parting 2)
      ≡ Some (record { filters = []; creds = record { real = 7; effective = 7; saved = 7; no_new_privs = true } })
  -- it has the attach and the setuid that failed
  pub lineage_without_refusals :
      lineage_refused ≡ record { root = 1; calls = native 317 0 (1 ∷ 0 ∷ 0 ∷ 0 ∷ 0 ∷ 0 ∷ []) ∷ call_record 105 4294967295 0 ∷ [] }
