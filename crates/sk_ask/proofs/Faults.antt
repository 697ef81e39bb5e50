-- Words that stand for no call, though their name may be known.
use Rattle.std.proofs.Common.{◌≡◌, ℕ, List, refl}
use Rattle.sk_names.specs.declared.architecture.Architecture.{Architecture}
use Rattle.sk_replay.specs.declared.fault.CallFault.{CallFault}
use Rattle.sk_replay.specs.declared.fault.CallFault.TheVariants.{NoCall, Unclosed, Unquoted, Argument, TooMany}
use Rattle.sk_replay.specs.Faults.{fault_of}
use Rattle.sk_ask.specs.Whys.{fault_line, other_line}

pub other_faults : (by : Architecture) (word : List ℕ) (others : List (List ℕ)) (fault : CallFault) → (fault ≡ NoCall → ⊥)
    → fault_line by word others (fault_of fault) ≡ other_line (fault_of fault)
other_faults by word others NoCall other = absurd (other refl)
other_faults by word others Unclosed other = refl
other_faults by word others Unquoted other = refl
other_faults by word others (Argument number part) other = refl
other_faults by word others TooMany other = refl
