use Rattle.std.proofs.Common.{length}
use Rattle.sk_profile_json.proofs.parting.+all_hold.Given as goal

abbrev pub decreases-all_hold : goal.decreases-all_hold
decreases-all_hold l = length l.conditions.now
